-- `call_uploads::uploads_whole` meets its contract: measured and noted, then the notes' records written where the buffer is long enough. Assumes nothing.
use native.Mathlib.Omega.{arith}
use borrow.Author.Rules.{rules}
use Rattle.mem_layout.specs.Memory.{state_of}
use Rattle.mem_layout.proofs.WholeLaws.{whole-stands}
use Rattle.call_uploads.proofs.Noted.{rows-noted, records-noted}
use Rattle.call_uploads.proofs.Replies.{refused-short, all-written}
use Rattle.call_uploads.proofs.uploads_whole.Goals as goal

pub returns-then-answer-counts : goal.returns-then-answer-counts
returns-then-answer-counts c =
    let a = c.args in
    refused-short a.memory.whole.tables.now a.memory.whole.arena.now a.prefix.now a.answer.now c.measure-counts.result.bytes c.measure-counts.ensures.sized c.if-answer-counts.true

pub write-requires : goal.write-requires
write-requires c =
    let s = state_of c.args.memory.whole.tables.now c.args.memory.whole.arena.now in
    let stands = whole-stands c.args.memory.whole.tables.now c.args.memory.whole.arena.now c.args.memory.whole.bytes c.args.memory.whole.is_whole in
    let m = c.measure-counts in
    let told = records-noted c.args.memory.whole.tables.now c.args.memory.whole.arena.now s stands c.args.prefix.now m.new.notes m.result.records m.ensures.noted m.ensures.counted in
    let n = m.ensures.sized in
    let few = m.ensures.few in
    let l = c.if-answer-counts.false in
    (search rules, rows-noted c.args.memory.whole.tables.now c.args.memory.whole.arena.now s stands c.args.prefix.now m.new.notes m.result.records m.ensures.noted, rw told (omega arith))

pub returns : goal.returns
returns c =
    let s = state_of c.args.memory.whole.tables.now c.args.memory.whole.arena.now in
    let stands = whole-stands c.args.memory.whole.tables.now c.args.memory.whole.arena.now c.args.memory.whole.bytes c.args.memory.whole.is_whole in
    let m = c.measure-counts in
    all-written c.args.memory.whole.tables.now c.args.memory.whole.arena.now c.args.prefix.now c.args.answer.now m.result _ _ (m.ensures.counted, m.ensures.sized) c.if-answer-counts.false (records-noted c.args.memory.whole.tables.now c.args.memory.whole.arena.now s stands c.args.prefix.now m.new.notes m.result.records m.ensures.noted m.ensures.counted) c.write.ensures
