-- `call_list::writing::write_rows` meets its contract. The invariant: the first i records stand at the front. Assumes nothing.
use mathlib.Core.Path.{◌∙◌}
use native.Mathlib.Omega.{arith}
use Rattle.mem_layout.specs.Memory.{state_of}
use Rattle.mem_layout.proofs.WholeLaws.{whole-stands}
use Rattle.call_list.proofs.Places.{record-fits, put_next}
use Rattle.call_list.proofs.writing.write_rows.Goals as goal

pub write_record-to-requires : goal.write_record-to-requires
write_record-to-requires c =
    let a = c.args in
    let l = c.loop-i in
    let s = state_of a.memory.tables.now a.memory.arena.now in
    let stands = whole-stands a.memory.tables.now a.memory.arena.now a.memory.bytes a.memory.is_whole in
    let x = c.requires.placed l.i c.loop-i-test.true in
    record-fits a.memory.tables.now a.memory.arena.now s stands a.prefix.now a.suffix.now a.places.now a.answer.now l.answer l.i l.to c.get_u16-at.result l.invariant x (c.get_u16-at.ensures ∙ x.place) c.requires.fits

pub loop-i-preserved : goal.loop-i-preserved
loop-i-preserved c =
    let a = c.args in
    let l = c.loop-i in
    let s = state_of a.memory.tables.now a.memory.arena.now in
    let stands = whole-stands a.memory.tables.now a.memory.arena.now a.memory.bytes a.memory.is_whole in
    let x = c.requires.placed l.i c.loop-i-test.true in
    put_next a.memory.tables.now a.memory.arena.now s stands a.prefix.now a.suffix.now a.places.now a.answer.now l.answer l.i l.to c.get_u16-at.result l.invariant x (c.get_u16-at.ensures ∙ x.place) _ _ (omega (arith, c.requires.counted, c.loop-i-test.true)) c.write_record-to.ensures c.write_record-to.auto.answer
