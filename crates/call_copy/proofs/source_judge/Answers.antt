-- `call_copy::source_judge` meets its contract: the source is missing, or its block is put at the destination. Assumes nothing.
use mathlib.Core.Path.{◌≡◌, ◌∙◌}
use mathlib.Core.Bool.{false}
use native.Mathlib.Omega.{arith}
use borrow.Author.Tests.{not-true, not-false}
use lib.ListN.{length}
use Rattle.std.proofs.Common.{rules}
use Rattle.call_types.specs.Numbers.{number_of, result_number}
use Rattle.mem_layout.specs.Memory.{state_of}
use Rattle.mem_find.proofs.Found.{place_found}
use Rattle.mem_edit_copy.proofs.Source.{front-inside}
use Rattle.call_copy.proofs.Sources.{source-there, judged-source, judged-missing}
use Rattle.call_copy.proofs.source_judge.Goals as goal

pub returns-then-not-from-clause-judged : goal.returns-then-not-from-clause-judged
returns-then-not-from-clause-judged c =
    let a = c.args in
    let s = state_of a.memory.whole.tables.now a.memory.whole.arena.now in
    let f = c.find_two-looked_up in
    judged-missing (length a.memory.whole.arena.now) s a.stamp.0 a.source.now a.destination.now
    (place_found s a.source.now f.result.first false f.ensures.first (not-true _ c.if-not-from.true))

pub read_head-h-requires : goal.read_head-h-requires
read_head-h-requires c =
    let f = c.find_two-looked_up in
    let o = source-there _ _ _ f.result.first c.args.memory.whole.bytes c.args.memory.whole.is_whole f.ensures.first (not-false _ c.if-not-from.false) in
    omega (arith, front-inside _ _ _ _ o)

pub returns-in_err-room-clause-judged : goal.returns-in_err-room-clause-judged
returns-in_err-room-clause-judged c =
    let a = c.args in
    let f = c.find_two-looked_up in
    let o = source-there _ _ _ f.result.first c.args.memory.whole.bytes c.args.memory.whole.is_whole f.ensures.first (not-false _ c.if-not-from.false) in
    let told : result_number c.from_residual.result ≡ number_of c.in_err-room.field-0.0 = search rules in
    told ∙ judged-source _ _ _ _ o _ c.read_head-h.ensures _ a.stamp.0 a.destination.now (c.in_err-room.ensures.judged a.destination.now f.ensures.second)

pub returns-clause-judged : goal.returns-clause-judged
returns-clause-judged c =
    let a = c.args in
    let f = c.find_two-looked_up in
    let o = source-there _ _ _ f.result.first c.args.memory.whole.bytes c.args.memory.whole.is_whole f.ensures.first (not-false _ c.if-not-from.false) in
    judged-source _ _ _ _ o _ c.read_head-h.ensures _ a.stamp.0 a.destination.now (c.in_ok-room.ensures.judged a.destination.now f.ensures.second)
