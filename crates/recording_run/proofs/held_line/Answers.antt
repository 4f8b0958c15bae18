-- `recording_run::held_line` meets its contract. Assumes nothing.
use native.Mathlib.Omega.{arith}
use mathlib.Core.Path.{refl, sym, ◌∙◌}
use lib.Seq.{length-take-le}
use Rattle.call_contract.specs.Made.{memory}
use Rattle.recording_run.proofs.Running.{small-refusal, small-replayed, held-run, long-run}
use Rattle.recording_run.proofs.held_line.Goals as goal

pub returns-then-held-gt4096 : goal.returns-then-held-gt4096
returns-then-held-gt4096 c =
    let a = c.args in
    let m = memory a.tables.now a.arena.now in
    let r = c.done in
    let e = r.ensures ∙ c.refusal.ensures in
    ((λ l A size s h x y st. long-run A size s m st l a.line.now a.held r.result c.requires c.if-held-gt4096.true h e), small-refusal m r.result e)

pub slice_bounds-replay_line-end : goal.slice_bounds-replay_line-end
slice_bounds-replay_line-end c =
    let a = c.args in
    sym (length-take-le a.held a.line.now (omega (arith, c.requires)))

pub returns : goal.returns
returns c =
    let a = c.args in
    let m = memory a.tables.now a.arena.now in
    let r = c.replay_line in
    ((λ l A size s h x y st. held-run A size s m st a.answer.now a.pairs.now x y l a.line.now a.held c.requires (omega arith) h refl r.ensures), small-replayed refl r.ensures)
