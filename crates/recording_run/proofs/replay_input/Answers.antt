-- `recording_run::replay_input` meets its contract. Assumes nothing.
use native.Mathlib.Omega.{arith}
use mathlib.Core.Path.{◌∙◌}
use Rattle.call_contract.specs.Made.{memory}
use Rattle.recording_split.proofs.Holding.{nothing-held}
use Rattle.recording_run.proofs.Inputs.{all_finished, one_last}
use Rattle.recording_run.proofs.replay_input.Goals as goal

pub returns-then-held-eq0 : goal.returns-then-held-eq0
returns-then-held-eq0 c =
    let a = c.args in
    let p = c.replay_piece-fed in
    let b = p.new.line in
    let o = p.new.out in
    λ A size s x y st.
    all_finished A size s a.input.now p.result b o (memory p.new.tables p.new.arena) (p.ensures.0 _ A size s (nothing-held a.line.now) x y st) c.if-held-eq0.true

pub print_result-requires : goal.print_result-requires
print_result-requires c =
    let p = c.replay_piece-fed in
    (omega (arith, c.requires.1, p.ensures.2, p.auto.out), c.held_line-result.ensures.1)

pub overflow_add-result : goal.overflow_add-result
overflow_add-result c =
    let p = c.replay_piece-fed in
    omega (arith, c.requires.2, p.ensures.2)

pub returns : goal.returns
returns c =
    let a = c.args in
    let p = c.replay_piece-fed in
    let b = p.new.line in
    let o = p.new.out in
    let h = c.held_line-result in
    let w = c.print_result in
    λ A size s x y st.
    let run = p.ensures.0 _ A size s (nothing-held a.line.now) x y st in
    one_last A size s a.input.now p.result b o (memory p.new.tables p.new.arena) run c.if-held-eq0.false h.result (memory h.new.tables h.new.arena) w.new.out
    (h.ensures.0 _ A size _ run.held (p.auto.answer ∙ x) (p.auto.pairs ∙ y) run.store) h.ensures.1 w.ensures
