-- `recording_run::replay_piece` meets its contract. Assumes nothing.
use native.Mathlib.Omega.{arith}
use Prim.Native.Nat.{◌-◌}
use mathlib.Core.Path.{refl, subst, ◌∙◌}
use lib.ListN.{length}
use Rattle.call_contract.specs.Made.{memory}
use Rattle.recording_split.specs.declared.LineStep.{LineStep}
use Rattle.recording_split.specs.Held.{Stepped, Within}
use Rattle.recording_run.proofs.Feeding.{start, one_line, amid, at-end}
use Rattle.recording_run.proofs.replay_piece.Goals as goal

pub loop-at-init : goal.loop-at-init
loop-at-init c =
    let a = c.args in
    (c.requires.0, c.requires.1, omega arith, omega arith, refl, refl, refl, refl, refl, (λ l A size s h x y st. start A size s l a.piece.now a.line.now a.held a.out.now (memory a.tables.now a.arena.now) h st))

pub next_line-requires : goal.next_line-requires
next_line-requires c =
    let i = c.loop-at.invariant in
    (omega (arith, i.0), omega (arith, i.0, i.1))

pub held_line-result-requires : goal.held_line-result-requires
held_line-result-requires c = c.next_line.auto.line ∙ c.loop-at.invariant.0

pub print_result-requires : goal.print_result-requires
print_result-requires c =
    let i = c.loop-at.invariant in
    (omega (arith, i.2, i.3, i.4, c.requires.2, c.loop-at-test.true), c.held_line-result.ensures.1)

pub overflow_add-k : goal.overflow_add-k
overflow_add-k c =
    let i = c.loop-at.invariant in
    omega (arith, i.3, c.requires.3, c.loop-at-test.true)

pub loop-at-smaller : goal.loop-at-smaller
loop-at-smaller c =
    let a = c.args in
    let d = c.loop-at in
    let i = d.invariant in
    let p = a.piece.now in
    let nl = c.next_line in
    let b = nl.new.line in
    let w = subst (λ (r : LineStep). Within (length p) d.at (length d.line) r) c.in-Line.is nl.ensures.1 in
    omega (arith, w.1, w.2, c.loop-at-test.true)

pub loop-at-preserved : goal.loop-at-preserved
loop-at-preserved c =
    let a = c.args in
    let d = c.loop-at in
    let i = d.invariant in
    let p = a.piece.now in
    let nl = c.next_line in
    let b = nl.new.line in
    let w = subst (λ (r : LineStep). Within (length p) d.at (length d.line) r) c.in-Line.is nl.ensures.1 in
    let hl = c.held_line-result in
    let pr = c.print_result in (
      nl.auto.line ∙ i.0,
      omega arith,
      w.2,
      omega (arith, i.3, w.1),
      pr.auto.out ∙ i.4,
      hl.auto.tables ∙ i.5,
      hl.auto.arena ∙ i.6,
      hl.auto.answer ∙ i.7,
      hl.auto.pairs ∙ i.8,
      (λ x A size s h y z st.
          let so = i.9 x A size s h y z st in
          let f = subst (λ (r : LineStep). Stepped p d.at so.now b r) c.in-Line.is (nl.ensures.0 so.now so.held) in
          one_line A size s x p d.at d.k d.line d.n d.out (memory d.tables d.arena) so b c.in-Line.full c.in-Line.next f hl.result (memory hl.new.tables hl.new.arena) pr.new.out
          (hl.ensures.0 f.whole A size so.state f.held (i.7 ∙ y) (i.8 ∙ z) so.store) hl.ensures.1 pr.ensures),
    )

pub returns-in-More : goal.returns-in-More
returns-in-More c =
    let a = c.args in
    let d = c.loop-at in
    let i = d.invariant in
    let p = a.piece.now in
    let nl = c.next_line in
    let b = nl.new.line in
    let w = subst (λ (r : LineStep). Within (length p) d.at (length d.line) r) c.in-More.is nl.ensures.1 in (
      (λ x A size s h y z st.
          let so = i.9 x A size s h y z st in
          let u = subst (λ (r : LineStep). Stepped p d.at so.now b r) c.in-More.is (nl.ensures.0 so.now so.held) in
          amid A size s x p d.at d.k d.line d.n d.out (memory d.tables d.arena) so b c.in-More.rest u _ refl refl),
      omega (arith, w, i.0),
      omega (arith, i.2, i.3, c.requires.2),
    )

pub returns : goal.returns
returns c =
    let a = c.args in
    let d = c.loop-at in
    let i = d.invariant in
    let p = a.piece.now in (
      (λ x A size s h y z st.
          let so = i.9 x A size s h y z st in
          at-end A size s x p d.at d.k d.line d.n d.out (memory d.tables d.arena) so c.loop-at-test.false _ refl refl),
      i.1,
      omega (arith, i.2, i.3, c.requires.2),
    )
