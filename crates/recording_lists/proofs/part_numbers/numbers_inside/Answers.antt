-- `recording_lists::part_numbers::numbers_inside` meets its contract. The invariant: the numbers so far stand in `out`, and what is read after them is what is
-- read in all. Assumes nothing.
use mathlib.Core.Path.{refl, ap, ◌∙◌}
use Prim.Native.Nat.{ℕ}
use native.Mathlib.Omega.{arith}
use lib.ListN.{drop}
use Rattle.base_number.specs.Number.{le, replaced_at}
use Rattle.recording.specs.Read.{inside_numbers}
use Rattle.recording_lists.proofs.ListSteps.{nothing, begin, finish, fits, step, advances}
use Rattle.recording_lists.proofs.part_numbers.numbers_inside.Goals as goal

pub returns-in_default : goal.returns-in_default
returns-in_default c =
    let a = c.args in
    (nothing a.s.now a.out.now a.at c.in_default.ensures, omega arith)

pub put_u16-requires : goal.put_u16-requires
put_u16-requires c =
    let a = c.args in
    let f = c.in-Some in
    omega (arith, advances a.s.now a.at f.first.value f.first.next f.ensures, c.requires.0, c.requires.1)

pub loop-at-init : goal.loop-at-init
loop-at-init c =
    let a = c.args in
    let f = c.in-Some in
    let w = c.put_u16 in
    let k = advances a.s.now a.at f.first.value f.first.next f.ensures in (
      refl,
      omega (arith, k, c.requires.0),
      begin a.s.now a.out.now w.new.b a.at f.first.value f.first.next f.ensures c.requires.0 (omega (arith, k, c.requires.0, c.requires.1))
          (w.ensures ∙ ap (λ (x : ℕ). replaced_at a.out.now 0 (le 2 x) 2) c.narrow.ensures),
    )

pub put_u16-requires-in-Some-after : goal.put_u16-requires-in-Some-after
put_u16-requires-in-Some-after c =
    let a = c.args in
    let l = c.loop-at in
    let p = c.in-Some-after.ensures in
    let m = c.in_ok-more in
    omega (arith, fits (inside_numbers (drop a.at a.s.now)) a.s.now l.out l.n l.i l.invariant.2 p.0 p.1 m.more.value m.more.next (rw p.2 at m.ensures), l.invariant.0, c.requires.1)

pub loop-at-smaller : goal.loop-at-smaller
loop-at-smaller c =
    let a = c.args in
    let l = c.loop-at in
    let p = c.in-Some-after.ensures in
    let m = c.in_ok-more in
    omega (arith, advances a.s.now c.in-Some-after.at m.more.value m.more.next m.ensures, p.0, p.2)

pub loop-at-preserved : goal.loop-at-preserved
loop-at-preserved c =
    let a = c.args in
    let l = c.loop-at in
    let p = c.in-Some-after.ensures in
    let m = c.in_ok-more in
    let e = rw p.2 at m.ensures in
    let w = c.put_u16-in-Some-after in (
      w.auto.b ∙ l.invariant.0,
      omega (arith, fits (inside_numbers (drop a.at a.s.now)) a.s.now l.out l.n l.i l.invariant.2 p.0 p.1 m.more.value m.more.next e),
      step (inside_numbers (drop a.at a.s.now)) a.s.now l.out l.n l.i l.invariant.2 p.0 p.1 m.more.value m.more.next e w.new.b (omega (arith, l.invariant.0, l.invariant.1, c.requires.1))
          (w.ensures ∙ ap (λ (x : ℕ). replaced_at l.out l.n (le 2 x) 2) c.narrow-in-Some-after.ensures),
    )

pub returns : goal.returns
returns c =
    let a = c.args in
    let l = c.loop-at in
    (finish (inside_numbers (drop a.at a.s.now)) a.s.now l.out l.n l.i l.invariant.2 c.in_default-after.ensures, omega (arith, l.invariant.1, c.requires.1))
