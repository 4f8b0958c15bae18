-- `recording_lists::pair_lists::read_pairs` meets its contract. Assumes nothing.
use native.Mathlib.Omega.{arith}
use Rattle.recording_lists.proofs.PairLists.{begin, advances, step}
use Rattle.recording.specs.Read.{items, read_pair}
use lib.ListN.{drop}
use mathlib.Core.Path.{refl, ◌∙◌}
use Rattle.recording_lists.proofs.pair_lists.read_pairs.Goals as goal

pub loop-at-init : goal.loop-at-init
loop-at-init c =
    let a = c.args in
    (refl, omega arith, omega arith, begin a.s.now a.out.now a.at)

pub loop-at-smaller : goal.loop-at-smaller
loop-at-smaller c =
    let a = c.args in
    let l = c.loop-at in
    let p = c.in-Some.ensures in
    let w = c.in_ok-pair in
    advances (items read_pair (drop a.at a.s.now)) a.s.now l.out l.n l.i l.invariant.3 p.0 p.1 c.counted_pair.new.out w.pair.value w.pair.next (rw p.2 at w.ensures.0)

pub loop-at-preserved : goal.loop-at-preserved
loop-at-preserved c =
    let a = c.args in
    let l = c.loop-at in
    let p = c.in-Some.ensures in
    let w = c.in_ok-pair in (
      c.counted_pair.auto.out ∙ l.invariant.0,
      omega (arith, l.invariant.1, w.ensures.1, p.2),
      omega (arith, w.ensures.2, c.counted_pair.auto.out),
      step (items read_pair (drop a.at a.s.now)) a.s.now l.out l.n l.i l.invariant.3 p.0 p.1 c.counted_pair.new.out w.pair.value w.pair.next (rw p.2 at w.ensures.0),
    )
