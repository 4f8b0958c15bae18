-- `pairs_write::sorting::next_above` meets its contract. The invariant: the pairs not yet passed decide, with the one that is picked.
-- Assumes nothing.
use native.Mathlib.Omega.{arith}
use Rattle.pairs.proofs.Passing.{here-fits}
use Rattle.pairs_write.proofs.Picking.{picking-all, picking-next}
use Rattle.pairs_write.proofs.sorting.next_above.Goals as goal

pub better-pick-requires : goal.better-pick-requires
better-pick-requires c =
    let w = c.loop-at.invariant in
    (c.loop-at-test.true, here-fits c.args.pairs.now c.loop-at.at c.loop-at-test.true w.formed, w.is)

pub end-at-requires : goal.end-at-requires
end-at-requires c = (c.loop-at-test.true, here-fits c.args.pairs.now c.loop-at.at c.loop-at-test.true c.loop-at.invariant.formed)

pub loop-at-preserved : goal.loop-at-preserved
loop-at-preserved c =
    let e = c.end-at.ensures in
    picking-next c.loop-at.invariant c.loop-at-test.true e.0 e.2 c.better-pick.ensures

pub returns : goal.returns
returns c = picking-all c.loop-at.invariant (omega arith)
