-- `pairs_write::sorting::next_above` meets its contract. The invariant: the pairs not yet passed decide, with the one that is picked.
-- Assumes nothing.
use Prim.Native.Nat.{◌-◌}
use lib.ListN.{length}
use Rattle.pairs_write.proofs.Picking.{Picking}
use Rattle.pairs_write.proofs.sorting.next_above.Given as goal

abbrev pub invariant-loop-at : goal.invariant-loop-at
invariant-loop-at l = Picking l.pairs l.last l.pick l.at

abbrev pub decreases-loop-at : goal.decreases-loop-at
decreases-loop-at l = length l.pairs - l.at
