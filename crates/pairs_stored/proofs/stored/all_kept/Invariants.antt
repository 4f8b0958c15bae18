-- `pairs_stored::stored::all_kept` meets its contract. The invariant: the pairs not yet passed decide, after the last key. Assumes nothing.
use Prim.Native.Nat.{◌-◌}
use lib.ListN.{length}
use Rattle.pairs_stored.proofs.Storing.{Kept}
use Rattle.pairs_stored.proofs.stored.all_kept.Given as goal

abbrev pub invariant-loop-i : goal.invariant-loop-i
invariant-loop-i l = Kept l.lengths l.bytes l.from l.to l.at l.i

abbrev pub decreases-loop-i : goal.decreases-loop-i
decreases-loop-i l = length l.lengths - l.i
