-- `pairs_kept::all_distinct` meets its contract. The invariant: the pairs not yet passed decide. Assumes nothing.
use Prim.Native.Nat.{◌-◌}
use lib.ListN.{length}
use Rattle.machine.specs.Pairs.{kept, distinct_keys}
use Rattle.pairs.proofs.Passing.{Undecided}
use Rattle.pairs_kept.proofs.all_distinct.Given as goal

abbrev pub invariant-loop-at : goal.invariant-loop-at
invariant-loop-at l = Undecided (λ l. distinct_keys (kept l)) l.pairs l.at

abbrev pub decreases-loop-at : goal.decreases-loop-at
decreases-loop-at l = length l.pairs - l.at
