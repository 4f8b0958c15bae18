-- `pairs_kept::has_key` meets its contract. The invariant: the pairs not yet passed decide. Assumes nothing.
use Prim.Native.Nat.{◌-◌}
use lib.ListN.{length}
use Rattle.machine.specs.Pairs.{has_key}
use Rattle.pairs.proofs.Passing.{Undecided}
use Rattle.pairs_kept.proofs.has_key.Given as goal

abbrev pub invariant-loop-at : goal.invariant-loop-at
invariant-loop-at l = Undecided (has_key l.key) l.pairs l.at

abbrev pub decreases-loop-at : goal.decreases-loop-at
decreases-loop-at l = length l.pairs - l.at
