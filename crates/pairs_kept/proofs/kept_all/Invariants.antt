-- `pairs_kept::kept_all` meets its contract. The invariant: what is summed and what is to come are all. Assumes nothing.
use Prim.Native.Nat.{◌-◌}
use lib.ListN.{length}
use Rattle.machine.specs.Pairs.{kept, pairs_held}
use Rattle.pairs.proofs.Passing.{Summed}
use Rattle.pairs_kept.proofs.kept_all.Given as goal

abbrev pub invariant-loop-at : goal.invariant-loop-at
invariant-loop-at l = Summed (λ l. length (kept l)) l.pairs l.at l.n × Summed (λ l. pairs_held (kept l)) l.pairs l.at l.bytes

abbrev pub decreases-loop-at : goal.decreases-loop-at
decreases-loop-at l = length l.pairs - l.at
