-- `pairs_kept::formed` meets its contract. The invariant: the pairs not yet passed decide. Assumes nothing.
use Prim.Native.Nat.{◌-◌, ◌≤◌}
use mathlib.Core.Path.{◌≡◌}
use lib.ListN.{length, drop}
use Rattle.machine.specs.Pairs.{every, pair_ok, pair_list}
use Rattle.pairs_kept.proofs.formed.Given as goal

abbrev pub invariant-loop-at : goal.invariant-loop-at
invariant-loop-at l = (l.at ≤ length l.pairs) × (every pair_ok (pair_list (drop l.at l.pairs)) ≡ every pair_ok (pair_list l.pairs))

abbrev pub decreases-loop-at : goal.decreases-loop-at
decreases-loop-at l = length l.pairs - l.at
