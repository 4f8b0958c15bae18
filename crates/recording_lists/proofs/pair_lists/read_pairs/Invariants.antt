-- `recording_lists::pair_lists::read_pairs` meets its contract. Assumes nothing.
use Rattle.recording_lists.proofs.PairLists.{SoFar}
use Rattle.recording.specs.Read.{items, read_pair}
use lib.ListN.{length, drop}
use Prim.Native.Nat.{◌+◌, ◌-◌, ◌*◌, ◌≤◌}
use mathlib.Core.Path.{◌≡◌}
use Rattle.recording_lists.proofs.pair_lists.read_pairs.Given as goal

abbrev pub invariant-loop-at : goal.invariant-loop-at
invariant-loop-at l = (length l.out ≡ length l.initial.out) × (2 * l.n + (length l.s - l.i) ≤ length l.s) × (l.n ≤ length l.out) × SoFar (items read_pair (drop l.fn.at l.s)) l.s l.out l.n l.i

abbrev pub decreases-loop-at : goal.decreases-loop-at
decreases-loop-at l = length l.s - l.i
