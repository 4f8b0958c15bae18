-- `recording_lists::part_numbers::numbers_inside` meets its contract. The invariant: the numbers so far stand in `out`, and what is read after them is what is
-- read in all. Assumes nothing.
use mathlib.Core.Path.{◌≡◌}
use Prim.Native.Nat.{◌-◌, ◌≤◌}
use lib.ListN.{length, drop}
use Rattle.recording.specs.Read.{inside_numbers}
use Rattle.recording_lists.proofs.ListSteps.{SoFar}
use Rattle.recording_lists.proofs.part_numbers.numbers_inside.Given as goal

abbrev pub invariant-loop-at : goal.invariant-loop-at
invariant-loop-at l = (length l.out ≡ length l.initial.out) × (l.n ≤ length l.s) × SoFar (inside_numbers (drop l.fn.at l.s)) l.s l.out l.n l.i

abbrev pub decreases-loop-at : goal.decreases-loop-at
decreases-loop-at l = length l.s - l.i
