-- `recording_split::next_line` meets its contract. Assumes nothing.
use Rattle.recording_split.proofs.Holding.{SoFar}
use Rattle.recording_split.specs.Held.{Holds}
use Rattle.machine.specs.Names.{Bytes}
use lib.ListN.{length}
use Prim.Native.Nat.{◌+◌, ◌≤◌}
use mathlib.Core.Path.{◌≡◌}
use Rattle.recording_split.proofs.next_line.Given as goal

abbrev pub invariant-loop-i : goal.invariant-loop-i
invariant-loop-i l = (length l.line ≡ length l.initial.line) × (l.n ≤ length l.line + 1) × ((x : Bytes) → Holds l.initial.line l.held x → SoFar l.s l.at l.i x l.line l.n)
