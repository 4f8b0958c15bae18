-- `base_buffer::move_left` meets its contract. The invariant: `b` is what it was with the first i of the bytes pasted in at `to`. Assumes nothing.
use mathlib.Core.Path.{◌≡◌}
use Prim.Native.Nat.{◌-◌, ◌≤◌}
use lib.ListN.{length, drop}
use lib.Seq.{paste}
use Rattle.base_buffer.proofs.move_left.Given as goal

abbrev pub invariant-loop-i : goal.invariant-loop-i
invariant-loop-i l = (l.i ≤ l.n) × (length l.b ≡ length l.initial.b) × (l.b ≡ paste l.initial.b l.to (drop l.from l.initial.b) l.i)

abbrev pub decreases-loop-i : goal.decreases-loop-i
decreases-loop-i l = l.n - l.i
