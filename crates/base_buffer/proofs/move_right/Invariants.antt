-- `base_buffer::move_right` meets its contract. The invariant: `b` is what it was with the bytes from the i-th on moved. Assumes nothing.
use mathlib.Core.Path.{◌≡◌}
use Prim.Native.Nat.{◌≤◌}
use lib.ListN.{length}
use Rattle.base_buffer.proofs.Moving.{moved-from}
use Rattle.base_buffer.proofs.move_right.Given as goal

abbrev pub invariant-loop-i : goal.invariant-loop-i
invariant-loop-i l = (l.i ≤ l.n) × (length l.b ≡ length l.initial.b) × (l.b ≡ moved-from l.initial.b l.from l.to l.n l.i)

abbrev pub decreases-loop-i : goal.decreases-loop-i
decreases-loop-i l = l.i
