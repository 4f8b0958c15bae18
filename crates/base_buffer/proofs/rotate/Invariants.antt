-- `base_buffer::rotate` meets its contract. The invariant: what is left to rotate, from `from` on, gives what the whole rotation gives. Assumes nothing.
use mathlib.Core.Path.{◌≡◌}
use Prim.Native.Nat.{◌+◌, ◌≤◌}
use lib.ListN.{length}
use Rattle.base_buffer.specs.Buffer.{rotated}
use Rattle.base_buffer.proofs.rotate.Given as goal

abbrev pub invariant-loop-l : goal.invariant-loop-l
invariant-loop-l l = (l.from + l.l + l.r ≤ l.at + l.left + l.right) × (length l.b ≡ length l.initial.b) × (rotated l.b l.from l.l l.r ≡ rotated l.initial.b l.at l.left l.right)

abbrev pub decreases-loop-l : goal.decreases-loop-l
decreases-loop-l l = l.l + l.r
