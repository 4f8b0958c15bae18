-- `base_text::put_hex` meets its contract. The invariant: `dst` is what it was with the digits of the first i bytes pasted in from `at`. Assumes nothing.
use mathlib.Core.Path.{◌≡◌}
use Prim.Native.Nat.{◌*◌}
use lib.ListN.{length}
use lib.Seq.{paste}
use Rattle.base_text.specs.Text.{hex}
use Rattle.base_text.proofs.put_hex.Given as goal

abbrev pub invariant-loop-i : goal.invariant-loop-i
invariant-loop-i l = (length l.dst ≡ length l.initial.dst) × (l.dst ≡ paste l.initial.dst l.at (hex l.src) (2 * l.i))
