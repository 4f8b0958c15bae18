-- `base_buffer::copy_within` meets its contract: a move to one side, or none where the bytes stand at their place. Assumes nothing.
use mathlib.Core.Path.{◌≡◌, ap, ◌∙◌}
use Prim.Native.Nat.{ℕ}
use native.Mathlib.Omega.{arith}
use lib.ListN.{drop}
use lib.Seq.{paste}
use Rattle.base_buffer.proofs.Moving.{in_place}
use Rattle.base_buffer.proofs.copy_within.Goals as goal

pub returns-else-from-to : goal.returns-else-from-to
returns-else-from-to c =
    let a = c.args in
    let b = a.b.now in
    let q : a.to ≡ a.from = omega arith in
    in_place b a.to a.n ∙ ap (λ (k : ℕ). paste b a.to (drop k b) a.n) q
