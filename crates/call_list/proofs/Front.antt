-- Bytes written to a buffer piece by piece, each after the one before. Assumes nothing.
use Prim.Native.Nat.{ℕ, ◌+◌, ◌≤◌}
use mathlib.Core.Path.{◌≡◌, sym, ap, ◌∙◌}
use mathlib.Core.List.{List, ◌++◌}
use native.Mathlib.Omega.{arith}
use lib.ListN.{length, drop, length-append}
use Rattle.base_number.proofs.Halves.{write-next}
use Rattle.base_number.proofs.Fields.{replaced_at, front-next}

-- y after x, from the same place on
pub over-next : (b b₁ b₂ x y : List ℕ) (at n m : ℕ) → length x ≡ n → at + n ≤ length b → b₁ ≡ replaced_at b at x n → b₂ ≡ replaced_at b₁ (at + n) y m → b₂ ≡ replaced_at b at (x ++ y) (n + m)
over-next b b₁ b₂ x y at n m l room e f = f ∙ ap (λ (c : List ℕ). replaced_at c (at + n) y m) e ∙ write-next b at x y n m l room

-- y after the bytes x that stand at the front
pub front-grows : (b b₁ b₂ x y : List ℕ) (at : ℕ) → at ≡ length x → b₁ ≡ x ++ drop (length x) b → b₂ ≡ replaced_at b₁ at y (length y) → b₂ ≡ (x ++ y) ++ drop (length (x ++ y)) b
front-grows b b₁ b₂ x y at place e f =
    let q : at + length y ≡ length (x ++ y) = omega (arith, length-append x y) in
    front-next b b₁ b₂ x y at (length y) (e ∙ ap (λ (k : ℕ). x ++ drop k b) (sym place)) (sym place) f
    ∙ ap (λ (k : ℕ). (x ++ y) ++ drop k b) q
