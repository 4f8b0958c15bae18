-- The header, written field by field. Assumes nothing.
use Prim.Native.Nat.{ℕ}
use mathlib.Core.Path.{◌≡◌, refl, ◌∙◌}
use mathlib.Core.List.{List, [], ◌++◌, append_assoc}
use native.Mathlib.Omega.{arith}
use lib.ListN.{length, length-append}
use Rattle.base_number.specs.Number.{le}
use Rattle.base_number.proofs.NumberLaws.{length-le}
use Rattle.base_number.proofs.Fields.{replaced_at, front-next}
use Rattle.mem_row.specs.Fields.{fields}
use Rattle.mem_layout.specs.declared.Header.{Header}
use Rattle.mem_layout.specs.Header.{header_bytes, headed}

pub header-fields : (b b₁ b₂ b₃ b₄ b₅ : List ℕ) (h : Header) → b₁ ≡ replaced_at b 0 (le 4 h.arena) 4 → b₂ ≡ replaced_at b₁ 4 (le 8 h.next) 8 → b₃ ≡ replaced_at b₂ 12 (le 2 h.objects) 2
    → b₄ ≡ replaced_at b₃ 14 (le 2 h.uploads) 2 → b₅ ≡ replaced_at b₄ 16 (le 2 h.parts) 2 → b₅ ≡ headed b h
unfolding headed header_bytes fields
header-fields b b₁ b₂ b₃ b₄ b₅ h e₁ e₂ e₃ e₄ e₅ =
    let w = le 4 h.arena in
    let x = le 8 h.next in
    let y = le 2 h.objects in
    let z = le 2 h.uploads in
    let v = le 2 h.parts in
    let l₁ : length w ≡ 4 = length-le 4 h.arena in
    let l₂ : length (w ++ x) ≡ 12 = omega (arith, length-append w x, length-le 8 h.next) in
    let l₃ : length ((w ++ x) ++ y) ≡ 14 = omega (arith, length-append (w ++ x) y, length-le 2 h.objects) in
    let l₄ : length (((w ++ x) ++ y) ++ z) ≡ 16 = omega (arith, length-append ((w ++ x) ++ y) z, length-le 2 h.uploads) in
    let q₁ = front-next b b b₁ [] w 0 4 refl refl e₁ in
    let q₂ = front-next b b₁ b₂ w x 4 8 q₁ l₁ e₂ in
    let q₃ = front-next b b₂ b₃ (w ++ x) y 12 2 q₂ l₂ e₃ in
    let q₄ = front-next b b₃ b₄ ((w ++ x) ++ y) z 14 2 q₃ l₃ e₄ in
    front-next b b₄ b₅ (((w ++ x) ++ y) ++ z) v 16 2 q₄ l₄ e₅ ∙ simp append_assoc
