-- A row, written field by field. Assumes nothing.
use Prim.Native.Nat.{ℕ, ◌+◌, ◌*◌, ◌<◌}
use mathlib.Core.Path.{◌≡◌, refl, ap, ap₂, ◌∙◌}
use mathlib.Core.List.{List, [], ◌++◌, append_assoc, append-nil}
use native.Mathlib.Omega.{arith}
use lib.ListN.{length, take, drop, length-append}
use lib.Seq.{take_at}
use Rattle.base_number.specs.Number.{le}
use Rattle.base_number.proofs.NumberLaws.{length-le, pair-bytes}
use Rattle.base_number.proofs.Fields.{replaced_at, front-next}
use Rattle.mem_row.specs.declared.Head.{Head}
use Rattle.mem_row.specs.Fields.{fields}
use Rattle.mem_row.specs.Row.{numbers_length, head_length, row_bytes}

pub number-fields : (b b₁ b₂ b₃ b₄ b₅ : List ℕ) (h : Head) (k q p : ℕ) → k ≡ h.kind → q ≡ h.pairs → p ≡ h.pathlen → k + 4 * q < 256 → p < 256
    → b₁ ≡ replaced_at b 0 (le 4 h.size) 4 → b₂ ≡ replaced_at b₁ 4 (le 4 h.number) 4 → b₃ ≡ replaced_at b₂ 8 (le 8 h.stamp) 8
    → b₄ ≡ replaced_at b₃ 16 (le 2 (k + 4 * q + 256 * p)) 2 → b₅ ≡ replaced_at b₄ 18 (le 2 h.count) 2 → b₅ ≡ row_bytes h [] [] [] ++ drop numbers_length b
unfolding row_bytes fields
number-fields b b₁ b₂ b₃ b₄ b₅ h k q p ke qe pe kl pl e₁ e₂ e₃ e₄ e₅ =
    let v = le 4 h.size in
    let w = le 4 h.number in
    let x = le 8 h.stamp in
    let y = le 1 (h.kind + 4 * h.pairs) ++ le 1 h.pathlen in
    let z = le 2 h.count in
    let first : k + 4 * q ≡ h.kind + 4 * h.pairs = omega arith in
    let y-is : le 2 (k + 4 * q + 256 * p) ≡ y = pair-bytes (k + 4 * q) p kl pl ∙ ap₂ (λ (m n : ℕ). le 1 m ++ le 1 n) first pe in
    let ly : length y ≡ 2 = omega (arith, ap length y-is, length-le 2 (k + 4 * q + 256 * p)) in
    let l₁ : length v ≡ 4 = length-le 4 h.size in
    let l₂ : length (v ++ w) ≡ 8 = omega (arith, length-append v w, length-le 4 h.number) in
    let l₃ : length ((v ++ w) ++ x) ≡ 16 = omega (arith, length-append (v ++ w) x, length-le 8 h.stamp) in
    let l₄ : length (((v ++ w) ++ x) ++ y) ≡ 18 = omega (arith, length-append ((v ++ w) ++ x) y) in
    let q₁ = front-next b b b₁ [] v 0 4 refl refl e₁ in
    let q₂ = front-next b b₁ b₂ v w 4 4 q₁ l₁ e₂ in
    let q₃ = front-next b b₂ b₃ (v ++ w) x 8 8 q₂ l₂ e₃ in
    let q₄ = front-next b b₃ b₄ ((v ++ w) ++ x) y 16 2 q₃ l₃ (e₄ ∙ ap (λ (n : List ℕ). replaced_at b₃ 16 n 2) y-is) in
    front-next b b₄ b₅ (((v ++ w) ++ x) ++ y) z 18 2 q₄ l₄ e₅ ∙ simp (append_assoc, append-nil)

length-numbers : (h : Head) → length (row_bytes h [] [] []) ≡ numbers_length
unfolding row_bytes fields
length-numbers h =
    simp (length-append, length-le)

pub row-fields : (b b₁ b₂ b₃ b₄ digest path lengths : List ℕ) (h : Head) → length digest ≡ 16 → b₁ ≡ row_bytes h [] [] [] ++ drop numbers_length b → b₂ ≡ replaced_at b₁ numbers_length digest 16
    → b₃ ≡ replaced_at b₂ head_length path (length path) → b₄ ≡ replaced_at b₃ (head_length + length path) lengths (length lengths)
    → b₄ ≡ row_bytes h digest path lengths ++ drop (head_length + length path + length lengths) b
unfolding row_bytes
row-fields b b₁ b₂ b₃ b₄ digest path lengths h l e₁ e₂ e₃ e₄ =
    let x = row_bytes h [] [] [] in
    let q₂ = front-next b b₁ b₂ x digest numbers_length 16 e₁ (length-numbers h) e₂ in
    let l₂ : length (x ++ digest) ≡ head_length = omega (arith, length-append x digest, length-numbers h) in
    let q₃ = front-next b b₂ b₃ (x ++ digest) path head_length (length path) q₂ l₂ e₃ in
    let l₃ : length ((x ++ digest) ++ path) ≡ head_length + length path = omega (arith, length-append (x ++ digest) path) in
    front-next b b₃ b₄ ((x ++ digest) ++ path) lengths (head_length + length path) (length lengths) q₃ l₃ e₄ ∙ simp (append_assoc, append-nil)

-- the front of a row, then its path and lengths
pub row-parts : (h : Head) (digest path lengths : List ℕ) → row_bytes h digest path lengths ≡ row_bytes h digest [] [] ++ (path ++ lengths)
unfolding row_bytes
row-parts h digest path lengths = simp (append_assoc, append-nil)

pub length-row_bytes : (h : Head) (digest path lengths : List ℕ) → length digest ≡ 16 → length (row_bytes h digest path lengths) ≡ head_length + length path + length lengths
unfolding row_bytes fields
length-row_bytes h digest path lengths l = simp (length-append, length-le, l) (omega arith)

-- the first bytes of a buffer that a row was written to
pub row-front : (b b₁ : List ℕ) (digest path lengths : List ℕ) (h : Head) (n : ℕ) → length digest ≡ 16 → n ≡ head_length + length path + length lengths
    → b₁ ≡ row_bytes h digest path lengths ++ drop (head_length + length path + length lengths) b → take n b₁ ≡ row_bytes h digest path lengths
row-front b b₁ digest path lengths h n l e told =
    let m = head_length + length path + length lengths in
    ap₂ take e told ∙ take_at (row_bytes h digest path lengths) (drop m b) m (length-row_bytes h digest path lengths l)
