-- A digest is read and written by its words. Assumes nothing.
use Rattle.std.proofs.Common.{◌≡◌, ℕ, ◌+◌, ◌-◌, ◌*◌, ◌≤◌, List, ◌++◌, length, take, drop, sym, ap, ◌∙◌, append_assoc, add-zero, arith, length-append, length-drop, take-take, drop-drop}
use Rattle.base_number.specs.Number.{le, from_le}
use Rattle.base_number.proofs.NumberLaws.{length-le}
use Rattle.base_number.proofs.Fields.{replaced_at, part, drop-take}
use Rattle.base_number.proofs.Halves.{write-next}
use Rattle.base_md5.specs.declared.words.Digest.{Digest}
use Rattle.base_md5.specs.Md5.{word, bytes_of, from_bytes}

module _ (b : List ℕ) (at : ℕ) where
  -- y is written after x
  next : {b₁ b₂ : List ℕ} (x y : List ℕ) (k j : ℕ) → length x ≡ k → at + k ≤ length b → b₁ ≡ replaced_at b at x k → b₂ ≡ replaced_at b₁ (at + k) y j → b₂ ≡ replaced_at b at (x ++ y) (k + j)
  next x y k j e room one two = two ∙ ap (λ (l : List ℕ). replaced_at l (at + k) y j) one ∙ write-next b at x y k j e room

  -- the four calls of `put`
  pub puts : (v : Digest) {b₁ b₂ b₃ b₄ : List ℕ} → at + 16 ≤ length b → b₁ ≡ replaced_at b at (le 4 v.a) 4 → b₂ ≡ replaced_at b₁ (at + 4) (le 4 v.b) 4
      → b₃ ≡ replaced_at b₂ (at + 8) (le 4 v.c) 4 → b₄ ≡ replaced_at b₃ (at + 12) (le 4 v.d) 4 → b₄ ≡ replaced_at b at (bytes_of v) 16
  unfolding bytes_of
  puts v room e₁ e₂ e₃ e₄ =
      let w₁ : List ℕ = le 4 v.a in
      let w₂ : List ℕ = w₁ ++ le 4 v.b in
      let w₃ : List ℕ = w₂ ++ le 4 v.c in
      let l₂ : length w₂ ≡ 8 = simp (length-append, length-le) in
      let l₃ : length w₃ ≡ 12 = simp (length-append, length-le) in
      let f₂ = next w₁ (le 4 v.b) 4 4 (length-le 4 v.a) (omega arith) e₁ e₂ in
      let f₃ = next w₂ (le 4 v.c) 8 4 l₂ (omega arith) f₂ e₃ in
      next w₃ (le 4 v.d) 12 4 l₃ (omega arith) f₃ e₄ ∙ ap (λ (l : List ℕ). replaced_at b at l 16) (simp append_assoc)

  -- a call of `get`
  got : {x : ℕ} (i : ℕ) → i * 4 + 4 ≤ 16 → at + 16 ≤ length b → x ≡ from_le (part b (at + i * 4) 4) → word (part b at 16) i ≡ x
  unfolding word
  got i h room e =
      ap (λ (l : List ℕ). from_le (take 4 l)) (drop-take (i * 4) 16 (drop at b) (omega arith) (simp length-drop (omega arith)))
      ∙ ap from_le (take-take 4 (16 - i * 4) (drop (i * 4) (drop at b)) (omega arith) ∙ ap (take 4) (drop-drop (i * 4) at b))
      ∙ sym e

  pub gets : (v : Digest) → at + 16 ≤ length b → v.a ≡ from_le (part b at 4) → v.b ≡ from_le (part b (at + 4) 4)
      → v.c ≡ from_le (part b (at + 8) 4) → v.d ≡ from_le (part b (at + 12) 4) → v ≡ from_bytes (part b at 16)
  unfolding from_bytes
  gets v room e₁ e₂ e₃ e₄ =
      let f₁ : v.a ≡ from_le (part b (at + 0 * 4) 4) = rw add-zero e₁ in
      rw (got 0 (omega arith) room f₁, got 1 (omega arith) room e₂, got 2 (omega arith) room e₃, got 3 (omega arith) room e₄)
