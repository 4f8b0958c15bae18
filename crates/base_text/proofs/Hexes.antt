-- Bytes written in hexadecimal, one by one. Assumes nothing.
use mathlib.Core.Path.{◌≡◌, refl, sym, ap, ap₂, ◌∙◌}
use mathlib.Core.List.{List, [], ◌∷◌, ◌++◌, append_assoc, append-nil}
use Prim.Native.Nat.{ℕ, zero, suc, ◌+◌, ◌*◌, ◌/◌, ◌%◌, ◌≤◌, ◌<◌}
use native.Mathlib.Nat.{le_of_suc-le-suc, not-suc-le-zero}
use native.Mathlib.Numerals.{add-one}
use native.Mathlib.Omega.{arith}
use lib.ListN.{length, take, drop, get_or, set, length-append, drop_of_length-le}
use lib.Seq.{paste, paste-suc, take-length}
use Rattle.base_number.proofs.Halves.{write-next}
use Rattle.base_text.specs.Text.{hex_digit, hex}
use Rattle.base_text.proofs.TextLaws.{length-hex}

module _ (d₀ d s : List ℕ) (at i : ℕ) (is : d ≡ paste d₀ at s i) where
  -- one more byte is written
  copy_step : at + length s ≤ length d₀ → i < length s → set d (at + i) (get_or s i 0) ≡ paste d₀ at s (i + 1)
  copy_step room more =
      ap (λ (l : List ℕ). set l (at + i) (get_or s i 0)) is
      ∙ paste-suc d₀ at s i 0 (omega arith) more
      ∙ ap (λ (k : ℕ). paste d₀ at s k) (sym (add-one i))

two-more : (i : ℕ) → 2 * suc i ≡ suc (suc (2 * i))
two-more i = omega arith

high_digit : (xs : List ℕ) (i : ℕ) → i < length xs → get_or (hex xs) (2 * i) 0 ≡ hex_digit (get_or xs i 0 / 16)
unfolding hex
high_digit [] i h = absurd (not-suc-le-zero h)
high_digit (x ∷ xs) zero h = refl
high_digit (x ∷ xs) (suc i) h = ap (λ (k : ℕ). get_or (hex (x ∷ xs)) k 0) (two-more i) ∙ high_digit xs i (le_of_suc-le-suc h)

low_digit : (xs : List ℕ) (i : ℕ) → i < length xs → get_or (hex xs) (suc (2 * i)) 0 ≡ hex_digit (get_or xs i 0 % 16)
unfolding hex
low_digit [] i h = absurd (not-suc-le-zero h)
low_digit (x ∷ xs) zero h = refl
low_digit (x ∷ xs) (suc i) h = ap (λ (k : ℕ). get_or (hex (x ∷ xs)) (suc k) 0) (two-more i) ∙ low_digit xs i (le_of_suc-le-suc h)

module _ (d₀ d s : List ℕ) (at i : ℕ) (is : d ≡ paste d₀ at (hex s) (2 * i)) where
  -- one more byte is written
  pub hex-step : (high low : ℕ) → at + 2 * length s ≤ length d₀ → i < length s → high ≡ hex_digit (get_or s i 0 / 16) → low ≡ hex_digit (get_or s i 0 % 16)
      → set (set d (at + 2 * i) high) (at + 2 * i + 1) low ≡ paste d₀ at (hex s) (2 * (i + 1))
  hex-step high low room more eh el =
      let n : length (hex s) ≡ 2 * length s = length-hex s in
      let p : at + 2 * i + 1 ≡ at + (2 * i + 1) = omega arith in
      let q : 2 * i + 1 + 1 ≡ 2 * (i + 1) = omega arith in
      let one : set d (at + 2 * i) high ≡ paste d₀ at (hex s) (2 * i + 1) =
      ap (λ (x : ℕ). set d (at + 2 * i) x) (eh ∙ sym (high_digit s i more)) ∙ copy_step d₀ d (hex s) at (2 * i) is (omega arith) (omega arith) in
      ap₂ (λ (k x : ℕ). set (set d (at + 2 * i) high) k x) p (el ∙ sym (low_digit s i more) ∙ ap (λ (k : ℕ). get_or (hex s) k 0) (sym (add-one (2 * i))))
      ∙ copy_step d₀ (set d (at + 2 * i) high) (hex s) at (2 * i + 1) one (omega arith) (omega arith)
      ∙ ap (λ (k : ℕ). paste d₀ at (hex s) k) q

  -- all are
  pub hex-all : i ≤ length s → length s ≤ i → d ≡ take at d₀ ++ hex s ++ drop (at + 2 * length s) d₀
  hex-all le ge =
      let q : 2 * i ≡ length (hex s) = omega (arith, length-hex s) in
      is ∙ ap (λ (k : ℕ). paste d₀ at (hex s) k) q
      ∙ ap₂ (λ (l : List ℕ) (k : ℕ). take at d₀ ++ l ++ drop (at + k) d₀) (take-length (hex s)) (length-hex s)

-- four words of four bytes fill sixteen
pub four-words : (z w₁ w₂ w₃ w₄ a b c d : List ℕ) → length z ≡ 16 → length a ≡ 4 → length b ≡ 4 → length c ≡ 4
    → w₁ ≡ take 0 z ++ a ++ drop 4 z → w₂ ≡ take 4 w₁ ++ b ++ drop 8 w₁ → w₃ ≡ take 8 w₂ ++ c ++ drop 12 w₂ → w₄ ≡ take 12 w₃ ++ d ++ drop 16 w₃
    → w₄ ≡ a ++ (b ++ (c ++ d))
four-words z w₁ w₂ w₃ w₄ a b c d lz la lb lc e₁ e₂ e₃ e₄ =
    let lab : length (a ++ b) ≡ 8 = omega (arith, length-append a b) in
    let labc : length (a ++ b ++ c) ≡ 12 = omega (arith, length-append (a ++ b) c) in
    let i₂ : w₂ ≡ take 0 z ++ (a ++ b) ++ drop 8 z = e₂ ∙ ap (λ (l : List ℕ). take 4 l ++ b ++ drop 8 l) e₁ ∙ write-next z 0 a b 4 4 la (omega arith) in
    let i₃ : w₃ ≡ take 0 z ++ (a ++ b ++ c) ++ drop 12 z = e₃ ∙ ap (λ (l : List ℕ). take 8 l ++ c ++ drop 12 l) i₂ ∙ write-next z 0 (a ++ b) c 8 4 lab (omega arith) in
    let i₄ : w₄ ≡ take 0 z ++ (a ++ b ++ c ++ d) ++ drop 16 z = e₄ ∙ ap (λ (l : List ℕ). take 12 l ++ d ++ drop 16 l) i₃ ∙ write-next z 0 (a ++ b ++ c) d 12 4 labc (omega arith) in
    let lz' : length z ≤ 16 = omega arith in
    let none : drop 16 z ≡ [] = drop_of_length-le z lz' in
    i₄ ∙ ap (λ (l : List ℕ). a ++ b ++ c ++ d ++ l) none ∙ append-nil (a ++ b ++ c ++ d) ∙ simp append_assoc

-- what is written, of bytes that are s
pub digest-written : (d d' w s : List ℕ) (at : ℕ) → w ≡ s → length w ≡ 16 → d' ≡ take at d ++ hex w ++ drop (at + 2 * length w) d
    → d' ≡ take at d ++ hex s ++ drop (at + 32) d
digest-written d d' w s at e l h =
    h ∙ ap₂ (λ (x : List ℕ) (k : ℕ). take at d ++ hex x ++ drop (at + 2 * k) d) e l
