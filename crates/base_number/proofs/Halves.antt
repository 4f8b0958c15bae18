-- A number of k + k bytes is read and written by its halves. Assumes nothing.
use mathlib.Core.Path.{◌≡◌, sym, ap, ◌∙◌}
use mathlib.Core.List.{List, [], ◌∷◌, ◌++◌, append_assoc}
use Prim.Native.Nat.{ℕ, ◌+◌, ◌*◌, ◌/◌, ◌%◌, ◌^◌, ◌≤◌, ◌<◌}
use native.Mathlib.Nat.{mod-eq_of_lt}
use native.Mathlib.Numerals.{add-one}
use native.Mathlib.Omega.{arith}
use lib.ListN.{length, take, drop, get_or, set, length-append, length-drop}
use lib.Seq.{take_at, drop-drop, drop-append-add, take-add, drop-cons, set_split, length-take-le}
use Rattle.base_number.specs.Number.{le, from_le}
use Rattle.base_number.proofs.NumberLaws.{length-le, from_le-append, le-append, le-mod}

module _ (b : List ℕ) (at : ℕ) where
  -- a byte, as a number of one byte
  pub get-byte : at < length b → get_or b at 0 ≡ from_le (take 1 (drop at b))
  unfolding from_le
  get-byte h = sym (ap (λ (l : List ℕ). from_le (take 1 l)) (drop-cons b at 0 h) ∙ omega arith)

  pub write_byte : (x : ℕ) → at < length b → set b at x ≡ take at b ++ (x ∷ []) ++ drop (at + 1) b
  write_byte x h =
      set_split b at x h ∙ ap (λ (k : ℕ). take at b ++ (x ∷ drop k b)) (sym (add-one at)) ∙ sym (append_assoc (take at b) (x ∷ []) (drop (at + 1) b))

  pub put_byte : (x : ℕ) → x < 256 → at < length b → set b at x ≡ take at b ++ le 1 x ++ drop (at + 1) b
  unfolding le
  put_byte x small h = write_byte x h ∙ ap (λ (y : ℕ). take at b ++ (y ∷ []) ++ drop (at + 1) b) (sym (mod-eq_of_lt small))

  pub get-halves : (k lo hi : ℕ) → at + (k + k) ≤ length b → lo ≡ from_le (take k (drop at b)) → hi ≡ from_le (take k (drop (at + k) b))
      → lo + 256 ^ k * hi ≡ from_le (take (k + k) (drop at b))
  get-halves k lo hi room l h =
      let n : length (take k (drop at b)) ≡ k = length-take-le k (drop at b) (rw (length-drop at b) (omega arith)) in
      sym (ap from_le (take-add k k (drop at b) ∙ ap (λ (r : List ℕ). take k (drop at b) ++ take k r) (drop-drop k at b))
      ∙ from_le-append (take k (drop at b)) (take k (drop (at + k) b))
      ∙ ap (λ (j : ℕ). from_le (take k (drop at b)) + 256 ^ j * from_le (take k (drop (at + k) b))) n
      ∙ ap (λ (x : ℕ). x + 256 ^ k * from_le (take k (drop (at + k) b))) (sym l)
      ∙ ap (λ (x : ℕ). lo + 256 ^ k * x) (sym h))

  -- y is written after x
  pub write-next : (x y : List ℕ) (k j : ℕ) → length x ≡ k → at + k ≤ length b
      → take (at + k) (take at b ++ x ++ drop (at + k) b) ++ y ++ drop (at + k + j) (take at b ++ x ++ drop (at + k) b) ≡ take at b ++ (x ++ y) ++ drop (at + (k + j)) b
  write-next x y k j e room =
      let n : length (take at b ++ x) ≡ at + k = rw (length-append (take at b) x, length-take-le at b (omega arith), e) in
      let q : at + k + j ≡ length (take at b ++ x) + j = omega arith in
      let r : at + k + j ≡ at + (k + j) = omega arith in
      ap (λ (l : List ℕ). l ++ y ++ drop (at + k + j) (take at b ++ x ++ drop (at + k) b)) (take_at (take at b ++ x) (drop (at + k) b) (at + k) n)
      ∙ ap (λ (l : List ℕ). take at b ++ x ++ y ++ l)
      (ap (λ (i : ℕ). drop i (take at b ++ x ++ drop (at + k) b)) q ∙ drop-append-add (take at b ++ x) (drop (at + k) b) j ∙ drop-drop j (at + k) b ∙ ap (λ (i : ℕ). drop i b) r)
      ∙ ap (λ (l : List ℕ). l ++ drop (at + (k + j)) b) (append_assoc (take at b) x y)

  pub put-halves : (b₁ b₂ : List ℕ) (k n : ℕ) → at + (k + k) ≤ length b → b₁ ≡ take at b ++ le k (n % 256 ^ k) ++ drop (at + k) b → b₂ ≡ take (at + k) b₁ ++ le k (n / 256 ^ k) ++ drop (at + k + k) b₁
      → b₂ ≡ take at b ++ le (k + k) n ++ drop (at + (k + k)) b
  put-halves b₁ b₂ k n room one two =
      two
      ∙ ap (λ (l : List ℕ). take (at + k) l ++ le k (n / 256 ^ k) ++ drop (at + k + k) l) (one ∙ ap (λ (x : List ℕ). take at b ++ x ++ drop (at + k) b) (le-mod k n))
      ∙ write-next (le k n) (le k (n / 256 ^ k)) k k (length-le k n) (omega arith)
      ∙ ap (λ (x : List ℕ). take at b ++ x ++ drop (at + (k + k)) b) (sym (le-append k k n))
