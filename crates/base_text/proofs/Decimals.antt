-- The last digits of a number with zeros before it are its decimal digits. Assumes nothing.
use mathlib.Core.Path.{◌≡◌, refl, sym, ap, ◌∙◌}
use mathlib.Core.List.{List, [], ◌∷◌, ◌++◌}
use Prim.Native.Nat.{ℕ, zero, suc, ◌+◌, ◌-◌, ◌/◌, ◌%◌, ◌^◌, ◌≤◌, ◌<◌}
use native.Mathlib.Nat.{pow-suc, pow-zero, le_of_suc-le-suc, not-suc-le-zero}
use native.Mathlib.Omega.{arith}
use lib.Dec.{lit≤}
use lib.ListN.{length, take, drop, length-append, length-drop}
use lib.Seq.{take_all, drop_at, drop-append-le}
use Rattle.base_text.specs.Text.{digits, decimal}
use Rattle.base_text.proofs.TextLaws.{digits-one, digits_more, length-digits-one, length-digits-more, one-or-more}

-- the last k digits of n
unfoldable pub padded : (k n : ℕ) → List ℕ
padded zero n = []
padded (suc k) n = padded k (n / 10) ++ ((48 + n % 10) ∷ [])

pub length-padded : (k n : ℕ) → length (padded k n) ≡ k
unfolding padded
length-padded zero n = refl
length-padded (suc k) n = omega (arith, length-append (padded k (n / 10)) ((48 + n % 10) ∷ []), length-padded k (n / 10))

module _ (k most n : ℕ) where
  padded-one : n < 10 → drop (suc k - length (digits (suc most) n)) (padded (suc k) n) ≡ digits (suc most) n
  unfolding padded
  padded-one h =
      let j : suc k - length (digits (suc most) n) ≡ k = omega (arith, length-digits-one most n h) in
      ap (λ (i : ℕ). drop i (padded (suc k) n)) j
      ∙ drop_at (padded k (n / 10)) ((48 + n % 10) ∷ []) k (length-padded k (n / 10))
      ∙ sym (digits-one most n h)

  padded-more : 10 ≤ n → drop (k - length (digits most (n / 10))) (padded k (n / 10)) ≡ digits most (n / 10) → drop (suc k - length (digits (suc most) n)) (padded (suc k) n) ≡ digits (suc most) n
  unfolding padded
  padded-more h rest =
      let m : ℕ = k - length (digits most (n / 10)) in
      let j : suc k - length (digits (suc most) n) ≡ m = omega (arith, length-digits-more most n h) in
      ap (λ (i : ℕ). drop i (padded (suc k) n)) j
      ∙ drop-append-le m (padded k (n / 10)) ((48 + n % 10) ∷ []) (omega (arith, length-padded k (n / 10)))
      ∙ ap (λ (l : List ℕ). l ++ ((48 + n % 10) ∷ [])) rest
      ∙ sym (digits_more most n h)

pub padded-digits : (k most n : ℕ) → k ≤ most → n < 10 ^ suc k → drop (suc k - length (digits (suc most) n)) (padded (suc k) n) ≡ digits (suc most) n
padded-digits zero most n le hi = padded-one zero most n (omega (arith, pow-suc 10 0, pow-zero 10))
padded-digits (suc k) zero n le hi = absurd (not-suc-le-zero le)
padded-digits (suc k) (suc most) n le hi =
    one-or-more n
    (padded-one (suc k) (suc most) n)
    (λ h. padded-more (suc k) (suc most) n h (padded-digits k most (n / 10) (le_of_suc-le-suc le) (omega (arith, pow-suc 10 (suc k)))))

-- the last five digits of n, without the zeros before it
module _ (n k : ℕ) (small : n < 65536) (long : k ≡ length (decimal n)) where
  abbrev last : List ℕ
  last = take (5 - (5 - k)) (drop (5 - k) (padded 5 n))

  last_digits : last ≡ decimal n
  unfolding decimal
  last_digits =
      let l : length (drop (5 - k) (padded 5 n)) ≤ 5 - (5 - k) = omega (arith, length-drop (5 - k) (padded 5 n), length-padded 5 n) in
      take_all (5 - (5 - k)) (drop (5 - k) (padded 5 n)) l
      ∙ ap (λ (j : ℕ). drop (5 - j) (padded 5 n)) long
      ∙ padded-digits 4 19 n (lit≤ tt) (omega arith)

  pub decimal-written : (d d' : List ℕ) (at : ℕ) → d' ≡ take at d ++ last ++ drop (at + length last) d → d' ≡ take at d ++ decimal n ++ drop (at + length (decimal n)) d
  decimal-written d d' at e = e ∙ ap (λ (l : List ℕ). take at d ++ l ++ drop (at + length l) d) last_digits
