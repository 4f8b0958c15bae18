-- The laws of numbers as text. Assumes nothing.
use mathlib.Core.Path.{◌≡◌, refl, ap, ◌∙◌}
use mathlib.Core.Bool.{Bool, true, false}
use mathlib.Core.List.{List, [], ◌∷◌, ◌++◌}
use Prim.Native.Nat.{ℕ, zero, suc, ◌+◌, ◌*◌, ◌/◌, ◌%◌, ◌^◌, ◌≤◌, ◌<◌}
use native.Mathlib.Nat.{pow-suc, pow-zero, zero-add, suc-add}
use native.Mathlib.Omega.{arith}
use lib.Dec.{ltb, lit<}
use lib.ListN.{length, length-append}
use borrow.Author.Tests.{lt-ltb, le-ltb, ltb-true, ltb-false}
use Rattle.base_text.specs.Text.{hex, digits}

pub length-hex : (d : List ℕ) → length (hex d) ≡ 2 * length d
unfolding hex
length-hex [] = refl
length-hex (x ∷ xs) = omega (arith, length-hex xs)

-- a number of one digit, and one of more
pub digits-one : (most n : ℕ) → n < 10 → digits (suc most) n ≡ (48 + n % 10) ∷ []
unfolding digits
digits-one most n h = rw (lt-ltb n 10 h)

pub digits_more : (most n : ℕ) → 10 ≤ n → digits (suc most) n ≡ digits most (n / 10) ++ ((48 + n % 10) ∷ [])
unfolding digits
digits_more most n h = rw (le-ltb n 10 h)

pub length-digits-one : (most n : ℕ) → n < 10 → length (digits (suc most) n) ≡ 1
length-digits-one most n h = ap length (digits-one most n h)

pub length-digits-more : (most n : ℕ) → 10 ≤ n → length (digits (suc most) n) ≡ suc (length (digits most (n / 10)))
length-digits-more most n h =
    ap length (digits_more most n h)
    ∙ omega (arith, length-append (digits most (n / 10)) ((48 + n % 10) ∷ []))

by-test : {B : Type 0} (t : Bool) → (t ≡ true → B) → (t ≡ false → B) → B
by-test true f g = f refl
by-test false f g = g refl

-- either way
pub one-or-more : {B : Type 0} (n : ℕ) → (n < 10 → B) → (10 ≤ n → B) → B
one-or-more n f g = by-test (ltb n 10) (λ e. f (ltb-true n 10 e)) (λ e. g (ltb-false n 10 e))

pow_pos : (k : ℕ) → 1 ≤ 10 ^ k
pow_pos zero = rw pow-zero (lit< tt)
pow_pos (suc k) = rw pow-suc (omega (arith, pow_pos k))

-- a number from 10 ^ k up to 10 ^ (k + 1) has k + 1 digits
pub length_digits : (k most n : ℕ) → 10 ^ k ≤ n → n < 10 ^ suc k → length (digits (k + suc most) n) ≡ suc k
length_digits zero most n lo hi =
    ap (λ (j : ℕ). length (digits j n)) (zero-add (suc most))
    ∙ length-digits-one most n (omega (arith, pow-suc 10 0, pow-zero 10))
length_digits (suc k) most n lo hi =
    let ten : 10 ≤ n = omega (arith, pow-suc 10 k, pow_pos k) in
    ap (λ (j : ℕ). length (digits j n)) (suc-add k (suc most))
    ∙ length-digits-more (k + suc most) n ten
    ∙ ap suc (length_digits k most (n / 10) (omega (arith, pow-suc 10 k)) (omega (arith, pow-suc 10 (suc k))))
