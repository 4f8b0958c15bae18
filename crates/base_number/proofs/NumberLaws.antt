-- The laws of numbers in bytes, over every width. Assumes nothing.
use mathlib.Core.Path.{◌≡◌, refl, sym, ap, ◌∙◌}
use mathlib.Core.List.{List, [], ◌∷◌, ◌++◌}
use Prim.Native.Nat.{ℕ, zero, suc, ◌+◌, ◌*◌, ◌/◌, ◌%◌, ◌^◌, ◌<◌}
use native.Mathlib.Nat.{pow-zero, pow-suc, pow-succ', mul_assoc, one-mul, zero-add, suc-add, div-one, div-div-eq-div-mul, mod-add-div, mod-eq_of_lt, mod-lt, div-eq_of_lt, div-lt_iff_lt-mul, add-mul-mod_self_left, add-mul-div_left}
use native.Mathlib.Omega.{arith}
use lib.Dec.{lit<}
use lib.Arith.{mod-mul, digits_div, digits_mod}
use lib.ListN.{length, take, drop}
use lib.Seq.{get_or-drop}
use Rattle.base_number.specs.Number.{le, from_le, AreBytes}

pub bytes_take : (k : ℕ) (xs : List ℕ) → AreBytes xs → AreBytes (take k xs)
bytes_take zero xs h i = lit< tt
bytes_take (suc k) [] h i = lit< tt
bytes_take (suc k) (x ∷ xs) h zero = h 0
bytes_take (suc k) (x ∷ xs) h (suc i) = bytes_take k xs (λ j. h (suc j)) i

pub bytes_drop : (k : ℕ) (xs : List ℕ) → AreBytes xs → AreBytes (drop k xs)
bytes_drop k xs h i = rw (get_or-drop k xs i 0) (h (k + i))

pub bytes-append : (xs ys : List ℕ) → AreBytes xs → AreBytes ys → AreBytes (xs ++ ys)
bytes-append [] ys h k i = k i
bytes-append (x ∷ xs) ys h k zero = h 0
bytes-append (x ∷ xs) ys h k (suc i) = bytes-append xs ys (λ j. h (suc j)) k i

pub length-le : (width n : ℕ) → length (le width n) ≡ width
unfolding le
length-le zero n = refl
length-le (suc k) n = ap suc (length-le k (n / 256))

-- what is written is read back
pub from_le-le : (width n : ℕ) → n < 256 ^ width → from_le (le width n) ≡ n
unfolding le from_le
from_le-le zero n h = omega (arith, rw pow-zero at h)
from_le-le (suc k) n h =
    ap (λ (m : ℕ). n % 256 + 256 * m) (from_le-le k (n / 256) ((div-lt_iff_lt-mul (lit< tt)).1 (rw pow-suc at h)))
    ∙ mod-add-div n 256

le-from_le-length : (xs : List ℕ) → AreBytes xs → le (length xs) (from_le xs) ≡ xs
unfolding le from_le
le-from_le-length [] h = refl
le-from_le-length (x ∷ xs) h =
    let m : ℕ = from_le xs in
    let lo : (x + 256 * m) % 256 ≡ x = add-mul-mod_self_left x 256 m ∙ mod-eq_of_lt (h 0) in
    let hi : (x + 256 * m) / 256 ≡ m = add-mul-div_left x m (lit< tt) ∙ ap (λ (q : ℕ). q + m) (div-eq_of_lt (h 0)) ∙ zero-add m in
    ap (λ (y : ℕ). y ∷ le (length xs) ((x + 256 * m) / 256)) lo
    ∙ ap (λ (q : ℕ). x ∷ le (length xs) q) hi
    ∙ ap (λ (l : List ℕ). x ∷ l) (le-from_le-length xs (λ i. h (suc i)))

-- what is read was written so
pub le-from_le : (width : ℕ) (xs : List ℕ) → AreBytes xs → length xs ≡ width → le width (from_le xs) ≡ xs
le-from_le k xs h l = ap (λ (j : ℕ). le j (from_le xs)) (sym l) ∙ le-from_le-length xs h

from_le-below : (xs : List ℕ) → AreBytes xs → from_le xs < 256 ^ length xs
unfolding from_le
from_le-below [] h = rw pow-zero (lit< tt)
from_le-below (x ∷ xs) h = rw pow-succ' (omega (arith, h 0, from_le-below xs (λ i. h (suc i))))

pub from_le-lt : (width : ℕ) (xs : List ℕ) → AreBytes xs → length xs ≡ width → from_le xs < 256 ^ width
from_le-lt k xs h l = rw l at (from_le-below xs h)

-- bytes that stand for one number are the same bytes
pub from_le-same : (xs ys : List ℕ) → AreBytes xs → AreBytes ys → length xs ≡ length ys → from_le xs ≡ from_le ys → xs ≡ ys
from_le-same xs ys hx hy l e = sym (le-from_le (length ys) xs hx l) ∙ ap (le (length ys)) e ∙ le-from_le-length ys hy

pub from_le-append : (xs ys : List ℕ) → from_le (xs ++ ys) ≡ from_le xs + 256 ^ length xs * from_le ys
unfolding from_le
from_le-append [] ys = omega (arith, ap (λ (p : ℕ). p * from_le ys) (pow-zero 256) ∙ one-mul (from_le ys))
from_le-append (x ∷ xs) ys =
    omega (arith, from_le-append xs ys, ap (λ (p : ℕ). p * from_le ys) (pow-succ' 256 (length xs)) ∙ mul_assoc 256 (256 ^ length xs) (from_le ys))

pub le-append : (m k n : ℕ) → le (m + k) n ≡ le m n ++ le k (n / 256 ^ m)
unfolding le
le-append zero k n = ap (λ (j : ℕ). le j n) (zero-add k) ∙ ap (le k) (sym (ap (λ (p : ℕ). n / p) (pow-zero 256) ∙ div-one n))
le-append (suc m) k n =
    ap (λ (j : ℕ). le j n) (suc-add m k)
    ∙ ap (λ (l : List ℕ). n % 256 ∷ l) (le-append m k (n / 256))
    ∙ ap (λ (q : ℕ). n % 256 ∷ (le m (n / 256) ++ le k q)) (div-div-eq-div-mul n 256 (256 ^ m) ∙ ap (λ (p : ℕ). n / p) (sym (pow-succ' 256 m)))

pow_pos : (k : ℕ) → 0 < 256 ^ k
pow_pos zero = rw pow-zero (lit< tt)
pow_pos (suc k) = rw pow-succ' (omega (arith, pow_pos k))

-- what does not fit the width does not count
pub le-mod : (width n : ℕ) → le width (n % 256 ^ width) ≡ le width n
unfolding le
le-mod zero n = refl
le-mod (suc k) n =
    let c : n % 256 < 256 = mod-lt n (lit< tt) in
    let split : n % 256 ^ suc k ≡ (n / 256 % 256 ^ k) * 256 + n % 256 = ap (λ (p : ℕ). n % p) (pow-suc 256 k) ∙ mod-mul n (pow_pos k) (lit< tt) in
    ap (λ (q : ℕ). q % 256 ∷ le k (q / 256)) split
    ∙ ap (λ (q : ℕ). q ∷ le k (((n / 256 % 256 ^ k) * 256 + n % 256) / 256)) (digits_mod (n / 256 % 256 ^ k) c)
    ∙ ap (λ (q : ℕ). n % 256 ∷ le k q) (digits_div (n / 256 % 256 ^ k) c)
    ∙ ap (λ (l : List ℕ). n % 256 ∷ l) (le-mod k (n / 256))

-- two bytes as one number
pub pair-bytes : (k p : ℕ) → k < 256 → p < 256 → le 2 (k + 256 * p) ≡ le 1 k ++ le 1 p
unfolding le
pair-bytes k p h g =
    let low : (k + 256 * p) % 256 ≡ k = omega arith in
    let same : k % 256 ≡ k = omega arith in
    let high : (k + 256 * p) / 256 ≡ p = omega arith in
    rw (low, high, same)
