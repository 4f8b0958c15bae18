-- Bits taken by a mask and by its complement: F without the complement, and G as a sum. Assumes nothing.
use Rattle.std.proofs.Common.{◌≡◌, ℕ, zero, suc, ◌+◌, ◌-◌, ◌*◌, ◌/◌, ◌%◌, ◌^◌, ◌<◌, sym, refl, ap, ◌∙◌, subst, ap₂, add_comm, pow-suc, arith}
use lib.Bits.{bit_and, bit_or, bit_xor, and_shr, or_shr, xor_shr, and_mod, or_mod, xor_mod, and_zero_l, and_zero_r, or_disjoint}
use Rattle.base_md5.specs.Md5.{not32}

-- what holds of both binary digits
digit : (P : ℕ → Type 0) → P 0 → P 1 → (a : ℕ) → a < 2 → P a
digit P p q zero h = p
digit P p q (suc zero) h = q
digit P p q (suc (suc a)) h = absurd (omega arith)

-- equal in the first half of the digits and in the last
same : {a b : ℕ} → a / 2 ≡ b / 2 → a % 2 ≡ b % 2 → a ≡ b
same p q = omega arith

-- n has the k digits that x has not
module _ (k x n : ℕ) (e : x + n + 1 ≡ 2 ^ suc k) where
  twice : x + n + 1 ≡ 2 ^ k * 2
  twice = e ∙ pow-suc 2 k

  half : x / 2 + n / 2 + 1 ≡ 2 ^ k
  half = let f = twice in omega arith

  last : n % 2 ≡ 1 - x % 2
  last = let f = twice in omega arith

-- a digit taken by x or by its complement
taken : (a b c : ℕ) → a < 2 → b < 2 → c < 2 → bit_or (bit_and a b) (bit_and (1 - a) c) ≡ bit_xor c (bit_and a (bit_xor b c))
taken a b c ha hb hc =
    digit (λ (a : ℕ). bit_or (bit_and a b) (bit_and (1 - a) c) ≡ bit_xor c (bit_and a (bit_xor b c)))
    (digit (λ (c : ℕ). bit_or (bit_and 0 b) (bit_and 1 c) ≡ bit_xor c (bit_and 0 (bit_xor b c))) refl refl c hc)
    (digit (λ (b : ℕ). bit_or (bit_and 1 b) (bit_and 0 c) ≡ bit_xor c (bit_and 1 (bit_xor b c)))
    (digit (λ (c : ℕ). bit_or (bit_and 1 0) (bit_and 0 c) ≡ bit_xor c (bit_and 1 (bit_xor 0 c))) refl refl c hc)
    (digit (λ (c : ℕ). bit_or (bit_and 1 1) (bit_and 0 c) ≡ bit_xor c (bit_and 1 (bit_xor 1 c))) refl refl c hc) b hb) a ha

-- no digit is taken by both
none : (a b c : ℕ) → a < 2 → b < 2 → c < 2 → bit_and (bit_and b a) (bit_and c (1 - a)) ≡ 0
none a b c ha hb hc =
    digit (λ (a : ℕ). bit_and (bit_and b a) (bit_and c (1 - a)) ≡ 0)
    (digit (λ (b : ℕ). bit_and (bit_and b 0) (bit_and c 1) ≡ 0) refl refl b hb)
    (digit (λ (b : ℕ). bit_and (bit_and b 1) (bit_and c 0) ≡ 0) refl (digit (λ (c : ℕ). bit_and (bit_and 1 1) (bit_and c 0) ≡ 0) refl refl c hc) b hb) a ha

bit : (a : ℕ) → a % 2 < 2
bit a = omega arith

merged : (k x n y z : ℕ) → x + n + 1 ≡ 2 ^ k → z < 2 ^ k → bit_or (bit_and x y) (bit_and n z) ≡ bit_xor z (bit_and x (bit_xor y z))
merged zero x n y z e h =
    let p : x ≡ 0 = omega arith in
    let q : n ≡ 0 = omega arith in
    let r : z ≡ 0 = omega arith in
    rw (p, q, r)
merged (suc k) x n y z e h =
    let small : z < 2 ^ k * 2 = subst (λ (m : ℕ). z < m) (pow-suc 2 k) h in
    let low : z / 2 < 2 ^ k = omega arith in
    same
    (or_shr (bit_and x y) (bit_and n z) 1 ∙ ap₂ bit_or (and_shr x y 1) (and_shr n z 1) ∙ merged k (x / 2) (n / 2) (y / 2) (z / 2) (half k x n e) low
    ∙ sym (xor_shr z (bit_and x (bit_xor y z)) 1 ∙ ap (bit_xor (z / 2)) (and_shr x (bit_xor y z) 1 ∙ ap (bit_and (x / 2)) (xor_shr y z 1))))
    (or_mod (bit_and x y) (bit_and n z) 1 ∙ ap₂ bit_or (and_mod x y 1) (and_mod n z 1 ∙ ap (λ (m : ℕ). bit_and m (z % 2)) (last k x n e))
    ∙ taken (x % 2) (y % 2) (z % 2) (bit x) (bit y) (bit z)
    ∙ sym (xor_mod z (bit_and x (bit_xor y z)) 1 ∙ ap (bit_xor (z % 2)) (and_mod x (bit_xor y z) 1 ∙ ap (bit_and (x % 2)) (xor_mod y z 1))))

disjoint : (k z n x y : ℕ) → z + n + 1 ≡ 2 ^ k → bit_and (bit_and x z) (bit_and y n) ≡ 0
disjoint zero z n x y e =
    let p : z ≡ 0 = omega arith in
    rw (p, and_zero_r, and_zero_l)
disjoint (suc k) z n x y e =
    same
    (and_shr (bit_and x z) (bit_and y n) 1 ∙ ap₂ bit_and (and_shr x z 1) (and_shr y n 1) ∙ disjoint k (z / 2) (n / 2) (x / 2) (y / 2) (half k z n e))
    (and_mod (bit_and x z) (bit_and y n) 1 ∙ ap₂ bit_and (and_mod x z 1) (and_mod y n 1 ∙ ap (bit_and (y % 2)) (last k z n e))
    ∙ none (z % 2) (x % 2) (y % 2) (bit z) (bit x) (bit y))

complement : (z : ℕ) → z < 2 ^ 32 → z + not32 z + 1 ≡ 2 ^ 32
complement z h = omega arith

-- F
pub first : (x y z : ℕ) → x < 2 ^ 32 → z < 2 ^ 32 → bit_xor z (bit_and x (bit_xor y z)) ≡ bit_or (bit_and x y) (bit_and (not32 x) z)
first x y z hx hz = sym (merged 32 x (not32 x) y z (complement x hx) hz)

-- G
pub second : (x y z : ℕ) → z < 2 ^ 32 → bit_and y (not32 z) + bit_and x z ≡ bit_or (bit_and x z) (bit_and y (not32 z))
second x y z h =
    add_comm (bit_and y (not32 z)) (bit_and x z) ∙ sym (or_disjoint (bit_and x z) (bit_and y (not32 z)) (disjoint 32 z (not32 z) x y (complement z h)))
