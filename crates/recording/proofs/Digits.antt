-- Decimal numbers are read as they are printed. Assumes nothing.
use Prim.Native.Nat.{ℕ, zero, suc, ◌+◌, ◌*◌, ◌-◌, ◌/◌, ◌%◌, ◌^◌, ◌≤◌, ◌<◌}
use mathlib.Core.Path.{◌≡◌, refl, sym, ap, ap₂, subst, ◌∙◌}
use mathlib.Core.List.{[], ◌∷◌, ◌++◌, append_assoc}
use native.Mathlib.Nat.{pow-suc, pow-zero}
use native.Mathlib.Omega.{arith}
use lib.Dec.{leb, ltb, eqb, lit<}
use lib.ListN.{get_or}
use borrow.Author.Tests.{eq-eqb, ne_eqb, eqb-true, eqb-false, lt-ltb, le-ltb, ltb-true, ltb-false, le-leb, leb-true}
use Rattle.base_text.specs.Text.{digits, decimal}
use Rattle.base_text.proofs.TextLaws.{digits-one, digits_more, one-or-more}
use Rattle.machine.specs.Names.{Bytes}
use Rattle.recording.specs.Entry.{Word64}
use Rattle.recording.specs.Read.{got, no, digit_value, digits_on, read_number}
use Rattle.recording.proofs.Readers.{Exact, by-test, no-got, got-value, got-rest}

-- no digit stands first
abbrev pub NoDigit : Bytes → Type 0
NoDigit l = digit_value (get_or l 0 0) ≡ 10

-- The value of a digit -------------------------------------------------------------------------------------------------

pub digit_value_lem : (d : ℕ) → d < 10 → digit_value (48 + d) ≡ d
unfolding digit_value
digit_value_lem d h = rw (le-leb 48 (48 + d) (omega arith), le-leb (48 + d) 57 (omega arith)) (omega arith)

-- a byte with a value is a digit
pub is_digit : (b : ℕ) → digit_value b < 10 → b ≡ 48 + digit_value b
unfolding digit_value
is_digit b h =
    by-test (leb 48 b)
    (λ t. by-test (leb b 57)
    (λ u. rw (t, u) (omega (arith, leb-true 48 b t)))
    (λ u. let z : 10 < 10 = rw (t, u) at h in absurd (omega arith)))
    (λ t. let z : 10 < 10 = rw t at h in absurd (omega arith))

-- More fuel changes nothing, where the digits fit ----------------------------------------------------------------------

pub digits-fuel : (most n : ℕ) → n < 10 ^ suc most → digits (suc (suc most)) n ≡ digits (suc most) n
digits-fuel zero n h = digits-one 1 n (omega (arith, pow-suc 10 0, pow-zero 10)) ∙ sym (digits-one 0 n (omega (arith, pow-suc 10 0, pow-zero 10)))
digits-fuel (suc most) n h =
    one-or-more n
    (λ s. digits-one (suc (suc most)) n s ∙ sym (digits-one (suc most) n s))
    (λ m. digits_more (suc (suc most)) n m
    ∙ ap (λ (l : Bytes). l ++ ((48 + n % 10) ∷ [])) (digits-fuel most (n / 10) (omega (arith, pow-suc 10 (suc most))))
    ∙ sym (digits_more (suc most) n m))

-- one more digit behind
pub decimal-more : (v d : ℕ) → 1 ≤ v → d < 10 → 10 * v + d < 2 ^ 64 → decimal (10 * v + d) ≡ decimal v ++ (48 + d) ∷ []
unfolding decimal
decimal-more v d pos small fits =
    let q : (10 * v + d) / 10 ≡ v = omega arith in
    let m : (10 * v + d) % 10 ≡ d = omega arith in
    digits_more 19 (10 * v + d) (omega arith)
    ∙ ap₂ (λ (a b : ℕ). digits 19 a ++ (48 + b) ∷ []) q m
    ∙ ap (λ (l : Bytes). l ++ (48 + d) ∷ []) (sym (digits-fuel 18 v (omega arith)))

pub decimal-one : (d : ℕ) → d < 10 → decimal d ≡ (48 + d) ∷ []
unfolding decimal
decimal-one d h = digits-one 19 d h ∙ ap (λ (k : ℕ). (48 + k) ∷ []) (omega arith)

-- A step of the reader -------------------------------------------------------------------------------------------------

module _ (v b : ℕ) (l : Bytes) where
  pub digits-more-read : digit_value b < 10 → 10 * v + digit_value b < 2 ^ 64 → digits_on v (b ∷ l) ≡ digits_on (10 * v + digit_value b) l
  unfolding digits_on
  digits-more-read d h = rw (lt-ltb (digit_value b) 10 d, lt-ltb (10 * v + digit_value b) (2 ^ 64) h)

  pub digits-wide : digit_value b < 10 → 2 ^ 64 ≤ 10 * v + digit_value b → digits_on v (b ∷ l) ≡ no
  unfolding digits_on
  digits-wide d h = rw (lt-ltb (digit_value b) 10 d, le-ltb (10 * v + digit_value b) (2 ^ 64) h)

  pub digits-end : 10 ≤ digit_value b → digits_on v (b ∷ l) ≡ got v (b ∷ l)
  unfolding digits_on
  digits-end d = rw (le-ltb (digit_value b) 10 d)

module _ (b : ℕ) (l : Bytes) where
  pub number-zero : b ≡ 48 → read_number (b ∷ l) ≡ got 0 l
  unfolding read_number
  number-zero e = rw (eq-eqb b 48 e)

  pub number_digits : (b ≡ 48 → ⊥) → digit_value b < 10 → read_number (b ∷ l) ≡ digits_on 0 (b ∷ l)
  unfolding read_number
  number_digits n d = rw (ne_eqb b 48 n, lt-ltb (digit_value b) 10 d)

  pub number-none : (b ≡ 48 → ⊥) → 10 ≤ digit_value b → read_number (b ∷ l) ≡ no
  unfolding read_number
  number-none n d = rw (ne_eqb b 48 n, le-ltb (digit_value b) 10 d)

-- What is printed is read ----------------------------------------------------------------------------------------------

number-on : (k v : ℕ) (l : Bytes) → v ≤ k → 1 ≤ v → v < 2 ^ 64 → read_number (decimal v ++ l) ≡ digits_on v l
number-on zero v l le pos wide = absurd (omega arith)
number-on (suc k) v l le pos wide =
    one-or-more v
    (λ s.
    let d : digit_value (48 + v) ≡ v = digit_value_lem v s in
    let n : 48 + v ≡ 48 → ⊥ = λ e. omega arith in
    let w : 10 * 0 + digit_value (48 + v) ≡ v = omega arith in
    ap (λ (m : Bytes). read_number (m ++ l)) (decimal-one v s)
    ∙ number_digits (48 + v) l n (omega arith)
    ∙ digits-more-read 0 (48 + v) l (omega arith) (omega arith)
    ∙ ap (λ (x : ℕ). digits_on x l) w)
    (λ m.
    let q : ℕ = v / 10 in
    let x : ℕ = 48 + v % 10 in
    let d : digit_value x ≡ v % 10 = digit_value_lem (v % 10) (omega arith) in
    let same : 10 * q + v % 10 ≡ v = omega arith in
    let w : 10 * q + digit_value x ≡ v = omega arith in
    ap (λ (y : ℕ). read_number (decimal y ++ l)) (sym same)
    ∙ ap (λ (m : Bytes). read_number (m ++ l)) (decimal-more q (v % 10) (omega arith) (omega arith) (omega arith))
    ∙ ap read_number (append_assoc (decimal q) (x ∷ []) l)
    ∙ number-on k q (x ∷ l) (omega arith) (omega arith) (omega arith)
    ∙ digits-more-read q x l (omega arith) (omega arith)
    ∙ ap (λ (y : ℕ). digits_on y l) w)

digits-stop : (v : ℕ) (l : Bytes) → NoDigit l → digits_on v l ≡ got v l
unfolding digits_on
digits-stop v [] h = refl
digits-stop v (b ∷ l) h = digits-end v b l (omega arith)

pub number-find : (n : ℕ) → Word64 n → (rest : Bytes) → NoDigit rest → read_number (decimal n ++ rest) ≡ got n rest
number-find zero h rest s = ap (λ (m : Bytes). read_number (m ++ rest)) (decimal-one 0 (lit< tt)) ∙ number-zero 48 rest refl
number-find (suc n) h rest s = number-on (suc n) (suc n) rest (omega arith) (omega arith) h ∙ digits-stop (suc n) rest s

-- What is read is printed ----------------------------------------------------------------------------------------------

digits-only : (v : ℕ) (l : Bytes) (n : ℕ) (rest : Bytes) → 1 ≤ v → v < 2 ^ 64 → digits_on v l ≡ got n rest → (decimal v ++ l ≡ decimal n ++ rest) × Word64 n
unfolding digits_on
digits-only v [] n rest pos wide e =
    (ap₂ (λ (x : ℕ) (m : Bytes). decimal x ++ m) (got-value e) (got-rest e), subst Word64 (got-value e) wide)
digits-only v (b ∷ l) n rest pos wide e =
    let d : ℕ = digit_value b in
    by-test (ltb d 10)
    (λ t.
    by-test (ltb (10 * v + d) (2 ^ 64))
    (λ u.
    let s : d < 10 = ltb-true d 10 t in
    let f : 10 * v + d < 2 ^ 64 = ltb-true (10 * v + d) (2 ^ 64) u in
    let o = digits-only (10 * v + d) l n rest (omega arith) f (sym (digits-more-read v b l s f) ∙ e) in (
      ap (λ (x : ℕ). decimal v ++ x ∷ l) (is_digit b s)
          ∙ sym (append_assoc (decimal v) ((48 + d) ∷ []) l)
          ∙ ap (λ (m : Bytes). m ++ l) (sym (decimal-more v d pos s f))
          ∙ o.0,
      o.1,
    ))
    (λ u. no-got (sym (digits-wide v b l (ltb-true d 10 t) (ltb-false (10 * v + d) (2 ^ 64) u)) ∙ e)))
    (λ t.
    let g = sym (digits-end v b l (ltb-false d 10 t)) ∙ e in
    (ap₂ (λ (x : ℕ) (m : Bytes). decimal x ++ m) (got-value g) (got-rest g), subst Word64 (got-value g) wide))

pub number-only : (l : Bytes) (n : ℕ) (rest : Bytes) → read_number l ≡ got n rest → (l ≡ decimal n ++ rest) × Word64 n
unfolding read_number
number-only [] n rest e = no-got e
number-only (b ∷ l) n rest e =
    let d : ℕ = digit_value b in
    by-test (eqb b 48)
    (λ t.
    let g = sym (number-zero b l (eqb-true b 48 t)) ∙ e in (
      ap₂ (λ (x : ℕ) (m : Bytes). x ∷ m) (eqb-true b 48 t) (got-rest g)
          ∙ ap (λ (m : Bytes). m ++ rest) (sym (decimal-one 0 (lit< tt)) ∙ ap decimal (got-value g)),
      subst Word64 (got-value g) (lit< tt),
    ))
    (λ t.
    by-test (ltb d 10)
    (λ u.
    let s : d < 10 = ltb-true d 10 u in
    let is : b ≡ 48 + d = is_digit b s in
    let n : b ≡ 48 → ⊥ = eqb-false b 48 t in
    let pos : 1 ≤ d = omega arith in
    let w : 10 * 0 + d ≡ d = omega arith in
    let g = ap (λ (x : ℕ). digits_on x l) (sym w) ∙ sym (digits-more-read 0 b l s (omega arith)) ∙ sym (number_digits b l n s) ∙ e in
    let o = digits-only d l _ rest pos (omega arith) g in
    (ap (λ (x : ℕ). x ∷ l) is ∙ ap (λ (m : Bytes). m ++ l) (sym (decimal-one d s)) ∙ o.0, o.1))
    (λ u. no-got (sym (number-none b l (eqb-false b 48 t) (ltb-false d 10 u)) ∙ e)))

pub number-exact : Exact read_number decimal Word64 NoDigit
number-exact = record { finds = number-find; only = number-only }
