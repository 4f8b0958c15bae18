-- The laws of the two comparisons, of numbers and of byte strings. Assumes nothing.
use Prim.Native.Nat.compare
use Prim.Native.Nat.{ℕ, zero, suc, ◌<◌, zero-le, suc-le-suc, compare, Ordering}
use mathlib.Core.Path.{◌≡◌, refl, sym, ap, ap₂, ◌∙◌}
use mathlib.Core.Bool.{true, false, false≢true}
use mathlib.Core.List.{List, [], ◌∷◌, ◌++◌}
use native.Mathlib.Nat.{le_of_suc-le-suc, not-suc-le-zero}
use native.Mathlib.Omega.{arith}
use lib.Dec.{compare_is_eq}
use Rattle.base_order.specs.Order.{by_bytes, is_below, same}

-- a comparison is one of three
pub cases : {B : Type 0} (o : Ordering) → (o ≡ Ordering.lt → B) → (o ≡ Ordering.eq → B) → (o ≡ Ordering.gt → B) → B
cases Ordering.lt l e g = l refl
cases Ordering.eq l e g = e refl
cases Ordering.gt l e g = g refl

-- a strict total order: what is alike is one, the turned question has the turned answer, and `below` goes on
pub record Lawful {K : Type 0} (cmp : K → K → Ordering) : Type 0 where
  pub alike : (a b : K) → cmp a b ≡ Ordering.eq → a ≡ b
  pub self : (a : K) → cmp a a ≡ Ordering.eq
  pub over : (a b : K) → cmp a b ≡ Ordering.gt → cmp b a ≡ Ordering.lt
  pub under : (a b : K) → cmp a b ≡ Ordering.lt → cmp b a ≡ Ordering.gt
  pub chain : (a b c : K) → cmp a b ≡ Ordering.lt → cmp b c ≡ Ordering.lt → cmp a c ≡ Ordering.lt

-- numbers

pub compare_self : (n : ℕ) → compare n n ≡ Ordering.eq
compare_self zero = compare.zero-zero
compare_self (suc n) = compare.suc-suc n n ∙ compare_self n

pub compare-below : (m n : ℕ) → m < n → compare m n ≡ Ordering.lt
compare-below m zero h = absurd (not-suc-le-zero h)
compare-below zero (suc n) h = compare.zero-suc n
compare-below (suc m) (suc n) h = compare.suc-suc m n ∙ compare-below m n (le_of_suc-le-suc h)

pub compare-above : (m n : ℕ) → n < m → compare m n ≡ Ordering.gt
compare-above zero n h = absurd (not-suc-le-zero h)
compare-above (suc m) zero h = compare.suc-zero m
compare-above (suc m) (suc n) h = compare.suc-suc m n ∙ compare-above m n (le_of_suc-le-suc h)

pub alike : (m n : ℕ) → compare m n ≡ Ordering.eq → m ≡ n
alike zero zero q = refl
alike zero (suc n) q = cc (compare.zero-suc n)
alike (suc m) zero q = cc (compare.suc-zero m)
alike (suc m) (suc n) q = ap suc (alike m n (sym (compare.suc-suc m n) ∙ q))

pub below : (m n : ℕ) → compare m n ≡ Ordering.lt → m < n
below zero zero q = absurd (let z : ◌≡◌ {A = ℕ} 0 1 = cc compare.zero-zero in omega arith)
below zero (suc n) q = suc-le-suc zero-le
below (suc m) zero q = absurd (let z : ◌≡◌ {A = ℕ} 0 1 = cc (compare.suc-zero m) in omega arith)
below (suc m) (suc n) q = suc-le-suc (below m n (sym (compare.suc-suc m n) ∙ q))

pub above : (m n : ℕ) → compare m n ≡ Ordering.gt → n < m
above zero zero q = absurd (let z : ◌≡◌ {A = ℕ} 0 1 = cc compare.zero-zero in omega arith)
above zero (suc n) q = absurd (let z : ◌≡◌ {A = ℕ} 0 1 = cc (compare.zero-suc n) in omega arith)
above (suc m) zero q = suc-le-suc zero-le
above (suc m) (suc n) q = suc-le-suc (above m n (sym (compare.suc-suc m n) ∙ q))

pub numbers : Lawful compare
numbers = record {
  alike = alike;
  self = compare_self;
  over = λ a b q. compare-below b a (above a b q);
  under = λ a b q. compare-above b a (below a b q);
  chain = λ a b c p q. let x = below a b p in let y = below b c q in compare-below a c (omega arith);
}

-- byte strings

pub bytes-alike : (a b : List ℕ) → by_bytes a b ≡ Ordering.eq → a ≡ b
bytes-alike [] [] q = refl
bytes-alike [] (y ∷ ys) q = cc
bytes-alike (x ∷ xs) [] q = cc
bytes-alike (x ∷ xs) (y ∷ ys) q =
    cases (compare x y)
    (λ p. let n : Ordering.lt ≡ Ordering.eq = simp p at q in cc)
    (λ p. ap₂ ◌∷◌ (alike x y p) (bytes-alike xs ys (simp p at q)))
    (λ p. let n : Ordering.gt ≡ Ordering.eq = simp p at q in cc)

pub bytes-self : (a : List ℕ) → by_bytes a a ≡ Ordering.eq
bytes-self [] = refl
bytes-self (x ∷ xs) = simp (compare_self x) (bytes-self xs)

pub bytes-over : (a b : List ℕ) → by_bytes a b ≡ Ordering.gt → by_bytes b a ≡ Ordering.lt
bytes-over [] [] q = cc
bytes-over [] (y ∷ ys) q = cc
bytes-over (x ∷ xs) [] q = refl
bytes-over (x ∷ xs) (y ∷ ys) q =
    cases (compare x y)
    (λ p. let n : Ordering.lt ≡ Ordering.gt = simp p at q in cc)
    (λ p. simp (alike x y p, compare_self) (bytes-over xs ys (simp p at q)))
    (λ p. simp (numbers.over x y p))

pub bytes-under : (a b : List ℕ) → by_bytes a b ≡ Ordering.lt → by_bytes b a ≡ Ordering.gt
bytes-under [] [] q = cc
bytes-under [] (y ∷ ys) q = refl
bytes-under (x ∷ xs) [] q = cc
bytes-under (x ∷ xs) (y ∷ ys) q =
    cases (compare x y)
    (λ p. simp (numbers.under x y p))
    (λ p. simp (alike x y p, compare_self) (bytes-under xs ys (simp p at q)))
    (λ p. let n : Ordering.gt ≡ Ordering.lt = simp p at q in cc)

pub bytes-chain : (a b c : List ℕ) → by_bytes a b ≡ Ordering.lt → by_bytes b c ≡ Ordering.lt → by_bytes a c ≡ Ordering.lt
bytes-chain a [] [] p q = cc
bytes-chain a (y ∷ ys) [] p q = cc
bytes-chain [] b (z ∷ zs) p q = refl
bytes-chain (x ∷ xs) [] (z ∷ zs) p q = cc
bytes-chain (x ∷ xs) (y ∷ ys) (z ∷ zs) p q =
    cases (compare x y)
    (λ f. cases (compare y z)
    (λ g. simp (numbers.chain x y z f g))
    (λ g. simp (sym (alike y z g), f))
    (λ g. let n : Ordering.gt ≡ Ordering.lt = simp g at q in cc))
    (λ f. cases (compare y z)
    (λ g. simp (alike x y f, g))
    (λ g. simp (alike x y f, g) (bytes-chain xs ys zs (simp f at p) (simp g at q)))
    (λ g. let n : Ordering.gt ≡ Ordering.lt = simp g at q in cc))
    (λ f. let n : Ordering.gt ≡ Ordering.lt = simp f at p in cc)

pub bytes : Lawful by_bytes
bytes = record { alike = bytes-alike; self = bytes-self; over = bytes-over; under = bytes-under; chain = bytes-chain }

-- strings that begin alike compare as what follows
pub bytes-skip : (w xs ys : List ℕ) → by_bytes (w ++ xs) (w ++ ys) ≡ by_bytes xs ys
bytes-skip [] xs ys = refl
bytes-skip (x ∷ w) xs ys = simp (compare_self x) (bytes-skip w xs ys)

-- `same` tests equality
pub same_self : (a : List ℕ) → same a a ≡ true
same_self a = ap compare_is_eq (bytes-self a)

pub same_true : (a b : List ℕ) → same a b ≡ true → a ≡ b
same_true a b e =
    cases (by_bytes a b)
    (λ p. let n : false ≡ true = simp p at e in cc)
    (λ p. bytes-alike a b p)
    (λ p. let n : false ≡ true = simp p at e in cc)

pub same_false : (a b : List ℕ) → (a ≡ b → ⊥) → same a b ≡ false
same_false a b d =
    cases (by_bytes a b)
    (λ p. simp p)
    (λ p. absurd (d (bytes-alike a b p)))
    (λ p. simp p)

pub below-lt : (a b : List ℕ) → is_below a b ≡ true → by_bytes a b ≡ Ordering.lt
below-lt a b e = cases (by_bytes a b) (λ q. q) (λ q. absurd (false≢true (simp q at e))) (λ q. absurd (false≢true (simp q at e)))
