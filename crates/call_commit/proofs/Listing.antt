-- A part list read number by number. Assumes nothing.
use Prim.Native.Nat.{ℕ, zero, suc, ◌+◌, ◌*◌, ◌≤◌}
use mathlib.Core.Path.{◌≡◌, refl, sym, ap, ◌∙◌}
use mathlib.Core.Bool.{Bool, true, ◌||◌, or-true, or-false}
use mathlib.Core.List.{List, [], ◌∷◌, ◌++◌}
use native.Mathlib.Nat.{not-suc-le-zero}
use native.Mathlib.Omega.{arith}
use borrow.Author.Tests.{eq-eqb, ne_eqb}
use lib.Dec.{eqb}
use lib.ListN.{length, take, drop}
use Rattle.base_number.specs.Number.{from_le}
use Rattle.machine.specs.ListFits.{member}
use Rattle.machine.proofs.ListFits.{member-snoc}
use Rattle.machine.specs.PartLists.{part_list}
use Rattle.call_commit.specs.Numbers.{number_at, first_numbers}

-- the bytes of i numbers
abbrev pairs : ℕ → ℕ
pairs zero = zero
pairs (suc i) = suc (suc (pairs i))

pairs-twice : (i : ℕ) → pairs i ≡ 2 * i
pairs-twice zero = refl
pairs-twice (suc i) = omega (arith, pairs-twice i)

next-pair : (i : ℕ) (bs : List ℕ) → pairs (suc i) ≤ length bs
    → part_list (take (pairs (suc i)) bs) ≡ part_list (take (pairs i) bs) ++ (from_le (take 2 (drop (pairs i) bs)) ∷ [])
unfolding part_list from_le
next-pair i [] h = absurd (not-suc-le-zero h)
next-pair i (x ∷ []) h = absurd (omega arith)
next-pair zero (x ∷ (y ∷ bs)) h = ap (λ (n : ℕ). n ∷ []) (omega arith)
next-pair (suc i) (x ∷ (y ∷ bs)) h = ap (λ (l : List ℕ). (x + 256 * y) ∷ l) (next-pair i bs (omega arith))

pair_inside : (i : ℕ) (bs : List ℕ) → pairs (suc i) ≤ length bs
    → part_list bs ≡ part_list (take (pairs i) bs) ++ (from_le (take 2 (drop (pairs i) bs)) ∷ part_list (drop (pairs (suc i)) bs))
unfolding part_list from_le
pair_inside i [] h = absurd (not-suc-le-zero h)
pair_inside i (x ∷ []) h = absurd (omega arith)
pair_inside zero (x ∷ (y ∷ bs)) h = ap (λ (n : ℕ). n ∷ part_list bs) (omega arith)
pair_inside (suc i) (x ∷ (y ∷ bs)) h = ap (λ (l : List ℕ). (x + 256 * y) ∷ l) (pair_inside i bs (omega arith))

rest-pair : (i : ℕ) (bs : List ℕ) → pairs (suc i) ≤ length bs
    → (x : ℕ) × (y : ℕ) × (drop (pairs i) bs ≡ x ∷ (y ∷ drop (pairs (suc i)) bs)) × (from_le (take 2 (drop (pairs i) bs)) ≡ x + 256 * y)
unfolding from_le
rest-pair i [] h = absurd (not-suc-le-zero h)
rest-pair i (x ∷ []) h = absurd (omega arith)
rest-pair zero (x ∷ (y ∷ bs)) h = (x, y, refl, omega arith)
rest-pair (suc i) (x ∷ (y ∷ bs)) h = rest-pair i bs (omega arith)

all-pairs : (i : ℕ) (bs : List ℕ) → length bs ≡ pairs i → (take (pairs i) bs ≡ bs) × (length (part_list bs) ≡ i)
unfolding part_list
all-pairs zero [] h = (refl, refl)
all-pairs zero (x ∷ bs) h = absurd (omega arith)
all-pairs (suc i) [] h = absurd (omega arith)
all-pairs (suc i) (x ∷ []) h = absurd (omega arith)
all-pairs (suc i) (x ∷ (y ∷ bs)) h =
    let r = all-pairs i bs (omega arith) in
    (ap (λ (l : List ℕ). x ∷ (y ∷ l)) r.0, ap suc r.1)

module _ (bs : List ℕ) (i : ℕ) (inside : 2 * i + 2 ≤ length bs) where
  -- the numbers up to and with that at i
  pub next-number : first_numbers bs (i + 1) ≡ first_numbers bs i ++ (number_at bs i ∷ [])
  next-number =
      let here = pairs-twice i in
      let more : pairs (suc i) ≡ 2 * (i + 1) = omega (arith, here) in
      let step = next-pair i bs (omega (arith, here)) in
      sym (ap (λ (n : ℕ). part_list (take n bs)) more) ∙ step ∙ ap (λ (n : ℕ). part_list (take n bs) ++ (from_le (take 2 (drop n bs)) ∷ [])) here

  -- that at i among them all
  pub number-inside : (rest : List ℕ) × (part_list bs ≡ first_numbers bs i ++ (number_at bs i ∷ rest))
  number-inside =
      let here = pairs-twice i in
      let rest = part_list (drop (pairs (suc i)) bs) in
      (rest, pair_inside i bs (omega (arith, here)) ∙ ap (λ (n : ℕ). part_list (take n bs) ++ (from_le (take 2 (drop n bs)) ∷ rest)) here)

  -- the bytes of that at i, and those after it
  pub rest-bytes : (x : ℕ) × (y : ℕ) × (drop (2 * i) bs ≡ x ∷ (y ∷ drop (2 * (i + 1)) bs)) × (number_at bs i ≡ x + 256 * y)
  rest-bytes =
      let here = pairs-twice i in
      let more : pairs (suc i) ≡ 2 * (i + 1) = omega (arith, here) in
      let k = rest-pair i bs (omega (arith, here)) in (
        k.0,
        k.1,
        sym (ap (λ (n : ℕ). drop n bs) here) ∙ k.2 ∙ ap (λ (n : ℕ). k.0 ∷ (k.1 ∷ drop n bs)) more,
        ap (λ (n : ℕ). from_le (take 2 (drop n bs))) (sym here) ∙ k.3,
      )

  -- the search for a number, one number on
  member-next : (n : ℕ) → member n (first_numbers bs (i + 1)) ≡ (member n (first_numbers bs i) || eqb n (number_at bs i))
  member-next n = ap (member n) next-number ∙ member-snoc n (number_at bs i) (first_numbers bs i)

  pub member-here : (n : ℕ) → number_at bs i ≡ n → true ≡ member n (first_numbers bs (i + 1))
  member-here n e = sym (member-next n ∙ rw (eq-eqb n (number_at bs i) (sym e)) (or-true (member n (first_numbers bs i))))

  pub member-elsewhere : (n : ℕ) (b : Bool) → b ≡ member n (first_numbers bs i) → (number_at bs i ≡ n → ⊥) → b ≡ member n (first_numbers bs (i + 1))
  member-elsewhere n b is d = is ∙ sym (member-next n ∙ rw (ne_eqb n (number_at bs i) (λ e. d (sym e))) (or-false (member n (first_numbers bs i))))

pub no_number : (bs : List ℕ) → first_numbers bs 0 ≡ []
unfolding part_list
no_number bs = refl

-- no odd byte: the numbers are all read
pub all-numbers : (bs : List ℕ) (i : ℕ) → length bs ≡ 2 * i → (first_numbers bs i ≡ part_list bs) × (length (part_list bs) ≡ i)
all-numbers bs i e =
    let here = pairs-twice i in
    let r = all-pairs i bs (e ∙ sym here) in
    (ap part_list (sym (ap (λ (n : ℕ). take n bs) here) ∙ r.0), r.1)
