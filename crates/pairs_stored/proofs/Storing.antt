-- The test of pairs in memory, pair by pair and in the order of the code's tests. Assumes nothing.
use Prim.Native.Nat.{ℕ, suc, ◌+◌, ◌-◌, ◌*◌, ◌≤◌, ◌<◌}
use mathlib.Core.Path.{◌≡◌, refl, sym, ap, ◌∙◌}
use mathlib.Core.Bool.{Bool, true, false, ◌&&◌}
use mathlib.Core.List.{[], ◌∷◌}
use native.Mathlib.Numerals.{add-one}
use native.Mathlib.Omega.{arith}
use borrow.Author.Tests.{ne_eqb, eq-eqb, le-leb, lt-leb}
use lib.Dec.{eqb}
use lib.ListN.{length, take, drop, get_or, length-drop, drop_of_length-le}
use lib.Seq.{drop-cons, drop-drop}
use Rattle.base_order.specs.Order.{is_below}
use Rattle.machine.specs.Names.{Bytes}
use Rattle.machine.specs.Pairs.{bad_pair, key_ok, value_ok, pair_ok, system_key, pairs_most, kept_after, kept_from, kept_ok}
use Rattle.pairs.proofs.Passing.{bad-is-bad}
use Rattle.pairs_stored.specs.Stored.{sum_of, pairs_at, stored_ok}

-- the sum of lengths, length by length
module _ (ls : Bytes) (i : ℕ) where
  pub sum-here : i < length ls → sum_of (drop i ls) ≡ get_or ls i 0 + sum_of (drop (i + 1) ls)
  sum-here h = rw (add-one, drop-cons ls i 0)

  pub sum-all : length ls ≤ i → sum_of (drop i ls) ≡ 0
  sum-all h = rw (drop_of_length-le ls h)

-- the pairs in memory, pair by pair
pub no_lengths : (ls bs : Bytes) → length ls ≤ 0 → pairs_at ls bs ≡ []
unfolding pairs_at
no_lengths [] bs h = refl
no_lengths (x ∷ ls) bs h = absurd (omega arith)

odd-length : (ls bs : Bytes) → length ls ≡ 1 → pairs_at ls bs ≡ bad_pair ∷ []
unfolding pairs_at
odd-length [] bs h = absurd (omega arith)
odd-length (x ∷ []) bs h = refl
odd-length (x ∷ (y ∷ ls)) bs h = absurd (omega arith)

two-lengths : (x y : ℕ) (ls bs : Bytes) → pairs_at (x ∷ (y ∷ ls)) bs ≡ (take x bs, take y (drop x bs)) ∷ pairs_at ls (drop (x + y) bs)
unfolding pairs_at
two-lengths x y ls bs = refl

-- r is where the key or value ends that begins at `at` and has the length at i
abbrev pub Ends : (ls : Bytes) (i at r : ℕ) → Type 0
Ends ls i at r = (r ≡ at + get_or ls i 0) × (r ≤ at + 255)

-- the two lengths at i, whose key stands at `at`, whose value stands at k, and which end at v
module _ (ls bs : Bytes) (i at k v : ℕ) (more : i + 2 ≤ length ls) (key : Ends ls i at k) (value : Ends ls (i + 1) k v) where
  lengths-here : drop i ls ≡ get_or ls i 0 ∷ (get_or ls (i + 1) 0 ∷ drop (i + 2) ls)
  lengths-here =
      let n : suc (i + 1) ≡ i + 2 = omega arith in
      drop-cons ls i 0 (omega arith)
      ∙ ap (λ (l : Bytes). get_or ls i 0 ∷ l) (ap (λ (n : ℕ). drop n ls) (sym (add-one i)) ∙ drop-cons ls (i + 1) 0 (omega arith))
      ∙ ap (λ (n : ℕ). get_or ls i 0 ∷ (get_or ls (i + 1) 0 ∷ drop n ls)) n

  pub ends-here : at + sum_of (drop i ls) ≡ length bs → v + sum_of (drop (i + 2) ls) ≡ length bs
  ends-here e = omega (arith, ap sum_of lengths-here, key.0, value.0)

  pub stored_here : pairs_at (drop i ls) (drop at bs) ≡ (take (k - at) (drop at bs), take (v - k) (drop k bs)) ∷ pairs_at (drop (i + 2) ls) (drop v bs)
  stored_here =
      let x = get_or ls i 0 in
      let y = get_or ls (i + 1) 0 in
      let p : k - at ≡ x = omega (arith, key.0) in
      let q : v - k ≡ y = omega (arith, value.0) in
      let f : drop x (drop at bs) ≡ drop k bs = drop-drop x at bs ∙ ap (λ (n : ℕ). drop n bs) (sym key.0) in
      let s : at + (x + y) ≡ v = omega (arith, key.0, value.0) in
      let g : drop (x + y) (drop at bs) ≡ drop v bs = drop-drop (x + y) at bs ∙ ap (λ (n : ℕ). drop n bs) s in
      ap (λ (l : Bytes). pairs_at l (drop at bs)) lengths-here
      ∙ two-lengths x y (drop (i + 2) ls) (drop at bs)
      ∙ rw (p, q, f, g)

-- the first i lengths passed, whose pairs end at `at`; the last key stands from `from` to `to`
pub record Kept (ls bs : Bytes) (from to at i : ℕ) : Type 0 where
  pub within : i ≤ length ls
  pub order : from ≤ to
  pub inside : to ≤ length bs
  pub few : at ≤ 255 * i
  pub sum : at + sum_of (drop i ls) ≡ length bs
  pub same : kept_from (take (to - from) (drop from bs)) (pairs_at (drop i ls) (drop at bs)) ≡ kept_from [] (pairs_at ls bs)

pub kept-none : (ls bs : Bytes) → sum_of ls ≡ length bs → Kept ls bs 0 0 0 0
kept-none ls bs e = record { within = omega arith; order = omega arith; inside = omega arith; few = omega arith; sum = omega arith; same = refl }

module _ (ls bs : Bytes) (from to at i : ℕ) (w : Kept ls bs from to at i) where
  abbrev last : Bytes
  last = take (to - from) (drop from bs)

  pub kept-odd : i < length ls → length ls < i + 2 → false ≡ kept_from [] (pairs_at ls bs)
  unfolding kept_after
  kept-odd h l =
      let e = odd-length (drop i ls) (drop at bs) (omega (arith, length-drop i ls)) in
      sym (ap (kept_from last) e ∙ rw bad-is-bad) ∙ w.same

  pub kept-all : length ls ≤ i → true ≡ kept_from [] (pairs_at ls bs)
  kept-all h = sym (ap (kept_from last) (no_lengths (drop i ls) (drop at bs) (omega (arith, length-drop i ls)))) ∙ w.same

  module _ (k v : ℕ) (more : i + 2 ≤ length ls) (key : Ends ls i at k) (value : Ends ls (i + 1) k v) where
    pub pair_inside : v ≤ length bs
    pair_inside = omega (arith, ends-here ls bs i at k v more key value w.sum)

    -- what `kept_after` is asked
    abbrev pub test : Bool
    test = kept_after last (take (k - at) (drop at bs), take (v - k) (drop k bs))

    here : test && kept_from (take (k - at) (drop at bs)) (pairs_at (drop (i + 2) ls) (drop v bs)) ≡ kept_from [] (pairs_at ls bs)
    here = sym (ap (kept_from last) (stored_here ls bs i at k v more key value)) ∙ w.same

    pub kept-no : test ≡ false → false ≡ kept_from [] (pairs_at ls bs)
    kept-no e = sym (rw e) ∙ here

    pub kept_next : test ≡ true → Kept ls bs at k v (i + 2)
    kept_next e =
        record {
          within = more;
          order = omega (arith, key.0);
          inside = omega (arith, pair_inside, value.0);
          few = omega (arith, w.few, key.1, value.1);
          sum = ends-here ls bs i at k v more key value w.sum;
          same = sym (rw e) ∙ here;
        }

-- the rule of a kept pair
module _ (last key value : Bytes) where
  pub after-key : key_ok key ≡ false → false ≡ kept_after last (key, value)
  unfolding kept_after pair_ok
  after-key a = rw a

  pub after-value : key_ok key ≡ true → value_ok value ≡ false → false ≡ kept_after last (key, value)
  unfolding kept_after pair_ok
  after-value a b = rw (a, b)

  pub after-system : key_ok key ≡ true → value_ok value ≡ true → system_key key ≡ true → false ≡ kept_after last (key, value)
  unfolding kept_after pair_ok
  after-system a b s = rw (a, b, s)

  pub after-below : (r : Bool) → key_ok key ≡ true → value_ok value ≡ true → system_key key ≡ false → r ≡ is_below last key → r ≡ kept_after last (key, value)
  unfolding kept_after pair_ok
  after-below r a b s e = rw (a, b, s) e

-- the test of memory
lengths-most : (ls bs : Bytes) → length ls ≤ 2 * length (pairs_at ls bs)
unfolding pairs_at
lengths-most [] bs = omega arith
lengths-most (x ∷ []) bs = omega arith
lengths-most (x ∷ (y ∷ ls)) bs = omega (arith, lengths-most ls (drop (x + y) bs))

lengths-least : (ls bs : Bytes) → 2 * length (pairs_at ls bs) ≤ length ls + 1
unfolding pairs_at
lengths-least [] bs = omega arith
lengths-least (x ∷ []) bs = omega arith
lengths-least (x ∷ (y ∷ ls)) bs = omega (arith, lengths-least ls (drop (x + y) bs))

module _ (ls bs : Bytes) where
  pub test-many : 2 * pairs_most < length ls → false ≡ stored_ok ls bs
  unfolding stored_ok kept_ok
  test-many h = rw (lt-leb (length (pairs_at ls bs)) pairs_most (omega (arith, lengths-most ls bs))) (go (eqb (sum_of ls) (length bs)))
    where
      go : (b : Bool) → false ≡ b && false
      go true = refl
      go false = refl

  pub test_sum : (sum_of ls ≡ length bs → ⊥) → false ≡ stored_ok ls bs
  unfolding stored_ok
  test_sum d = rw (ne_eqb (sum_of ls) (length bs) d)

  pub test-all : (r : Bool) → length ls ≤ 2 * pairs_most → sum_of ls ≡ length bs → r ≡ kept_from [] (pairs_at ls bs) → r ≡ stored_ok ls bs
  unfolding stored_ok kept_ok
  test-all r h e k = rw (eq-eqb (sum_of ls) (length bs) e, le-leb (length (pairs_at ls bs)) pairs_most (omega (arith, lengths-least ls bs))) k
