-- The pairs of a request that is taken are kept as a map that an object may have: ascending, as many and as long as those that are not
-- dropped; and what holds of the pairs that an object may have.
-- Assumes nothing.
use Prim.Native.Nat.{Ordering}
use Prim.Native.Nat.{ℕ, ◌+◌, ◌*◌, ◌≤◌}
use mathlib.Core.Path.{◌≡◌, refl, sym, ap, ◌∙◌}
use mathlib.Core.Bool.{Bool, true, false, not, ◌&&◌, ◌||◌, false≢true}
use mathlib.Core.List.{List, [], ◌∷◌}
use mathlib.Core.Option.{none}
use native.Mathlib.Omega.{arith}
use borrow.Author.Tests.{le-leb, leb-true, not-true}
use lib.Dec.{leb}
use lib.ListN.{length}
use Rattle.base_order.specs.Order.{by_bytes, is_below, same}
use Rattle.base_order.proofs.OrderLaws.{cases, same_self, bytes, below-lt}
use Rattle.machine.specs.Map.{Map, lookup, insert, FirstAbove, Ascending, Every}
use Rattle.machine.specs.Names.{Bytes}
use Rattle.machine.specs.Pairs.{Pair, every, key_byte, value_byte, key_ok, value_ok, pair_ok, system_key, kept, has_key, distinct_keys, pairs_most, pairs_ok, arranged, pair_map, kept_after, kept_from, kept_ok, pairs_held, encode_pairs}
use Rattle.machine.proofs.Options.{both, none-some}
use Rattle.machine.proofs.MapLaws.{lookup-insert-other, ascending-insert, every-insert}
use Rattle.machine.proofs.PairBytes.{length-encode}

-- The rule of a pair -------------------------------------------------------------------------------------------------------

-- what it says of the lengths
module _ (e : Pair) (p : pair_ok e ≡ true) where
  form : (key_ok e.0 ≡ true) × (value_ok e.1 ≡ true)
  unfolding pair_ok
  form = both (key_ok e.0) (value_ok e.1) p

  key-lengths : (leb 1 (length e.0) ≡ true) × (leb (length e.0) 32 && every key_byte e.0 ≡ true)
  unfolding key_ok
  key-lengths = both (leb 1 (length e.0)) (leb (length e.0) 32 && every key_byte e.0) form.0

  pub key-some : 1 ≤ length e.0
  key-some = leb-true _ _ key-lengths.0

  pub key-short : length e.0 ≤ 32
  key-short = leb-true _ _ (both (leb (length e.0) 32) (every key_byte e.0) key-lengths.1).0

  pub value-short : length e.1 ≤ 64
  unfolding value_ok
  value-short = leb-true _ _ (both (leb (length e.1) 64) (every value_byte e.1) form.1).0

-- each pair of a map passes a test
abbrev pub Passes : (Pair → Bool) → Map Bytes Bytes → Type 0
Passes f m = Every (λ k v. f (k, v) ≡ true) m

-- What is kept of a request's pairs ----------------------------------------------------------------------------------------

arranged-ascending : (m : Map Bytes Bytes) (l : List Pair) → Ascending by_bytes m → Ascending by_bytes (arranged m l)
arranged-ascending m [] s = s
arranged-ascending m (e ∷ l) s = arranged-ascending (insert by_bytes e.0 e.1 m) l (ascending-insert bytes e.0 e.1 m s)

pub map-ascending : (l : List Pair) → Ascending by_bytes (pair_map l)
unfolding pair_map
map-ascending l = arranged-ascending [] (kept l) tt

arranged-passes : (f : Pair → Bool) (m : Map Bytes Bytes) (l : List Pair) → Passes f m → every f l ≡ true → Passes f (arranged m l)
arranged-passes f m [] p e = p
arranged-passes f m (x ∷ l) p e =
    let w = both (f x) (every f l) e in
    arranged-passes f (insert by_bytes x.0 x.1 m) l (every-insert bytes (λ k v. f (k, v) ≡ true) x.0 x.1 m w.0 p) w.1

kept-passes : (f : Pair → Bool) (l : List Pair) → every f l ≡ true → every f (kept l) ≡ true
kept-passes f [] e = refl
kept-passes f (x ∷ l) e = let w = both (f x) (every f l) e in go w.0 (kept-passes f l w.1) (system_key x.0) refl
  where
    go : f x ≡ true → every f (kept l) ≡ true → (b : Bool) → system_key x.0 ≡ b → every f (kept (x ∷ l)) ≡ true
    go h r true q = rw q r
    go h r false q = rw (q, h) r

pub map-passes : (f : Pair → Bool) (l : List Pair) → every f l ≡ true → Passes f (pair_map l)
unfolding pair_map
map-passes f l e = arranged-passes f [] (kept l) tt (kept-passes f l e)

-- the empty key is below every key
below_key : (k : Bytes) → 1 ≤ length k → by_bytes [] k ≡ Ordering.lt
below_key [] h = absurd (omega arith)
below_key (x ∷ k) h = refl

pub map-above : (m : Map Bytes Bytes) → Passes pair_ok m → FirstAbove by_bytes [] m
map-above [] p = tt
map-above (e ∷ m) p = below_key e.0 (key-some e p.0)

-- none of the list's keys is in the map
Free : Map Bytes Bytes → List Pair → Type 0
Free m [] = Unit {0}
Free m (e ∷ l) = (lookup by_bytes e.0 m ≡ none) × Free m l

free-none : (l : List Pair) → Free [] l
unfolding Free
free-none [] = tt
free-none (e ∷ l) = (refl, free-none l)

neither : (a b : Bool) → a || b ≡ false → (a ≡ false) × (b ≡ false)
neither true b e = absurd (false≢true (sym e))
neither false b e = (refl, e)

apart : (j k : Bytes) → same k j ≡ false → j ≡ k → ⊥
apart j k s e = false≢true (sym s ∙ ap (same k) e ∙ same_self k)

free-insert : (k v : Bytes) (m : Map Bytes Bytes) (l : List Pair) → Free m l → has_key k l ≡ false → Free (insert by_bytes k v m) l
unfolding Free
free-insert k v m [] f h = tt
free-insert k v m (e ∷ l) f h =
    let w = neither (same k e.0) (has_key k l) h in
    (lookup-insert-other bytes e.0 k v m (apart e.0 k w.0) ∙ f.0, free-insert k v m l f.1 w.1)

-- a number that is summed over the pairs
module _ (f : List Pair → ℕ) (g : Pair → ℕ) (cons : (e : Pair) (l : List Pair) → f (e ∷ l) ≡ g e + f l) where
  sum-insert : (k v : Bytes) (m : Map Bytes Bytes) → lookup by_bytes k m ≡ none → f (insert by_bytes k v m) ≡ g (k, v) + f m
  sum-insert k v [] h = cons (k, v) []
  sum-insert k v (e ∷ m) h =
      cases (by_bytes k e.0)
      (λ q. simp q (cons (k, v) (e ∷ m)))
      (λ q. absurd (none-some (sym (simp q at h))))
      (λ q. simp q (omega (arith, cons e (insert by_bytes k v m), cons e m, sum-insert k v m (simp q at h))))

  sum-arranged : (m : Map Bytes Bytes) (l : List Pair) → Free m l → distinct_keys l ≡ true → f (arranged m l) + f [] ≡ f m + f l
  unfolding Free
  sum-arranged m [] r d = refl
  sum-arranged m (e ∷ l) r d =
      let w = both (not (has_key e.0 l)) (distinct_keys l) d in
      let i = sum-arranged (insert by_bytes e.0 e.1 m) l (free-insert e.0 e.1 m l r.1 (not-true _ w.0)) w.1 in
      omega (arith, i, cons e l, sum-insert e.0 e.1 m r.0)

-- a request's pairs that are taken
module _ (l : List Pair) (ok : pairs_ok l ≡ true) where
  tests : (every pair_ok l ≡ true) × (leb (length (kept l)) pairs_most && distinct_keys (kept l) ≡ true)
  unfolding pairs_ok
  tests = both (every pair_ok l) (leb (length (kept l)) pairs_most && distinct_keys (kept l)) ok

  counted : (leb (length (kept l)) pairs_most ≡ true) × (distinct_keys (kept l) ≡ true)
  counted = both (leb (length (kept l)) pairs_most) (distinct_keys (kept l)) tests.1

  pub formed-is : every pair_ok l ≡ true
  formed-is = tests.0

  pub count-is : length (pair_map l) ≡ length (kept l)
  unfolding pair_map
  count-is = let e = sum-arranged length (λ p. 1) (λ p t. omega arith) [] (kept l) (free-none (kept l)) counted.1 in omega arith

  pub held-is : pairs_held (pair_map l) ≡ pairs_held (kept l)
  unfolding pair_map
  held-is = let e = sum-arranged pairs_held (λ p. length p.0 + length p.1) (λ p t. refl) [] (kept l) (free-none (kept l)) counted.1 in omega arith

  pub few : length (pair_map l) ≤ pairs_most
  few = omega (arith, count-is, leb-true (length (kept l)) pairs_most counted.0)

-- The pairs of an object or an upload --------------------------------------------------------------------------------------

module _ (last : Bytes) (e : Pair) (k : kept_after last e ≡ true) where
  after-tests : (pair_ok e ≡ true) × (not (system_key e.0) && is_below last e.0 ≡ true)
  unfolding kept_after
  after-tests = both (pair_ok e) (not (system_key e.0) && is_below last e.0) k

  pub after-ok : pair_ok e ≡ true
  after-ok = after-tests.0

  pub after-below : by_bytes last e.0 ≡ Ordering.lt
  after-below = below-lt last e.0 (both (not (system_key e.0)) (is_below last e.0) after-tests.1).1

-- each keeps its rule
from-passes : (last : Bytes) (m : Map Bytes Bytes) → kept_from last m ≡ true → Passes pair_ok m
from-passes last [] e = tt
from-passes last (p ∷ m) e = let w = both (kept_after last p) (kept_from p.0 m) e in (after-ok last p w.0, from-passes p.0 m w.1)

held-most : (m : Map Bytes Bytes) → Passes pair_ok m → pairs_held m ≤ 96 * length m
held-most [] p = omega arith
held-most (e ∷ m) p = omega (arith, key-short e p.0, value-short e p.0, held-most m p.1)

module _ (m : Map Bytes Bytes) (ok : kept_ok m ≡ true) where
  kept-tests : (leb (length m) pairs_most ≡ true) × (kept_from [] m ≡ true)
  unfolding kept_ok
  kept-tests = both (leb (length m) pairs_most) (kept_from [] m) ok

  pub kept-few : length m ≤ pairs_most
  kept-few = leb-true _ _ kept-tests.0

  pub kept_from_lem : kept_from [] m ≡ true
  kept_from_lem = kept-tests.1

  pub kept-each : Passes pair_ok m
  kept-each = from-passes [] m kept_from_lem

  -- 8 pairs of 32 + 64 bytes
  pub kept-held : pairs_held m ≤ 768
  kept-held = omega (arith, held-most m kept-each, kept-few)

  -- and 16 length bytes
  pub kept-encoded : length (encode_pairs m) ≤ 784
  kept-encoded = omega (arith, length-encode m, kept-held, kept-few)

pub none_kept : kept_ok [] ≡ true
unfolding kept_ok
none_kept = refl

abbrev own_key : Pair → Bool
own_key e = not (system_key e.0)

own-kept : (l : List Pair) → every own_key (kept l) ≡ true
own-kept [] = refl
own-kept (e ∷ l) = go (own-kept l) (system_key e.0) refl
  where
    go : every own_key (kept l) ≡ true → (b : Bool) → system_key e.0 ≡ b → every own_key (kept (e ∷ l)) ≡ true
    go r true q = rw q r
    go r false q = rw (q, q) r

kept_map : (last : Bytes) (m : Map Bytes Bytes) → Ascending by_bytes m → FirstAbove by_bytes last m → Passes pair_ok m → Passes own_key m → kept_from last m ≡ true
unfolding kept_after
kept_map last [] s a p o = refl
kept_map last (e ∷ m) s a p o = rw (p.0, o.0, a) (kept_map e.0 m s.1 s.0 p.1 o.1)

-- the pairs that are taken are those that an object may have
pub taken-kept : (l : List Pair) → pairs_ok l ≡ true → kept_ok (pair_map l) ≡ true
unfolding kept_ok pair_map
taken-kept l ok =
    let p = map-passes pair_ok l (formed-is l ok) in
    let o = arranged-passes own_key [] (kept l) tt (own-kept l) in
    rw (le-leb (length (pair_map l)) pairs_most (few l ok)) (kept_map [] (pair_map l) (map-ascending l) (map-above (pair_map l) p) p o)
