-- What is kept of pairs, pair by pair. Assumes nothing.
use Prim.Native.Nat.{ℕ, ◌+◌, ◌≤◌, ◌<◌}
use mathlib.Core.Path.{◌≡◌, refl, sym, ap, ap₂, ◌∙◌}
use mathlib.Core.Bool.{Bool, true, false, not, ◌&&◌, ◌||◌, false≢true}
use mathlib.Core.List.{List, [], ◌∷◌, ◌++◌}
use native.Mathlib.Omega.{arith}
use borrow.Author.Tests.{lt-leb, le-leb}
use lib.ListN.{length, drop, length-append}
use lib.Seq.{drop-drop}
use Rattle.base_order.specs.Order.{same}
use Rattle.base_order.proofs.OrderLaws.{same_false}
use Rattle.machine.specs.Names.{Bytes}
use Rattle.machine.specs.Pairs.{Pair, every, pair_ok, pairs_most, pairs_ok, system_key, kept, has_key, distinct_keys, pairs_held, pair_list, front_size, front_key, front_pair}
use Rattle.machine.proofs.MapKeep.{keep_append}
use Rattle.pairs.proofs.Passing.{from, from_is}

kept_cons : (e : Pair) (l : List Pair) → kept (e ∷ l) ≡ kept (e ∷ []) ++ kept l
kept_cons e l = keep_append (λ k v. not (system_key k)) (e ∷ []) l

pub count-cons : (e : Pair) (l : List Pair) → length (kept (e ∷ l)) ≡ length (kept (e ∷ [])) + length (kept l)
count-cons e l = ap length (kept_cons e l) ∙ length-append (kept (e ∷ [])) (kept l)

held-append : (m n : List Pair) → pairs_held (m ++ n) ≡ pairs_held m + pairs_held n
held-append [] n = omega arith
held-append (e ∷ m) n = omega (arith, held-append m n)

pub held_cons : (e : Pair) (l : List Pair) → pairs_held (kept (e ∷ l)) ≡ pairs_held (kept (e ∷ [])) + pairs_held (kept l)
held_cons e l = ap pairs_held (kept_cons e l) ∙ held-append (kept (e ∷ [])) (kept l)

-- a key that is kept is looked for among those that are kept
has_kept : (k : Bytes) (l : List Pair) → system_key k ≡ false → has_key k (kept l) ≡ has_key k l
has_kept k [] s = refl
has_kept k (e ∷ l) s = go (has_kept k l s) (system_key e.0) refl
  where
    go : has_key k (kept l) ≡ has_key k l → (b : Bool) → system_key e.0 ≡ b → has_key k (kept (e ∷ l)) ≡ has_key k (e ∷ l)
    go r true q = let d : same k e.0 ≡ false = same_false k e.0 (λ w. false≢true (sym s ∙ ap system_key w ∙ q)) in rw (q, d) r
    go r false q = rw q (ap (λ (b : Bool). same k e.0 || b) r)

-- a key is looked for: b says whether it is the one at `at`
module _ (bs : Bytes) (at : ℕ) (k found : Bytes) (b : Bool) (e : found ≡ front_key (from bs at)) (q : b ≡ same k found) (r : ℕ) where
  here : same k (front_key (drop at bs)) ≡ b
  here = sym (q ∙ ap (same k) (e ∙ ap front_key (from_is bs at)))

  pub has-yes : b ≡ true → true ≡ has_key k (front_pair (drop at bs) ∷ pair_list (drop r bs))
  has-yes y = rw (here ∙ y)

  pub has_no : b ≡ false → has_key k (front_pair (drop at bs) ∷ pair_list (drop r bs)) ≡ has_key k (pair_list (drop r bs))
  has_no n = rw (here ∙ n)

-- the key is kept and comes again
abbrev pub again : Bytes → List Pair → Bool
again k l = not (system_key k) && has_key k l

distinct_cons : (e : Pair) (l : List Pair) → distinct_keys (kept (e ∷ l)) ≡ (not (again e.0 l) && distinct_keys (kept l))
distinct_cons e l = go (system_key e.0) refl
  where
    go : (b : Bool) → system_key e.0 ≡ b → distinct_keys (kept (e ∷ l)) ≡ (not (again e.0 l) && distinct_keys (kept l))
    go true q = rw q
    go false q = rw q (ap (λ (b : Bool). not b && distinct_keys (kept l)) (has_kept e.0 l q))

-- b says whether the first pair has a system key
module _ (bs key : Bytes) (b : Bool) (told : key ≡ front_key bs) (said : b ≡ system_key key) where
  system : system_key (front_key bs) ≡ b
  system = sym (said ∙ ap system_key told)

  pub kept-none : b ≡ true → kept (front_pair bs ∷ []) ≡ []
  kept-none y = rw (system ∙ y)

  pub kept-own : b ≡ false → kept (front_pair bs ∷ []) ≡ front_pair bs ∷ []
  kept-own n = rw (system ∙ n)

  pub again-system : (l : List Pair) → b ≡ true → false ≡ again (front_key bs) l
  again-system l y = rw (system ∙ y)

  pub again-own : (rest l : Bytes) → rest ≡ l → b ≡ false → (r : Bool) → r ≡ has_key key (pair_list rest) → r ≡ again (front_key bs) (pair_list l)
  again-own rest l e n r q = rw (system ∙ n) (q ∙ ap₂ (λ (x y : Bytes). has_key x (pair_list y)) told e)

-- what the answer for the bytes from `at` on decides
module _ (bs : Bytes) (at r : ℕ) (is : r ≡ at + front_size (drop at bs)) where
  abbrev pub again_at : Bool
  again_at = again (front_key (from bs at)) (pair_list (drop (front_size (from bs at)) (from bs at)))

  there : again_at ≡ again (front_key (drop at bs)) (pair_list (drop r bs))
  there =
      ap (λ (l : Bytes). again (front_key l) (pair_list (drop (front_size l) l))) (from_is bs at)
      ∙ ap (λ (l : Bytes). again (front_key (drop at bs)) (pair_list l)) (drop-drop (front_size (drop at bs)) at bs ∙ ap (λ (n : ℕ). drop n bs) (sym is))

  decides : (b : Bool) → again_at ≡ b → distinct_keys (kept (front_pair (drop at bs) ∷ pair_list (drop r bs))) ≡ (not b && distinct_keys (kept (pair_list (drop r bs))))
  decides b e =
      distinct_cons (front_pair (drop at bs)) (pair_list (drop r bs))
      ∙ ap (λ (x : Bool). not x && distinct_keys (kept (pair_list (drop r bs)))) (sym there ∙ e)

  pub again-yes : again_at ≡ true → false ≡ distinct_keys (kept (front_pair (drop at bs) ∷ pair_list (drop r bs)))
  again-yes e = sym (decides true e)

  pub again-no : again_at ≡ false → distinct_keys (kept (front_pair (drop at bs) ∷ pair_list (drop r bs))) ≡ distinct_keys (kept (pair_list (drop r bs)))
  again-no e = decides false e

-- the judge's tests, in their order
module _ (l : List Pair) where
  pub judge-form : every pair_ok l ≡ false → false ≡ pairs_ok l
  unfolding pairs_ok
  judge-form e = rw e

  pub judge-many : every pair_ok l ≡ true → pairs_most < length (kept l) → false ≡ pairs_ok l
  unfolding pairs_ok
  judge-many e h = rw (e, lt-leb (length (kept l)) pairs_most h)

  pub judge-keys : every pair_ok l ≡ true → length (kept l) ≤ pairs_most → (r : Bool) → r ≡ distinct_keys (kept l) → r ≡ pairs_ok l
  unfolding pairs_ok
  judge-keys e h r d = rw (e, le-leb (length (kept l)) pairs_most h) d
