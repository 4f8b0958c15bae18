-- COMMIT's `take_listed`: what it finds, its length and its bytes, and that it is the test `list_fits`. Each law is by induction over the list, with the
-- first number's part removed.
-- Assumes nothing.
use Prim.Native.Nat.{ℕ, ◌+◌}
use mathlib.Core.Path.{◌≡◌, refl, sym, ap, ◌∙◌}
use mathlib.Core.Bool.{Bool, true, false, ◌&&◌, ◌||◌, not, cond, false≢true}
use mathlib.Core.List.{List, [], ◌∷◌, ◌++◌}
use mathlib.Core.Option.{Option, none, some}
use native.Mathlib.Omega.{arith}
use native.Mathlib.Decide.{ℕ_discrete}
use borrow.Author.Tests.{eq-eqb, ne_eqb, eqb-true, eqb-false, not-true}
use lib.Dec.{eqb}
use lib.ListN.{length, length-append}
use Rattle.base_order.proofs.OrderLaws.{numbers}
use Rattle.machine.specs.Map.{is_some, Map, by_number, lookup, remove, total, Ascending}
use Rattle.machine.specs.State.{Part, part_length}
use Rattle.machine.specs.Calls.{Refusal, Outcome, ◌else◌then◌, given}
use Rattle.machine.specs.Steps.{take_listed, contents}
use Rattle.machine.specs.ListFits.{member, distinct, all_found, list_fits, listed_parts}
use Rattle.machine.proofs.Options.{both, none-some, also-some, mapped-some}
use Rattle.machine.proofs.MapLaws.{lookup-remove, lookup-remove-other, ascending-remove}
use Rattle.machine.proofs.MapSums.{length-total, total-remove, length-remove}

-- the first number's part, and the rest of the list over what remains
pub fit-cons : (n : ℕ) (ns : List ℕ) (m : Map ℕ Part) (xs : List Part) → take_listed (n ∷ ns) m ≡ some xs →
    (x : Part) × (ys : List Part) × (lookup by_number n m ≡ some x) × (take_listed ns (remove by_number n m) ≡ some ys) × (x ∷ ys ≡ xs)
fit-cons n ns m xs h =
    let a = also-some (lookup by_number n m) _ xs h in
    let b = mapped-some _ (take_listed ns (remove by_number n m)) xs a.2 in
    (a.0, b.0, a.1, b.1, b.2)

-- sums over the fit parts are sums over the upload's
sum : (Part → ℕ) → List Part → ℕ
sum f [] = 0
sum f (x ∷ xs) = f x + sum f xs

fit-total : (f : Part → ℕ) (ns : List ℕ) (m : Map ℕ Part) (xs : List Part) → take_listed ns m ≡ some xs → sum f xs ≡ total f m
unfolding sum
fit-total f [] [] xs h = let e : [] ≡ xs = cc in rw (← e)
fit-total f [] (e ∷ m) xs h = absurd (none-some h)
fit-total f (n ∷ ns) m xs h =
    let c = fit-cons n ns m xs h in
    let t = rw c.2 at (total-remove numbers f n m) in
    rw (← c.4) (omega (arith, fit-total f ns (remove by_number n m) c.1 c.3, t))

length-sum : (xs : List Part) → sum (λ (x : Part). 1) xs ≡ length xs
unfolding sum
length-sum [] = refl
length-sum (x ∷ xs) = omega (arith, length-sum xs)

contents-sum : (xs : List Part) → sum part_length xs ≡ length (contents xs)
unfolding sum
contents-sum [] = refl
contents-sum (x ∷ xs) = omega (arith, contents-sum xs, length-append x.content (contents xs))

pub fit_length : (ns : List ℕ) (m : Map ℕ Part) (xs : List Part) → take_listed ns m ≡ some xs → length xs ≡ length m
fit_length ns m xs h = sym (length-sum xs) ∙ fit-total (λ (x : Part). 1) ns m xs h ∙ length-total m

pub fit-contents : (ns : List ℕ) (m : Map ℕ Part) (xs : List Part) → take_listed ns m ≡ some xs → length (contents xs) ≡ total part_length m
fit-contents ns m xs h = sym (contents-sum xs) ∙ fit-total part_length ns m xs h

-- a key that is found in a map without k is found in the map, and is not k
pub lookup-kept : {X : Type 0} (j k : ℕ) (m : Map ℕ X) (x : X) → Ascending by_number m → lookup by_number j (remove by_number k m) ≡ some x → lookup by_number j m ≡ some x
lookup-kept {X} j k m x a h = go (ℕ_discrete j k)
  where
    go : Dec (j ≡ k) → lookup by_number j m ≡ some x
    go (yes e) = let n = rw e at h in absurd (none-some (sym (lookup-remove numbers k m a) ∙ n))
    go (no d) = sym (lookup-remove-other numbers j k m a d) ∙ h

found : {X : Type 0} (o : Option X) → is_some o ≡ true → (x : X) × (o ≡ some x)
found none h = absurd (false≢true h)
found (some x) h = (x, refl)

-- a list that does not name k
apart : (k n : ℕ) (ns : List ℕ) → member k (n ∷ ns) ≡ false → (n ≡ k → ⊥) × (member k ns ≡ false)
apart k n ns h = go (eqb k n) refl h
  where
    go : (t : Bool) → eqb k n ≡ t → (t || member k ns) ≡ false → (n ≡ k → ⊥) × (member k ns ≡ false)
    go true q e = absurd (false≢true (sym e))
    go false q e = (λ p. eqb-false k n q (sym p), e)

module _ {X : Type 0} where
  found-kept : (k : ℕ) (m : Map ℕ X) (ns : List ℕ) → Ascending by_number m → all_found (remove by_number k m) ns ≡ true → all_found m ns ≡ true
  found-kept k m [] a h = refl
  found-kept k m (n ∷ ns) a h =
      let b = both _ _ h in
      let f = found (lookup by_number n (remove by_number k m)) b.0 in
      rw (lookup-kept n k m f.0 a f.1) (found-kept k m ns a b.1)

  -- a list whose numbers are all found does not name what is not there
  found-absent : (k : ℕ) (m : Map ℕ X) (ns : List ℕ) → lookup by_number k m ≡ none → all_found m ns ≡ true → member k ns ≡ false
  found-absent k m [] h a = refl
  found-absent k m (n ∷ ns) h a = let b = both _ _ a in go (found (lookup by_number n m) b.0) (found-absent k m ns h b.1) (eqb k n) refl
    where
      go : (x : X) × (lookup by_number n m ≡ some x) → member k ns ≡ false → (t : Bool) → eqb k n ≡ t → (t || member k ns) ≡ false
      go f i true q = absurd (none-some (sym h ∙ ap (λ (j : ℕ). lookup by_number j m) (eqb-true k n q) ∙ f.1))
      go f i false q = i

  -- numbers other than k are found with and without k
  found-without : (k : ℕ) (m : Map ℕ X) (ns : List ℕ) → Ascending by_number m → member k ns ≡ false → all_found (remove by_number k m) ns ≡ all_found m ns
  found-without k m [] a h = refl
  found-without k m (n ∷ ns) a h =
      let d = apart k n ns h in
      rw (lookup-remove-other numbers n k m a d.0, found-without k m ns a d.1)

listed-without : (k : ℕ) (m : Map ℕ Part) (ns : List ℕ) → Ascending by_number m → member k ns ≡ false → listed_parts (remove by_number k m) ns ≡ listed_parts m ns
listed-without k m [] a h = refl
listed-without k m (n ∷ ns) a h =
    let d = apart k n ns h in
    rw (lookup-remove-other numbers n k m a d.0, listed-without k m ns a d.1)

record Fitting (ns : List ℕ) (m : Map ℕ Part) : Type 0 where
  many : length ns ≡ length m
  all : all_found m ns ≡ true
  once : distinct ns ≡ true

fitting : (ns : List ℕ) (m : Map ℕ Part) → list_fits ns m ≡ true → Fitting ns m
unfolding list_fits
fitting ns m h = let a = both _ _ h in let b = both _ _ a.0 in record { many = eqb-true _ _ b.0; all = b.1; once = a.1 }

fitting-fits : (ns : List ℕ) (m : Map ℕ Part) → Fitting ns m → list_fits ns m ≡ true
unfolding list_fits
fitting-fits ns m f = rw (eq-eqb _ _ f.many, f.all, f.once)

-- where the list fits, `take_listed` gives each listed number's part of the upload
pub fits-fit : (ns : List ℕ) (m : Map ℕ Part) → Ascending by_number m → list_fits ns m ≡ true → take_listed ns m ≡ some (listed_parts m ns)
fits-fit ns m a h = go ns m a (fitting ns m h)
  where
    go : (ns : List ℕ) (m : Map ℕ Part) → Ascending by_number m → Fitting ns m → take_listed ns m ≡ some (listed_parts m ns)
    go [] [] a f = refl
    go [] (e ∷ m) a f = absurd (let l = f.many in omega arith)
    go (n ∷ ns) m a f =
        let b = both _ _ f.all in
        let d = both _ _ f.once in
        let x = found (lookup by_number n m) b.0 in
        let o = not-true _ d.0 in
        let l : length ns ≡ length (remove by_number n m) = omega (arith, f.many, rw x.1 at (length-remove numbers n m)) in
        let r : take_listed ns (remove by_number n m) ≡ some (listed_parts m ns) =
        go ns (remove by_number n m) (ascending-remove numbers n m a) (record { many = l; all = found-without n m ns a o ∙ b.1; once = d.1 })
        ∙ ap some (listed-without n m ns a o) in
        rw (x.1, r)

-- what `take_listed` takes, fits
pub fit-fits : (ns : List ℕ) (m : Map ℕ Part) (xs : List Part) → Ascending by_number m → take_listed ns m ≡ some xs → list_fits ns m ≡ true
fit-fits ns m xs a h = fitting-fits ns m (go ns m xs a h)
  where
    go : (ns : List ℕ) (m : Map ℕ Part) (xs : List Part) → Ascending by_number m → take_listed ns m ≡ some xs → Fitting ns m
    go [] [] xs a h = record { many = refl; all = refl; once = refl }
    go [] (e ∷ m) xs a h = absurd (none-some h)
    go (n ∷ ns) m xs a h =
        let c = fit-cons n ns m xs h in
        let f = go ns (remove by_number n m) c.1 (ascending-remove numbers n m a) c.3 in
        record {
          many = omega (arith, f.many, rw c.2 at (length-remove numbers n m));
          all = rw c.2 (found-kept n m ns a f.all);
          once = rw (found-absent n (remove by_number n m) ns (lookup-remove numbers n m a) f.all) f.once;
        }

-- the parts that `take_listed` gives, by their numbers
pub fit-listed : (ns : List ℕ) (m : Map ℕ Part) (xs : List Part) → Ascending by_number m → take_listed ns m ≡ some xs → (all_found m ns ≡ true) × (xs ≡ listed_parts m ns)
fit-listed ns m xs a h =
    let f = fit-fits ns m xs a h in
    let e : some xs ≡ some (listed_parts m ns) = sym h ∙ fits-fit ns m a f in
    ((fitting ns m f).all, cc)

-- a list that fits names no number twice, and each part
pub fit-once : (ns : List ℕ) (m : Map ℕ Part) (xs : List Part) → Ascending by_number m → take_listed ns m ≡ some xs → distinct ns ≡ true
fit-once ns m xs a h = (fitting ns m (fit-fits ns m xs a h)).once

pub fit_all : (ns : List ℕ) (m : Map ℕ Part) (xs : List Part) → Ascending by_number m → take_listed ns m ≡ some xs → (k : ℕ) (x : Part) → lookup by_number k m ≡ some x → member k ns ≡ true
fit_all [] [] xs a h k x e = absurd (none-some e)
fit_all [] (y ∷ m) xs a h k x e = absurd (none-some h)
fit_all (n ∷ ns) m xs a h k x e =
    let c = fit-cons n ns m xs h in
    go (ℕ_discrete k n) (fit_all ns (remove by_number n m) c.1 (ascending-remove numbers n m a) c.3 k x)
  where
    go : Dec (k ≡ n) → (lookup by_number k (remove by_number n m) ≡ some x → member k ns ≡ true) → member k (n ∷ ns) ≡ true
    go (yes q) others = rw (eq-eqb k n q)
    go (no d) others = rw (ne_eqb k n d) (others (lookup-remove-other numbers k n m a d ∙ e))

-- COMMIT's list, by the test
pub fit-test : (ns : List ℕ) (m : Map ℕ Part) → Ascending by_number m → take_listed ns m ≡ cond (list_fits ns m) (some (listed_parts m ns)) none
fit-test ns m a = go (list_fits ns m) refl (take_listed ns m) refl
  where
    go : (t : Bool) → list_fits ns m ≡ t → (o : Option (List Part)) → take_listed ns m ≡ o → take_listed ns m ≡ cond t (some (listed_parts m ns)) none
    go true q o e = fits-fit ns m a q
    go false q none e = e
    go false q (some xs) e = let w = fit-fits ns m xs a e in let z : false ≡ true = cc in cc

pub given-fit : (ns : List ℕ) (m : Map ℕ Part) (n : Refusal) (k : List Part → Outcome) → Ascending by_number m →
    given (take_listed ns m) n k ≡ (list_fits ns m else n then k (listed_parts m ns))
unfolding given ◌else◌then◌
given-fit ns m n k a = rw (fit-test ns m a) (go (list_fits ns m))
  where
    go : (t : Bool) → given (cond t (some (listed_parts m ns)) none) n k ≡ (t else n then k (listed_parts m ns))
    go true = refl
    go false = refl

-- a list that grows at its end
pub member-snoc : (k n : ℕ) (ns : List ℕ) → member k (ns ++ n ∷ []) ≡ (member k ns || eqb k n)
member-snoc k n [] = go (eqb k n)
  where
    go : (t : Bool) → (t || false) ≡ t
    go true = refl
    go false = refl
member-snoc k n (j ∷ ns) = rw (member-snoc k n ns) (go (eqb k j) (member k ns) (eqb k n))
  where
    go : (a b c : Bool) → (a || (b || c)) ≡ ((a || b) || c)
    go true b c = refl
    go false b c = refl

eqb-turned : (a b : ℕ) → eqb a b ≡ eqb b a
eqb-turned a b = go (ℕ_discrete a b)
  where
    go : Dec (a ≡ b) → eqb a b ≡ eqb b a
    go (yes e) = eq-eqb a b e ∙ sym (eq-eqb b a (sym e))
    go (no d) = ne_eqb a b d ∙ sym (ne_eqb b a (λ e. d (sym e)))

pub distinct_snoc : (n : ℕ) (ns : List ℕ) → distinct (ns ++ n ∷ []) ≡ (distinct ns && not (member n ns))
distinct_snoc n [] = refl
distinct_snoc n (j ∷ ns) = rw (distinct_snoc n ns, member-snoc j n ns, eqb-turned j n) (go (member j ns) (eqb n j) (distinct ns) (member n ns))
  where
    go : (a b c d : Bool) → (not (a || b) && (c && not d)) ≡ ((not a && c) && not (b || d))
    go true b c d = refl
    go false true true d = refl
    go false true false d = refl
    go false false c d = refl

pub found-append : {X : Type 0} (m : Map ℕ X) (ns ks : List ℕ) → all_found m (ns ++ ks) ≡ (all_found m ns && all_found m ks)
found-append m [] ks = refl
found-append m (n ∷ ns) ks = rw (found-append m ns ks) (go (is_some (lookup by_number n m)) (all_found m ns) (all_found m ks))
  where
    go : (a b c : Bool) → (a && (b && c)) ≡ ((a && b) && c)
    go true b c = refl
    go false b c = refl
