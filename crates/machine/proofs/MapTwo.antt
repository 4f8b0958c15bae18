-- Finite maps: a value set or taken out at a key, and that two such changes at different keys change places.
-- Assumes nothing.
use Prim.Native.Nat.{ℕ, Ordering}
use mathlib.Core.Path.{◌≡◌, sym, ap, ◌∙◌}
use mathlib.Core.Option.{Option, none, some}
use native.Mathlib.Omega.{arith}
use Rattle.base_order.proofs.OrderLaws.{cases, Lawful}
use Rattle.machine.specs.Map.{Map, lookup, insert, remove, Ascending}
use Rattle.machine.proofs.MapLaws.{lookup-insert, lookup-insert-other, lookup-remove, lookup-remove-other, ascending-insert, ascending-remove, same_map}

-- the map with x at a key: a value, or none
module _ {K X : Type 0} (cmp : K → K → Ordering) where
  abbrev pub put : K → Option X → Map K X → Map K X
  put k none m = remove cmp k m
  put k (some v) m = insert cmp k v m

module _ {K : Type 0} {cmp : K → K → Ordering} (L : Lawful cmp) where
  equal : (i j : K) → Dec (i ≡ j)
  equal i j =
      cases (cmp i j)
      (λ q. no λ p. let n : Ordering.lt ≡ Ordering.eq = sym q ∙ ap (λ (z : K). cmp z j) p ∙ L.self j in let z : ◌≡◌ {A = ℕ} 0 1 = cc in omega arith)
      (λ q. yes (L.alike i j q))
      (λ q. no λ p. let n : Ordering.gt ≡ Ordering.eq = sym q ∙ ap (λ (z : K). cmp z j) p ∙ L.self j in let z : ◌≡◌ {A = ℕ} 0 1 = cc in omega arith)

module _ {K X : Type 0} {cmp : K → K → Ordering} (L : Lawful cmp) where
  lookup-put : (k : K) (x : Option X) (m : Map K X) → Ascending cmp m → lookup cmp k (put cmp k x m) ≡ x
  lookup-put k none m a = lookup-remove L k m a
  lookup-put k (some v) m a = lookup-insert L k v m

  pub lookup-put-other : (j k : K) (x : Option X) (m : Map K X) → Ascending cmp m → (j ≡ k → ⊥) → lookup cmp j (put cmp k x m) ≡ lookup cmp j m
  lookup-put-other j k none m a d = lookup-remove-other L j k m a d
  lookup-put-other j k (some v) m a d = lookup-insert-other L j k v m d

  ascending-put : (k : K) (x : Option X) (m : Map K X) → Ascending cmp m → Ascending cmp (put cmp k x m)
  ascending-put k none m a = ascending-remove L k m a
  ascending-put k (some v) m a = ascending-insert L k v m a

  -- insert and insert, insert and remove, remove and remove
  module _ (j k : K) (x y : Option X) (m : Map K X) (a : Ascending cmp m) (d : j ≡ k → ⊥) where
    Same : K → Type 0
    Same i = lookup cmp i (put cmp j x (put cmp k y m)) ≡ lookup cmp i (put cmp k y (put cmp j x m))

    at_j : Same j
    unfolding Same
    at_j = lookup-put j x (put cmp k y m) (ascending-put k y m a) ∙ sym (lookup-put-other j k y (put cmp j x m) (ascending-put j x m a) d ∙ lookup-put j x m a)

    at-k : Same k
    unfolding Same
    at-k = lookup-put-other k j x (put cmp k y m) (ascending-put k y m a) (λ p. d (sym p)) ∙ lookup-put k y m a ∙ sym (lookup-put k y (put cmp j x m) (ascending-put j x m a))

    elsewhere : (i : K) → (i ≡ j → ⊥) → (i ≡ k → ⊥) → Same i
    unfolding Same
    elsewhere i p q =
        lookup-put-other i j x (put cmp k y m) (ascending-put k y m a) p
        ∙ lookup-put-other i k y m a q
        ∙ sym (lookup-put-other i k y (put cmp j x m) (ascending-put j x m a) q ∙ lookup-put-other i j x m a p)

    found : (i : K) → Same i
    found i = go (equal L i j) (equal L i k)
      where
        go : Dec (i ≡ j) → Dec (i ≡ k) → Same i
        go (yes p) e = rw p at_j
        go (no p) (yes q) = rw q at-k
        go (no p) (no q) = elsewhere i p q

    pub put-put : put cmp j x (put cmp k y m) ≡ put cmp k y (put cmp j x m)
    unfolding Same
    put-put = same_map L _ _ (ascending-put j x (put cmp k y m) (ascending-put k y m a)) (ascending-put k y (put cmp j x m) (ascending-put j x m a)) found
