-- The search for one of two paths goes on where that for the lower one ended. Assumes nothing.
use Prim.Native.Nat.{ℕ, ◌+◌, ◌≤◌, Ordering}
use mathlib.Core.Path.{◌≡◌, refl, sym, ap, ◌∙◌}
use mathlib.Core.Logic.{◌⊎◌, ⊎_elim}
use mathlib.Core.List.{[], ◌∷◌}
use native.Mathlib.Omega.{arith}
use lib.ListN.{length, take, drop}
use lib.Seq.{length-take-le}
use Rattle.base_order.specs.Order.{by_bytes}
use Rattle.base_order.proofs.OrderLaws.{cases, Lawful, bytes}
use Rattle.machine.specs.Map.{Map, lookup, place}
use Rattle.machine.specs.Names.{Bytes}
use Rattle.machine.specs.State.{State}
use Rattle.mem_layout.proofs.ObjectLaws.{length-object-rows}
use Rattle.mem_find.specs.declared.Lookup.{Lookup}
use Rattle.mem_find.specs.Places.{before_object, object_place, Passed}

-- what is below p is below q, where p is not above q
below : {K : Type 0} {cmp : K → K → Ordering} → Lawful cmp → (p q k : K) → (cmp p q ≡ Ordering.lt) ⊎ (cmp p q ≡ Ordering.eq) → cmp p k ≡ Ordering.gt
    → cmp q k ≡ Ordering.gt
below {K} {cmp} L p q k up h =
    ⊎_elim
    (λ l. L.under k q (L.chain k p q (L.over p k h) l))
    (λ e. ap (λ (x : K). cmp x k) (sym (L.alike p q e)) ∙ h)
    up

module _ {K X : Type 0} {cmp : K → K → Ordering} (L : Lawful cmp) where
  place-within : (p : K) (m : Map K X) → place cmp p m ≤ length m
  place-within p [] = omega arith
  place-within p (e ∷ m) =
      cases (cmp p e.0) (λ h. simp h (omega arith)) (λ h. simp h (omega arith)) (λ h. simp h (omega (arith, place-within p m)))

  module _ (p q : K) (up : (cmp p q ≡ Ordering.lt) ⊎ (cmp p q ≡ Ordering.eq)) where
    places : (m : Map K X) → place cmp q m ≡ place cmp p m + place cmp q (drop (place cmp p m) m)
    places [] = refl
    places (e ∷ m) =
        cases (cmp p e.0)
        (λ h. simp h (omega arith))
        (λ h. simp h (omega arith))
        (λ h. simp (h, below L p q e.0 up h) (omega (arith, places m)))

    found : (m : Map K X) → lookup cmp q m ≡ lookup cmp q (drop (place cmp p m) m)
    found [] = refl
    found (e ∷ m) =
        cases (cmp p e.0)
        (λ h. simp h)
        (λ h. simp h)
        (λ h. simp (h, below L p q e.0 up h) (found m))

-- where p is not above q, the rows before the place of p are passed in a search for q
pub passed-lower : (s : State) (p q : Bytes) (l : Lookup) → l ≡ object_place s p → (by_bytes p q ≡ Ordering.lt) ⊎ (by_bytes p q ≡ Ordering.eq)
    → Passed s q l.row l.at l.base
unfolding object_place before_object
passed-lower s p q l e up =
    let i : ℕ = place by_bytes p s.O in
    let w : i ≤ length s.O = place-within bytes p s.O in
    let n : l.row ≡ i = ap (λ (x : Lookup). x.row) e ∙ length-object-rows (take i s.O) ∙ length-take-le i s.O w in
    rw n
    (record {
      within = w;
      rows = ap (λ (x : Lookup). x.at) e;
      contents = ap (λ (x : Lookup). x.base) e;
      places = places bytes p q up s.O;
      found = found bytes p q up s.O;
    })
