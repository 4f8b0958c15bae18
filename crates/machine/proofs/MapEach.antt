-- Finite maps: a change of every value, and what lookup, insert and remove make of it.
-- Assumes nothing.
use Prim.Native.Nat.{Ordering}
use mathlib.Core.Path.{◌≡◌, refl, ap}
use mathlib.Core.List.{[], ◌∷◌}
use Rattle.base_order.proofs.OrderLaws.{cases, Lawful}
use Rattle.machine.specs.Map.{Map, lookup, insert, remove, mapped}

-- each value replaced by what f makes of it
module _ {K X Y : Type 0} (f : K → X → Y) where
  abbrev pub each : Map K X → Map K Y
  each [] = []
  each (e ∷ m) = (e.0, f e.0 e.1) ∷ each m

module _ {K X : Type 0} {cmp : K → K → Ordering} (L : Lawful cmp) where
  -- a change of the values
  pub lookup-each : {Y : Type 0} (f : K → X → Y) (k : K) (m : Map K X) → lookup cmp k (each f m) ≡ mapped (f k) (lookup cmp k m)
  lookup-each f k [] = refl
  lookup-each f k (e ∷ m) =
      cases (cmp k e.0)
      (λ q. simp q)
      (λ q. simp q (rw (L.alike k e.0 q)))
      (λ q. simp q (lookup-each f k m))

  pub each-insert : {Y : Type 0} (f : K → X → Y) (k : K) (v : X) (m : Map K X) → each f (insert cmp k v m) ≡ insert cmp k (f k v) (each f m)
  each-insert f k v [] = refl
  each-insert {Y} f k v (e ∷ m) =
      cases (cmp k e.0)
      (λ q. simp q)
      (λ q. simp q)
      (λ q. simp q (ap (λ (r : Map K Y). (e.0, f e.0 e.1) ∷ r) (each-insert f k v m)))

  pub each-remove : {Y : Type 0} (f : K → X → Y) (k : K) (m : Map K X) → each f (remove cmp k m) ≡ remove cmp k (each f m)
  each-remove f k [] = refl
  each-remove {Y} f k (e ∷ m) =
      cases (cmp k e.0)
      (λ q. simp q)
      (λ q. simp q)
      (λ q. simp q (ap (λ (r : Map K Y). (e.0, f e.0 e.1) ∷ r) (each-remove f k m)))
