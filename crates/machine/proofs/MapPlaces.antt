-- Finite maps as lists cut at the place of a key: insert and remove there.
-- Assumes nothing.
use Prim.Native.Nat.{suc, ◌<◌, Ordering}
use mathlib.Core.Path.{◌≡◌, refl, sym, ap}
use mathlib.Core.List.{[], ◌∷◌, ◌++◌}
use mathlib.Core.Option.{none, some}
use native.Mathlib.Omega.{arith}
use lib.ListN.{take, drop, length}
use Rattle.base_order.proofs.OrderLaws.{cases, Lawful}
use Rattle.machine.specs.Map.{Map, lookup, insert, remove, place}
use Rattle.machine.proofs.Options.{none-some}

module _ {K X : Type 0} {cmp : K → K → Ordering} (L : Lawful cmp) where
  -- where k is there, it stands at its place
  pub place_found : (k : K) (w : X) (m : Map K X) → lookup cmp k m ≡ some w → place cmp k m < length m
  place_found k w [] h = absurd (none-some h)
  place_found k w (e ∷ m) h =
      cases (cmp k e.0)
      (λ q. absurd (none-some (simp q at h)))
      (λ q. simp q (omega arith))
      (λ q. simp q (omega (arith, place_found k w m (simp q at h))))

  pub split-found : (k : K) (w : X) (m : Map K X) → lookup cmp k m ≡ some w → m ≡ take (place cmp k m) m ++ (k, w) ∷ drop (suc (place cmp k m)) m
  split-found k w [] h = cc
  split-found k w (e ∷ m) h =
      cases (cmp k e.0)
      (λ q. absurd (none-some (simp q at h)))
      (λ q. let n : some e.1 ≡ some w = simp q at h in let p : e.1 ≡ w = cc in simp q (λ i. (sym (L.alike k e.0 q) i, p i) ∷ m))
      (λ q. simp q (ap (λ (r : Map K X). e ∷ r) (split-found k w m (simp q at h))))

  pub insert-new : (k : K) (v : X) (m : Map K X) → lookup cmp k m ≡ none → insert cmp k v m ≡ take (place cmp k m) m ++ (k, v) ∷ drop (place cmp k m) m
  insert-new k v [] h = refl
  insert-new k v (e ∷ m) h =
      cases (cmp k e.0)
      (λ q. simp q)
      (λ q. let n : some e.1 ≡ none = simp q at h in cc)
      (λ q. simp q (ap (λ (r : Map K X). e ∷ r) (insert-new k v m (simp q at h))))

  pub insert-old : (k : K) (v w : X) (m : Map K X) → lookup cmp k m ≡ some w → insert cmp k v m ≡ take (place cmp k m) m ++ (k, v) ∷ drop (suc (place cmp k m)) m
  insert-old k v w [] h = cc
  insert-old k v w (e ∷ m) h =
      cases (cmp k e.0)
      (λ q. let n : none ≡ some w = simp q at h in cc)
      (λ q. simp q)
      (λ q. simp q (ap (λ (r : Map K X). e ∷ r) (insert-old k v w m (simp q at h))))

  pub remove-old : (k : K) (w : X) (m : Map K X) → lookup cmp k m ≡ some w → remove cmp k m ≡ take (place cmp k m) m ++ drop (suc (place cmp k m)) m
  remove-old k w [] h = cc
  remove-old k w (e ∷ m) h =
      cases (cmp k e.0)
      (λ q. let n : none ≡ some w = simp q at h in cc)
      (λ q. simp q)
      (λ q. simp q (ap (λ (r : Map K X). e ∷ r) (remove-old k w m (simp q at h))))
