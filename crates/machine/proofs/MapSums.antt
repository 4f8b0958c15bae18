-- Finite maps: counts and sums over the values.
-- Assumes nothing.
use Prim.Native.Nat.{ℕ, ◌+◌, ◌≤◌, Ordering}
use mathlib.Core.Path.{◌≡◌, refl, sym, ap, ◌∙◌}
use mathlib.Core.Logic.{◌⊎◌, inl, inr, ⊎_map}
use mathlib.Core.List.{[], ◌∷◌}
use mathlib.Core.Option.{some}
use native.Mathlib.Omega.{arith}
use lib.ListN.{length, take}
use Rattle.base_order.proofs.OrderLaws.{cases, Lawful}
use Rattle.machine.specs.Map.{Map, lookup, insert, remove, place, total, owed}
use Rattle.machine.proofs.Options.{none-some}

pub length-total : {K X : Type 0} (m : Map K X) → total (λ (x : X). 1) m ≡ length m
length-total [] = refl
length-total (e ∷ m) = omega (arith, length-total m)

module _ {K X : Type 0} {cmp : K → K → Ordering} (L : Lawful cmp) where
  -- sums: what was there is taken off, and what is inserted is added
  pub total-insert : (f : X → ℕ) (k : K) (v : X) (m : Map K X) → total f (insert cmp k v m) + owed f (lookup cmp k m) ≡ total f m + f v
  total-insert f k v [] = omega arith
  total-insert f k v (e ∷ m) =
      cases (cmp k e.0)
      (λ q. simp q (omega arith))
      (λ q. simp q (omega arith))
      (λ q. simp q (omega (arith, total-insert f k v m)))

  pub total-remove : (f : X → ℕ) (k : K) (m : Map K X) → total f (remove cmp k m) + owed f (lookup cmp k m) ≡ total f m
  total-remove f k [] = refl
  total-remove f k (e ∷ m) =
      cases (cmp k e.0)
      (λ q. simp q (omega arith))
      (λ q. simp q (omega arith))
      (λ q. simp q (omega (arith, total-remove f k m)))

  pub length-insert : (k : K) (v : X) (m : Map K X) → length (insert cmp k v m) + owed (λ (x : X). 1) (lookup cmp k m) ≡ length m + 1
  length-insert k v m = rw (← length-total (insert cmp k v m), ← length-total m) (total-insert (λ (x : X). 1) k v m)

  pub length-remove : (k : K) (m : Map K X) → length (remove cmp k m) + owed (λ (x : X). 1) (lookup cmp k m) ≡ length m
  length-remove k m = rw (← length-total (remove cmp k m), ← length-total m) (total-remove (λ (x : X). 1) k m)

  -- one value's share
  pub total-share : (f : X → ℕ) (k : K) (v : X) (m : Map K X) → lookup cmp k m ≡ some v → f v ≤ total f m
  total-share f k v m h = let t = rw h at (total-remove f k m) in omega arith

  -- two keys stand apart: the first with its value before the second, or after it with its value
  pub total-apart : (f : X → ℕ) (j k : K) (v : X) (m : Map K X) → lookup cmp j m ≡ some v → (j ≡ k → ⊥)
      → (total f (take (place cmp j m) m) + f v ≤ total f (take (place cmp k m) m)) ⊎ (total f (take (place cmp k m) m) + owed f (lookup cmp k m) ≤ total f (take (place cmp j m) m))
  total-apart f j k v [] h d = absurd (none-some h)
  total-apart f j k v (e ∷ m) h d =
      cases (cmp j e.0)
      (λ q. absurd (none-some (simp q at h)))
      (λ q. let n : some e.1 ≡ some v = simp q at h in let w : e.1 ≡ v = cc in
      cases (cmp k e.0)
      (λ r. simp (q, r) (inr (omega arith)))
      (λ r. absurd (d (L.alike j e.0 q ∙ sym (L.alike k e.0 r))))
      (λ r. simp (q, r) (inl (omega (arith, ap f w)))))
      (λ q. cases (cmp k e.0)
      (λ r. simp (q, r) (inr (omega arith)))
      (λ r. simp (q, r) (inr (omega arith)))
      (λ r. simp (q, r) (⊎_map (λ z. omega arith) (λ z. omega arith) (total-apart f j k v m (simp q at h) d))))
