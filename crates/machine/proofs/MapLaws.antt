-- Finite maps: what lookup finds after insert and remove, and that both keep the keys ascending. Each law is by induction over the map and
-- the three cases of a comparison.
-- Assumes nothing.
use Prim.Native.Nat.{ℕ, Ordering}
use mathlib.Core.Path.{◌≡◌, refl, sym, ap, ◌∙◌, subst}
use mathlib.Core.List.{[], ◌∷◌}
use mathlib.Core.Option.{none, some}
use native.Mathlib.Omega.{arith}
use Rattle.base_order.specs.Order.{by}
use Rattle.base_order.proofs.OrderLaws.{cases, Lawful}
use Rattle.machine.specs.Map.{Map, lookup, insert, remove, FirstAbove, Ascending, Every}
use Rattle.machine.proofs.Options.{none-some}

module _ {K X : Type 0} {cmp : K → K → Ordering} (L : Lawful cmp) where
  pub lookup-insert : (k : K) (v : X) (m : Map K X) → lookup cmp k (insert cmp k v m) ≡ some v
  lookup-insert k v [] = rw (L.self k)
  lookup-insert k v (e ∷ m) =
      cases (cmp k e.0)
      (λ q. simp (q, L.self))
      (λ q. simp (q, L.self))
      (λ q. simp q (lookup-insert k v m))

  pub lookup-insert-other : (j k : K) (v : X) (m : Map K X) → (j ≡ k → ⊥) → lookup cmp j (insert cmp k v m) ≡ lookup cmp j m
  lookup-insert-other j k v [] d =
      cases (cmp j k)
      (λ q. simp q)
      (λ q. absurd (d (L.alike j k q)))
      (λ q. simp q)
  lookup-insert-other j k v (e ∷ m) d =
      cases (cmp k e.0)
      (λ q. cases (cmp j k)
      (λ p. simp (q, p, L.chain j k e.0 p q))
      (λ p. absurd (d (L.alike j k p)))
      (λ p. simp (q, p)))
      (λ q. rw (sym (L.alike k e.0 q)) (cases (cmp j k)
      (λ p. simp (L.self, p))
      (λ p. absurd (d (L.alike j k p)))
      (λ p. simp (L.self, p))))
      (λ q. simp q (ap (by (cmp j e.0) none (some e.1)) (lookup-insert-other j k v m d)))

  -- what is there already is inserted without a change
  pub insert-there : (k : K) (v : X) (m : Map K X) → lookup cmp k m ≡ some v → insert cmp k v m ≡ m
  insert-there k v [] h = cc
  insert-there k v (e ∷ m) h =
      cases (cmp k e.0)
      (λ q. let n : none ≡ some v = simp q at h in cc)
      (λ q. let n : some e.1 ≡ some v = simp q at h in let p : e.1 ≡ v = cc in simp q (λ i. (L.alike k e.0 q i, sym p i) ∷ m))
      (λ q. simp q (ap (λ (r : Map K X). e ∷ r) (insert-there k v m (simp q at h))))

  pub above-insert : (j k : K) (v : X) (m : Map K X) → cmp j k ≡ Ordering.lt → FirstAbove cmp j m → FirstAbove cmp j (insert cmp k v m)
  above-insert j k v [] q a = q
  above-insert j k v (e ∷ m) q a = cases (cmp k e.0) (λ p. simp p q) (λ p. simp p q) (λ p. simp p a)

  pub ascending-insert : (k : K) (v : X) (m : Map K X) → Ascending cmp m → Ascending cmp (insert cmp k v m)
  ascending-insert k v [] a = (tt, tt)
  ascending-insert k v (e ∷ m) a =
      cases (cmp k e.0)
      (λ q. subst (λ (o : Ordering). Ascending cmp (by o ((k, v) ∷ e ∷ m) ((k, v) ∷ m) (e ∷ insert cmp k v m))) (sym q) (q, a))
      (λ q. simp q (subst (λ (x : K). FirstAbove cmp x m) (sym (L.alike k e.0 q)) a.0, a.1))
      (λ q. simp q (above-insert e.0 k v m (L.over k e.0 q) a.0, ascending-insert k v m a.1))

  pub above-chain : (j k : K) (m : Map K X) → cmp j k ≡ Ordering.lt → FirstAbove cmp k m → FirstAbove cmp j m
  above-chain j k [] q a = tt
  above-chain j k (e ∷ m) q a = L.chain j k e.0 q a

  above-remove : (j k : K) (m : Map K X) → Ascending cmp m → FirstAbove cmp j m → FirstAbove cmp j (remove cmp k m)
  above-remove j k [] s a = tt
  above-remove j k (e ∷ m) s a = cases (cmp k e.0) (λ p. simp p a) (λ p. simp p (above-chain j e.0 m a s.0)) (λ p. simp p a)

  pub ascending-remove : (k : K) (m : Map K X) → Ascending cmp m → Ascending cmp (remove cmp k m)
  ascending-remove k [] a = tt
  ascending-remove k (e ∷ m) a =
      cases (cmp k e.0)
      (λ q. simp q a)
      (λ q. simp q a.1)
      (λ q. simp q (above-remove e.0 k m a.1 a.0, ascending-remove k m a.1))

  pub lookup-above : (k : K) (m : Map K X) → FirstAbove cmp k m → lookup cmp k m ≡ none
  lookup-above k [] a = refl
  lookup-above k (e ∷ m) a = rw a

  pub lookup-remove : (k : K) (m : Map K X) → Ascending cmp m → lookup cmp k (remove cmp k m) ≡ none
  lookup-remove k [] a = refl
  lookup-remove k (e ∷ m) a =
      cases (cmp k e.0)
      (λ q. simp q)
      (λ q. simp q (lookup-above k m (rw (L.alike k e.0 q) a.0)))
      (λ q. simp q (lookup-remove k m a.1))

  pub remove_absent : (k : K) (m : Map K X) → lookup cmp k m ≡ none → remove cmp k m ≡ m
  remove_absent k [] h = refl
  remove_absent k (e ∷ m) h =
      cases (cmp k e.0)
      (λ q. simp q)
      (λ q. absurd (none-some (sym (rw q at h))))
      (λ q. simp q (ap (λ (r : Map K X). e ∷ r) (remove_absent k m (rw q at h))))

  pub lookup-remove-other : (j k : K) (m : Map K X) → Ascending cmp m → (j ≡ k → ⊥) → lookup cmp j (remove cmp k m) ≡ lookup cmp j m
  lookup-remove-other j k [] a d = refl
  lookup-remove-other j k (e ∷ m) a d =
      cases (cmp k e.0)
      (λ q. simp q)
      (λ q. cases (cmp j e.0)
      (λ p. simp (q, p) (lookup-above j m (above-chain j e.0 m p a.0)))
      (λ p. absurd (d (L.alike j e.0 p ∙ sym (L.alike k e.0 q))))
      (λ p. simp (q, p)))
      (λ q. simp q (ap (by (cmp j e.0) none (some e.1)) (lookup-remove-other j k m a.1 d)))

  -- a rule of the entries
  pub every-insert : (P : K → X → Type 0) (k : K) (v : X) (m : Map K X) → P k v → Every P m → Every P (insert cmp k v m)
  every-insert P k v [] h a = (h, tt)
  every-insert P k v (e ∷ m) h a =
      cases (cmp k e.0)
      (λ q. simp q (h, a))
      (λ q. simp q (h, a.1))
      (λ q. simp q (a.0, every-insert P k v m h a.1))

  pub every-remove : (P : K → X → Type 0) (k : K) (m : Map K X) → Every P m → Every P (remove cmp k m)
  every-remove P k [] a = tt
  every-remove P k (e ∷ m) a =
      cases (cmp k e.0)
      (λ q. simp q a)
      (λ q. simp q a.1)
      (λ q. simp q (a.0, every-remove P k m a.1))

  pub every-lookup : (P : K → X → Type 0) (k : K) (v : X) (m : Map K X) → Every P m → lookup cmp k m ≡ some v → P k v
  every-lookup P k v [] a h = absurd (let z : ◌≡◌ {A = ℕ} 0 1 = cc in omega arith)
  every-lookup P k v (e ∷ m) a h =
      cases (cmp k e.0)
      (λ q. absurd (let n : none ≡ some v = simp q at h in let z : ◌≡◌ {A = ℕ} 0 1 = cc in omega arith))
      (λ q. let n : some e.1 ≡ some v = simp q at h in let p : e.1 ≡ v = cc in rw (L.alike k e.0 q) (subst (P e.0) p a.0))
      (λ q. every-lookup P k v m a.1 (simp q at h))

  -- two maps that answer alike are the same list
  no-some : {v : X} → none ≡ some v → ⊥
  no-some h = let z : ◌≡◌ {A = ℕ} 0 1 = cc in omega arith

  pub same_map : (m n : Map K X) → Ascending cmp m → Ascending cmp n → ((k : K) → lookup cmp k m ≡ lookup cmp k n) → m ≡ n
  same_map [] [] a b h = refl
  same_map [] (f ∷ n) a b h = absurd (no-some (rw (L.self f.0) at (h f.0)))
  same_map (e ∷ m) [] a b h = absurd (no-some (sym (rw (L.self e.0) at (h e.0))))
  same_map (e ∷ m) (f ∷ n) a b h =
      cases (cmp e.0 f.0)
      (λ q. absurd (no-some (sym (rw (L.self e.0, q) at (h e.0)))))
      (λ q.
      let v : some e.1 ≡ some f.1 = rw (L.self e.0, q) at (h e.0) in
      let w : e.1 ≡ f.1 = cc in
      let t = same_map m n a.1 b.1 (rest q) in
      λ i. (L.alike e.0 f.0 q i, w i) ∷ t i)
      (λ q. absurd (no-some (rw (L.self f.0, L.over e.0 f.0 q) at (h f.0))))
    where
      rest : cmp e.0 f.0 ≡ Ordering.eq → (k : K) → lookup cmp k m ≡ lookup cmp k n
      rest q k =
          cases (cmp k e.0)
          (λ p. lookup-above k m (above-chain k e.0 m p a.0) ∙ sym (lookup-above k n (above-chain k f.0 n (rw (L.alike e.0 f.0 q) at p) b.0)))
          (λ p. lookup-above k m (rw (L.alike k e.0 p) a.0) ∙ sym (lookup-above k n (rw (L.alike k e.0 p ∙ L.alike e.0 f.0 q) b.0)))
          (λ p. simp (p, rw (L.alike e.0 f.0 q) at p) at (h k))
