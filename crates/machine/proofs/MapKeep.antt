-- Finite maps: the entries that pass a test, and the bytes written for them.
-- Assumes nothing.
use Prim.Native.Nat.{ℕ, suc, ◌<◌, Ordering}
use mathlib.Core.Path.{◌≡◌, refl, sym, ap, ◌∙◌}
use mathlib.Core.List.{List, [], ◌∷◌, ◌++◌, append_assoc}
use mathlib.Core.Bool.{Bool, true, false, cond}
use mathlib.Core.Option.{some}
use native.Mathlib.Omega.{arith}
use lib.ListN.{take, length, get_or}
use lib.Seq.{take-suc}
use Rattle.base_order.proofs.OrderLaws.{cases, Lawful}
use Rattle.machine.specs.Map.{Map, FirstAbove, Ascending, lookup, remove, keep, records}
use Rattle.machine.proofs.Options.{none-some}
use Rattle.machine.proofs.MapLaws.{above-chain, lookup-above}

module _ {K X : Type 0} (f : K → X → Bool) where
  pub keep_append : (m n : Map K X) → keep f (m ++ n) ≡ keep f m ++ keep f n
  keep_append [] n = refl
  keep_append (e ∷ m) n = rw (keep_append m n) (go (f e.0 e.1))
    where
      go : (b : Bool) → cond b (e ∷ (keep f m ++ keep f n)) (keep f m ++ keep f n) ≡ cond b (e ∷ keep f m) (keep f m) ++ keep f n
      go true = refl
      go false = refl

  -- one entry more
  pub keep-suc : (d : K × X) (i : ℕ) (m : Map K X) → i < length m →
      keep f (take (suc i) m) ≡ keep f (take i m) ++ cond (f (get_or m i d).0 (get_or m i d).1) (get_or m i d ∷ []) []
  keep-suc d i m h = ap (keep f) (take-suc m i d h) ∙ keep_append (take i m) (get_or m i d ∷ [])

module _ {K X : Type 0} (g : K → X → List ℕ) where
  pub records-append : (m n : Map K X) → records g (m ++ n) ≡ records g m ++ records g n
  records-append [] n = refl
  records-append (e ∷ m) n = rw (records-append m n) (sym (append_assoc (g e.0 e.1) (records g m) (records g n)))

module _ {K X : Type 0} {cmp : K → K → Ordering} (L : Lawful cmp) where
  keep-above : (f : K → X → Bool) (k : K) (m : Map K X) → Ascending cmp m → FirstAbove cmp k m → FirstAbove cmp k (keep f m)
  keep-above f k [] s a = tt
  keep-above f k (e ∷ m) s a = go (f e.0 e.1) (keep-above f k m s.1 (above-chain L k e.0 m a s.0))
    where
      go : (b : Bool) → FirstAbove cmp k (keep f m) → FirstAbove cmp k (cond b (e ∷ keep f m) (keep f m))
      go true h = a
      go false h = h

  -- what passes a test stands in the same order
  pub ascending-keep : (f : K → X → Bool) (m : Map K X) → Ascending cmp m → Ascending cmp (keep f m)
  ascending-keep f [] s = tt
  ascending-keep f (e ∷ m) s = go (f e.0 e.1) (ascending-keep f m s.1)
    where
      go : (b : Bool) → Ascending cmp (keep f m) → Ascending cmp (cond b (e ∷ keep f m) (keep f m))
      go true h = (keep-above f e.0 m s.1 s.0, h)
      go false h = h

  -- the first that passes a test is there, and without it the others pass
  pub keep-first : (f : K → X → Bool) (k : K) (x : X) (rest m : Map K X) → Ascending cmp m → keep f m ≡ (k, x) ∷ rest →
      (lookup cmp k m ≡ some x) × (keep f (remove cmp k m) ≡ rest)
  keep-first f k x rest [] s h = absurd (let z : ◌≡◌ {A = ℕ} 0 1 = cc in omega arith)
  keep-first f k x rest (e ∷ m) s h = go (f e.0 e.1) refl h (keep-first f k x rest m s.1)
    where
      go : (b : Bool) → f e.0 e.1 ≡ b → cond b (e ∷ keep f m) (keep f m) ≡ (k, x) ∷ rest →
          (keep f m ≡ (k, x) ∷ rest → (lookup cmp k m ≡ some x) × (keep f (remove cmp k m) ≡ rest)) →
          (lookup cmp k (e ∷ m) ≡ some x) × (keep f (remove cmp k (e ∷ m)) ≡ rest)
      go true q h i =
          let is : e ≡ (k, x) = cc in
          let w : cmp k e.0 ≡ Ordering.eq = rw is (L.self k) in
          (rw w (ap some (ap (λ (d : K × X). d.1) is)), rw w (cc))
      go false q h i =
          let j = i h in
          cases (cmp k e.0)
          (λ w. absurd (none-some (sym (lookup-above L k m (above-chain L k e.0 m w s.0)) ∙ j.0)))
          (λ w. absurd (none-some (sym (lookup-above L k m (rw (L.alike k e.0 w) s.0)) ∙ j.0)))
          (λ w. (rw w j.0, rw (w, q) j.1))
