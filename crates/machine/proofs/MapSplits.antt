-- Finite maps as lists cut in two or three: what stands before a key, the key's entry, what stands after it.
-- Assumes nothing.
use Prim.Native.Nat.{◌+◌, Ordering}
use mathlib.Core.Path.{◌≡◌, refl, ◌∙◌}
use mathlib.Core.List.{[], ◌∷◌, ◌++◌}
use mathlib.Core.Option.{some}
use native.Mathlib.Omega.{arith}
use lib.ListN.{length}
use Rattle.base_order.proofs.OrderLaws.{Lawful}
use Rattle.machine.specs.Map.{Map, lookup, insert, place, FirstAbove, Ascending}
use Rattle.machine.proofs.MapLaws.{above-chain}

-- every key of m is below k
module _ {K X : Type 0} (cmp : K → K → Ordering) where
  abbrev pub Below : K → Map K X → Type 0
  Below k [] = Unit {0}
  Below k (e ∷ m) = (cmp k e.0 ≡ Ordering.gt) × Below k m

module _ {K X : Type 0} {cmp : K → K → Ordering} (L : Lawful cmp) where
  -- past the keys below k
  pub lookup-append : (k : K) (a b : Map K X) → Below cmp k a → lookup cmp k (a ++ b) ≡ lookup cmp k b
  lookup-append k [] b h = refl
  lookup-append k (e ∷ a) b h = rw h.0 (lookup-append k a b h.1)

  pub place-append : (k : K) (a b : Map K X) → Below cmp k a → place cmp k (a ++ b) ≡ length a + place cmp k b
  place-append k [] b h = omega arith
  place-append k (e ∷ a) b h = rw h.0 (omega (arith, place-append k a b h.1))

  -- before the keys above k
  pub insert-above : (k : K) (v : X) (m : Map K X) → FirstAbove cmp k m → insert cmp k v m ≡ (k, v) ∷ m
  insert-above k v [] h = refl
  insert-above k v (e ∷ m) h = rw h

  -- k is there: m is a ++ (k, w) ∷ b
  pub lookup-at : (k : K) (w : X) (a b : Map K X) → Below cmp k a → lookup cmp k (a ++ (k, w) ∷ b) ≡ some w
  lookup-at k w a b h = lookup-append k a ((k, w) ∷ b) h ∙ rw (L.self k)

  pub place_at : (k : K) (w : X) (a b : Map K X) → Below cmp k a → place cmp k (a ++ (k, w) ∷ b) ≡ length a
  place_at k w a b h =
      let q : place cmp k ((k, w) ∷ b) ≡ 0 = rw (L.self k) in
      omega (arith, place-append k a ((k, w) ∷ b) h)

  -- what stands before a key of an ascending map is below it
  above-middle : (j k : K) (w : X) (a b : Map K X) → Ascending cmp (a ++ (k, w) ∷ b) → FirstAbove cmp j (a ++ (k, w) ∷ b) → cmp j k ≡ Ordering.lt
  above-middle j k w [] b s h = h
  above-middle j k w (e ∷ a) b s h = above-middle j k w a b s.1 (above-chain L j e.0 (a ++ (k, w) ∷ b) h s.0)

  pub below-middle : (k : K) (w : X) (a b : Map K X) → Ascending cmp (a ++ (k, w) ∷ b) → Below cmp k a
  below-middle k w [] b s = tt
  below-middle k w (e ∷ a) b s = (L.under e.0 k (above-middle e.0 k w a b s.1 s.0), below-middle k w a b s.1)
