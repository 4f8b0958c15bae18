-- Finite maps searched from the front, an entry at a time.
-- Assumes nothing.
use Prim.Native.Nat.{ℕ, suc, ◌+◌, ◌<◌, Ordering}
use mathlib.Core.Path.{◌≡◌, ap, ◌∙◌}
use mathlib.Core.List.{◌∷◌, ◌++◌}
use mathlib.Core.Option.{some}
use native.Mathlib.Omega.{arith}
use lib.ListN.{take, drop, length, get_or}
use lib.Seq.{split_at, length-take-le}
use Rattle.base_order.proofs.OrderLaws.{Lawful}
use Rattle.machine.specs.Map.{Map, lookup, place, Ascending}
use Rattle.machine.proofs.MapSplits.{below-middle, lookup-at, place_at}

module _ {K X : Type 0} {cmp : K → K → Ordering} (L : Lawful cmp) where
  -- the entry at i, by its key
  pub lookup_key : (d : K × X) (i : ℕ) (m : Map K X) → Ascending cmp m → i < length m → lookup cmp (get_or m i d).0 m ≡ some (get_or m i d).1
  lookup_key d i m s h =
      let e = get_or m i d in
      let q : m ≡ take i m ++ e ∷ drop (suc i) m = split_at m i d h in
      let b = below-middle L e.0 e.1 (take i m) (drop (suc i) m) (rw q at s) in
      ap (lookup cmp e.0) q ∙ lookup-at L e.0 e.1 (take i m) (drop (suc i) m) b

  pub place-key : (d : K × X) (i : ℕ) (m : Map K X) → Ascending cmp m → i < length m → place cmp (get_or m i d).0 m ≡ i
  place-key d i m s h =
      let e = get_or m i d in
      let q : m ≡ take i m ++ e ∷ drop (suc i) m = split_at m i d h in
      let b = below-middle L e.0 e.1 (take i m) (drop (suc i) m) (rw q at s) in
      ap (place cmp e.0) q ∙ place_at L e.0 e.1 (take i m) (drop (suc i) m) b ∙ length-take-le i m (omega arith)
