-- Finite maps: a list of keys with their values, strictly ascending by a comparison of keys.
-- Assumes nothing.
use Prim.Native.Nat.{ℕ, suc, ◌+◌, compare, Ordering}
use Rattle.std.specs.Prelude.{◌≡◌, List, [], ◌∷◌, ◌++◌, Bool, true, false, cond}
use Rattle.std.proofs.Math.Option.{Option, none, some}
use Rattle.base_order.specs.Order.{by}

abbrev pub Map : Type 0 → Type 0 → Type 0
Map K X = List (K × X)

-- the comparison of keys that are numbers; paths are compared by `by_bytes` of crate `base_order`
abbrev pub by_number : ℕ → ℕ → Ordering
by_number = compare

module _ {K X : Type 0} (cmp : K → K → Ordering) where
  -- the value at a key
  abbrev pub lookup : K → Map K X → Option X
  lookup k [] = none
  lookup k (e ∷ m) = by (cmp k e.0) none (some e.1) (lookup k m)

  -- the map with a value set at a key, in place of an older one
  abbrev pub insert : K → X → Map K X → Map K X
  insert k v [] = (k, v) ∷ []
  insert k v (e ∷ m) = by (cmp k e.0) ((k, v) ∷ e ∷ m) ((k, v) ∷ m) (e ∷ insert k v m)

  -- the map without a key
  abbrev pub remove : K → Map K X → Map K X
  remove k [] = []
  remove k (e ∷ m) = by (cmp k e.0) (e ∷ m) m (e ∷ remove k m)

  -- how many keys stand before the place of k
  abbrev pub place : K → Map K X → ℕ
  place k [] = 0
  place k (e ∷ m) = by (cmp k e.0) 0 0 (suc (place k m))

  -- k is below the first key, so below every key of an ascending map
  abbrev pub FirstAbove : K → Map K X → Type 0
  FirstAbove k [] = Unit {0}
  FirstAbove k (e ∷ m) = cmp k e.0 ≡ Ordering.lt

  -- strictly ascending
  abbrev pub Ascending : Map K X → Type 0
  Ascending [] = Unit {0}
  Ascending (e ∷ m) = FirstAbove e.0 m × Ascending m

-- the sum of f over the values
module _ {K X : Type 0} (f : X → ℕ) where
  abbrev pub total : Map K X → ℕ
  total [] = 0
  total (e ∷ m) = f e.1 + total m

-- whether there is a value
module _ {X : Type 0} where
  abbrev pub is_some : Option X → Bool
  is_some none = false
  is_some (some x) = true

-- f of the value that is there, 0 where none is
module _ {X : Type 0} (f : X → ℕ) where
  abbrev pub owed : Option X → ℕ
  owed none = 0
  owed (some v) = f v

module _ {X Y : Type 0} where
  -- f of the value that is there
  abbrev pub mapped : (X → Y) → Option X → Option Y
  mapped f none = none
  mapped f (some x) = some (f x)

  -- what f finds for the value that is there
  abbrev pub also : Option X → (X → Option Y) → Option Y
  also none f = none
  also (some x) f = f x

module _ {K X : Type 0} where
  -- the entries that pass a test
  abbrev pub keep : (K → X → Bool) → Map K X → Map K X
  keep f [] = []
  keep f (e ∷ m) = cond (f e.0 e.1) (e ∷ keep f m) (keep f m)

  -- the bytes that f writes for each entry, one after the other
  abbrev pub records : (K → X → List ℕ) → Map K X → List ℕ
  records f [] = []
  records f (e ∷ m) = f e.0 e.1 ++ records f m

-- P holds of each key with its value
module _ {K X : Type 0} (P : K → X → Type 0) where
  abbrev pub Every : Map K X → Type 0
  Every [] = Unit {0}
  Every (e ∷ m) = P e.0 e.1 × Every m
