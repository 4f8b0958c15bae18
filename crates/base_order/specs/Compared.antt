-- What the code's comparisons answer. Assumes nothing.
use Prim.Native.Nat.{ℕ, ◌+◌, Ordering, ◌≤◌, ◌<◌}
use Rattle.std.specs.Prelude.{◌≡◌, List, take, drop, get_or}
use Rattle.base_order.specs.Order.{by_bytes}
use Rattle.std.specs.declared.cmp.Ordering as cmp
use Rattle.std.specs.declared.cmp.Ordering.TheVariants.{Less, Equal, Greater}

-- the answer of `compare` in each case
abbrev pub order_of : Ordering → cmp.Ordering
order_of Ordering.lt = Less
order_of Ordering.eq = Equal
order_of Ordering.gt = Greater

-- of their first n bytes, a and b agree on just the first r
pub record Common (a b : List ℕ) (n r : ℕ) : Type 0 where
  pub inside : r ≤ n
  pub alike : take r a ≡ take r b
  pub differ : r < n → get_or a r 0 ≡ get_or b r 0 → ⊥

-- a and b agree on the first r bytes, and not on the eight that follow, unless those are the last of the first n
pub record DecidingWord (a b : List ℕ) (n r : ℕ) : Type 0 where
  pub inside : r + 8 ≤ n
  pub alike : take r a ≡ take r b
  pub differ : r + 8 < n → take 8 (drop r a) ≡ take 8 (drop r b) → ⊥

-- x and y stand as a and b do; where they are the same, so are the first n bytes
pub record Tells (a b : List ℕ) (n x y : ℕ) : Type 0 where
  pub less : x < y → Less ≡ order_of (by_bytes a b)
  pub greater : y < x → Greater ≡ order_of (by_bytes a b)
  pub same : x ≡ y → take n a ≡ take n b
