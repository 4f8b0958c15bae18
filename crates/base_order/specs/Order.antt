-- Byte strings compared. Assumes nothing.
use Prim.Native.Nat.{ℕ, ◌-◌, compare, Ordering}
use Rattle.std.specs.Prelude.{Bool, true, false, List, [], ◌∷◌, length, take, drop}
use Rattle.std.proofs.Math.Dec.{compare_is_eq}

-- what the three cases of a comparison give
module _ {B : Type 0} where
  abbrev pub by : Ordering → B → B → B → B
  by Ordering.lt l e g = l
  by Ordering.eq l e g = e
  by Ordering.gt l e g = g

-- ascending by bytes, a shorter string before its extensions
abbrev pub by_bytes : List ℕ → List ℕ → Ordering
by_bytes [] [] = Ordering.eq
by_bytes [] (y ∷ ys) = Ordering.lt
by_bytes (x ∷ xs) [] = Ordering.gt
by_bytes (x ∷ xs) (y ∷ ys) = by (compare x y) Ordering.lt (by_bytes xs ys) Ordering.gt

-- a is before b
abbrev pub is_below : List ℕ → List ℕ → Bool
is_below a b = by (by_bytes a b) true false false

abbrev pub same : List ℕ → List ℕ → Bool
same a b = compare_is_eq (by_bytes a b)

-- s begins with the prefix
unfoldable pub begins : (prefix s : List ℕ) → Bool
begins prefix s = same (take (length prefix) s) prefix

-- s ends with the suffix
unfoldable pub ends : (suffix s : List ℕ) → Bool
ends suffix s = same (drop (length s - length suffix) s) suffix
