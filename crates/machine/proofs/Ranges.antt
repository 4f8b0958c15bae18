-- Computed tests: one that passes at each number below a bound, and whether two lists of ranges are the same. Assumes nothing.
use Prim.Native.Nat.{ℕ, zero, suc, ◌<◌}
use mathlib.Core.Path.{◌≡◌, refl}
use mathlib.Core.Bool.{Bool, true, false, ◌&&◌, false≢true}
use mathlib.Core.List.{List, [], ◌∷◌}
use native.Mathlib.Nat.{not-suc-le-zero}
use native.Mathlib.Omega.{arith}
use lib.Dec.{eqb}
use borrow.Author.Tests.{eqb-true, eqb-false}
use Rattle.machine.specs.Names.{Range, ◌to◌}
use Rattle.machine.proofs.Options.{both}

-- a test that passes at each number below n
unfoldable pub below : (f : ℕ → Bool) (n : ℕ) → Bool
below f zero = true
below f (suc n) = f n && below f n

pub passes : (f : ℕ → Bool) (n : ℕ) → below f n ≡ true → (k : ℕ) → k < n → f k ≡ true
unfolding below
passes f zero e k h = absurd (not-suc-le-zero h)
passes f (suc n) e k h = go (eqb k n) refl (passes f n (both (f n) (below f n) e).1 k)
  where
    go : (t : Bool) → eqb k n ≡ t → (k < n → f k ≡ true) → f k ≡ true
    go true q less = rw (eqb-true k n q) (both (f n) (below f n) e).0
    go false q less =
        let other : k ≡ n → ⊥ = eqb-false k n q in
        less (omega arith)

-- whether ranges are the same
unfoldable pub same_ranges : List Range → List Range → Bool
same_ranges [] [] = true
same_ranges [] (r ∷ rs) = false
same_ranges (r ∷ rs) [] = false
same_ranges ((a to b) ∷ rs) ((c to d) ∷ ss) = eqb a c && eqb b d && same_ranges rs ss

pub same-ranges : (rs ss : List Range) → same_ranges rs ss ≡ true → rs ≡ ss
unfolding same_ranges
same-ranges [] [] e = refl
same-ranges [] (r ∷ ss) e = absurd (false≢true e)
same-ranges (r ∷ rs) [] e = absurd (false≢true e)
same-ranges ((a to b) ∷ rs) ((c to d) ∷ ss) e =
    let all = both (eqb a c && eqb b d) (same_ranges rs ss) e in
    let ends = both (eqb a c) (eqb b d) all.0 in
    rw (eqb-true a c ends.0, eqb-true b d ends.1, same-ranges rs ss all.1)
