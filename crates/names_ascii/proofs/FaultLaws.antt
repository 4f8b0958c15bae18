-- The laws of counting faults. Assumes nothing.
use Prim.Native.Nat.{ℕ, ◌+◌, ◌≤◌, ◌<◌}
use mathlib.Core.Path.{◌≡◌, refl}
use mathlib.Core.Bool.{Bool, true, false, not, ◌&&◌, cond}
use mathlib.Core.List.{List, [], ◌∷◌}
use native.Mathlib.Nat.{zero-add}
use native.Mathlib.Numerals.{add-one}
use native.Mathlib.Omega.{arith}
use lib.Dec.{leb, eqb, lit≤}
use lib.ListN.{length, get_or, drop, drop_of_length-le}
use lib.Seq.{drop-cons}
use borrow.Author.Tests.{ne_eqb}
use Rattle.machine.specs.Names.{visible, apart}
use Rattle.names_ascii.specs.Faults.{stands, clean, fault_of, faults}

pub fault-small : (before b : ℕ) → fault_of before b ≤ 1
unfolding fault_of
fault-small before b = small (stands before b)
  where
    small : (k : Bool) → cond k 0 1 ≤ 1
    small true = lit≤ tt
    small false = lit≤ tt

one_more : (n : ℕ) → eqb (1 + n) 0 ≡ false
one_more n = ne_eqb (1 + n) 0 (λ e. omega arith)

-- none is at fault where each may stand
pub no-faults : (before : ℕ) (p : List ℕ) → eqb (faults before p) 0 ≡ clean before p
unfolding faults fault_of clean
no-faults before [] = refl
no-faults before (b ∷ p) = step (stands before b) (faults b p) (no-faults b p)
  where
    step : (here : Bool) (n : ℕ) → eqb n 0 ≡ clean b p → eqb (cond here 0 1 + n) 0 ≡ (here && clean b p)
    step true n e = rw (zero-add n) e
    step false n e = one_more n

-- each may stand where each is visible and no "/" follows another
pub clean_is : (before : ℕ) (p : List ℕ) → clean before p ≡ (visible p && apart before p)
unfolding clean stands
clean_is before [] = refl
clean_is before (b ∷ p) = rw (clean_is b p) (step (leb 33 b) (leb b 126) (not (eqb before 47 && eqb b 47)) (visible p) (apart b p))
  where
    step : (low high free v w : Bool) → (low && high && free && (v && w)) ≡ (low && high && v && (free && w))
    step true true true v w = refl
    step true true false true w = refl
    step true true false false w = refl
    step true false free v w = refl
    step false high free v w = refl

-- a byte passed
pub fault-here : (before : ℕ) (p : List ℕ) (i : ℕ) → i < length p → faults before (drop i p) ≡ fault_of before (get_or p i 0) + faults (get_or p i 0) (drop (i + 1) p)
unfolding faults
fault-here before p i h = rw (add-one, drop-cons p i 0)

pub faults-end : (before : ℕ) (p : List ℕ) (i : ℕ) → length p ≤ i → faults before (drop i p) ≡ 0
unfolding faults
faults-end before p i h = rw (drop_of_length-le p h)
