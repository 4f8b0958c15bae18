-- The rules for requests and for the store, one beside the other: what may be made may be held, and a path that is held may be asked for.
-- Assumes nothing.
use Prim.Native.Nat.{ℕ}
use mathlib.Core.Path.{◌≡◌, refl}
use mathlib.Core.Bool.{Bool, true, false, ◌&&◌, ◌||◌, cond, false≢true}
use mathlib.Core.List.{List, [], ◌∷◌}
use native.Mathlib.Omega.{arith}
use borrow.Author.Tests.{leb-true, le-leb}
use lib.Dec.{leb}
use lib.ListN.{length}
use Rattle.machine.specs.Names.{Bytes, Range, characters, visible, apart, former_path_ok, path_ok, request_path_ok, new_path_ok, stored_path_ok, number_ok, request_part_ok, stored_part_ok}
use Rattle.machine.proofs.Options.{both}

pub new-stored : (p : Bytes) → new_path_ok p ≡ true → stored_path_ok p ≡ true
unfolding new_path_ok stored_path_ok
new-stored p h = h

pub stored-requested : (p : Bytes) → stored_path_ok p ≡ true → request_path_ok p ≡ true
unfolding stored_path_ok request_path_ok
stored-requested p h = h

-- E7: what PART takes it took before, and what it took before a store may hold
part-number : (n : ℕ) → request_part_ok n ≡ true → number_ok n ≡ true
unfolding request_part_ok number_ok
part-number n h = let b = both (leb 1 n) (leb n 10000) h in let l = leb-true n 10000 b.1 in rw (b.0, le-leb n 11000 (omega arith))

pub number-stored : (n : ℕ) → number_ok n ≡ true → stored_part_ok n ≡ true
unfolding stored_part_ok
number-stored n h = h

pub part-stored : (n : ℕ) → request_part_ok n ≡ true → stored_part_ok n ≡ true
part-stored n h = number-stored n (part-number n h)

-- the root is no path of a store
pub stored-not-root : stored_path_ok [] ≡ true → ⊥
unfolding stored_path_ok path_ok
stored-not-root h = false≢true h

-- a byte that was visible is a character by itself
step : (low high v others : Bool) (due : List Range) (k : List Range → Bool) → (v ≡ true → k [] ≡ true) → (low && high && v) ≡ true
    → ((low && high || others) && k (cond (low && high) [] due)) ≡ true
step true true true others due k h e = h refl
step true true false others due k h e = absurd (false≢true e)
step true false v others due k h e = absurd (false≢true e)
step false high v others due k h e = absurd (false≢true e)

pub visible-characters : (p : Bytes) → visible p ≡ true → characters [] p ≡ true
visible-characters [] e = refl
visible-characters (b ∷ p) e = step (leb 33 b) (leb b 126) (visible p) _ _ (λ due. characters due p) (visible-characters p) e

-- E2: what passed the former rule passes
pub former-ok : (p : Bytes) → former_path_ok p ≡ true → path_ok p ≡ true
unfolding former_path_ok path_ok
former-ok p e = go (leb 1 (length p) && leb (length p) 128) (visible p) (characters [] p) (apart 47 p) (visible-characters p) e
  where
    go : (n v c a : Bool) → (v ≡ true → c ≡ true) → (n && v && a) ≡ true → (n && c && a) ≡ true
    go true true c true h e = rw (h refl)
    go true true c false h e = absurd (false≢true e)
    go true false c a h e = absurd (false≢true e)
    go false v c a h e = absurd (false≢true e)
