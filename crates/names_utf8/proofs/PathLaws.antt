-- The rule of paths by its parts, and a character passed. Assumes nothing.
use Prim.Native.Nat.{ℕ, ◌+◌, ◌≤◌}
use mathlib.Core.Path.{◌≡◌}
use mathlib.Core.Bool.{true, false, ◌&&◌, and-false}
use mathlib.Core.List.{[]}
use borrow.Author.Tests.{le-leb, lt-ltb}
use lib.Dec.{eqb}
use lib.ListN.{length, get_or, drop, drop_of_length-le}
use Rattle.machine.specs.Names.{Bytes, characters, apart, path_ok}
use Rattle.names_utf8.specs.Letters.{Letter}

pub by_parts : (p : Bytes) → 1 ≤ length p → length p ≤ 128 → path_ok p ≡ (characters [] p && apart 47 p)
unfolding path_ok
by_parts p l h = rw (le-leb _ _ l, le-leb _ _ h)

-- a character passed, in a path of letters
module _ (p : Bytes) (i before w : ℕ) (l : Letter p i w) where
  pub letter-none : w ≡ 0 → (characters [] (drop i p) && apart before (drop i p)) ≡ false
  letter-none e = rw (l.rest, e)

  pub letter-doubled : 1 ≤ w → (eqb before 47 && eqb (get_or p i 0) 47) ≡ true → (characters [] (drop i p) && apart before (drop i p)) ≡ false
  letter-doubled some e = rw (l.parted before some, e) (and-false (characters [] (drop i p)))

  pub letter-passed : 1 ≤ w → (eqb before 47 && eqb (get_or p i 0) 47) ≡ false
      → (characters [] (drop i p) && apart before (drop i p)) ≡ (characters [] (drop (i + w) p) && apart (get_or p i 0) (drop (i + w) p))
  letter-passed some e = rw (l.parted before some, e, l.rest, lt-ltb 0 w some)

pub letters-end : (p : Bytes) (i before : ℕ) → length p ≤ i → (characters [] (drop i p) && apart before (drop i p)) ≡ true
letters-end p i before h = rw (drop_of_length-le p h)
