-- The rule of paths: visible ASCII alone, and the lengths. Assumes nothing.
use Prim.Native.Nat.{ℕ, ◌-◌, ◌≤◌, ◌<◌}
use mathlib.Core.Path.{◌≡◌, refl, sym, ◌∙◌}
use mathlib.Core.Bool.{Bool, true, false, ◌&&◌, false≢true}
use mathlib.Core.List.{List, []}
use native.Mathlib.Omega.{arith}
use borrow.Author.Tests.{le-leb, lt-leb}
use lib.ListN.{length, take, drop, length-drop}
use lib.Seq.{length-take-le}
use Rattle.machine.specs.Names.{Bytes, characters, visible, apart, path_ok}
use Rattle.machine.proofs.Rules.{visible-characters}
use Rattle.names_ascii.specs.Faults.{clean}
use Rattle.names_ascii.proofs.FaultLaws.{clean_is}
use Rattle.names_utf8.proofs.PathLaws.{by_parts}

-- visible ASCII alone is the former rule
pub plain_ok : (p : Bytes) → 1 ≤ length p → length p ≤ 128 → clean 47 p ≡ true → path_ok p ≡ true
plain_ok p l h e = by_parts p l h ∙ go (visible p) (apart 47 p) (characters [] p) (visible-characters p) (sym (clean_is 47 p) ∙ e)
  where
    go : (v a c : Bool) → (v ≡ true → c ≡ true) → (v && a) ≡ true → (c && a) ≡ true
    go true a c f e = rw (f refl) e
    go false a c f e = absurd (false≢true e)

-- the length of a path in a longer list
pub length-between : (t : List ℕ) (from to : ℕ) → from ≤ to → to ≤ length t → length (take (to - from) (drop from t)) ≡ to - from
length-between t from to l room = length-take-le (to - from) (drop from t) (rw (length-drop from t) (omega arith))

pub too_short : (p : Bytes) → length p < 1 → path_ok p ≡ false
unfolding path_ok
too_short p h = rw (lt-leb _ _ h)

pub too_long : (p : Bytes) → 128 < length p → path_ok p ≡ false
unfolding path_ok
too_long p h = let l : 1 ≤ length p = omega arith in rw (le-leb _ _ l, lt-leb _ _ h)
