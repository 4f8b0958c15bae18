-- Tests in a list, and what the rules of names say in numbers. Assumes nothing.
use Prim.Native.Nat.{ℕ, ◌≤◌, ◌<◌, ◌^◌}
use mathlib.Core.Path.{◌≡◌, refl}
use mathlib.Core.Bool.{Bool, true, ◌&&◌}
use mathlib.Core.List.{List, [], ◌∷◌}
use native.Mathlib.Omega.{arith}
use borrow.Author.Tests.{leb-true, le-leb}
use lib.Dec.{leb}
use lib.ListN.{length}
use Rattle.machine.specs.Names.{Bytes, path_ok, stored_path_ok, stamp_ok, number_ok, stored_part_ok}
use Rattle.mem_row.specs.Row.{Row, Encodable}
use Rattle.mem_row.proofs.RowLaws.{and_left, and_right, and_both}
use Rattle.mem_layout.specs.Rules.{all}

abbrev pub AllTrue : List Bool → Type 0
AllTrue [] = Unit {0}
AllTrue (b ∷ bs) = (b ≡ true) × AllTrue bs

pub all_true : (bs : List Bool) → all bs ≡ true → AllTrue bs
unfolding all
all_true [] e = tt
all_true (b ∷ bs) e = (and_left b (all bs) e, all_true bs (and_right b (all bs) e))

pub true-all : (bs : List Bool) → AllTrue bs → all bs ≡ true
unfolding all
true-all [] h = refl
true-all (b ∷ bs) h = and_both b (all bs) h.0 (true-all bs h.1)

pub nil-of-length : {A : Type 0} (l : List A) → length l ≡ 0 → [] ≡ l
nil-of-length [] e = refl
nil-of-length (x ∷ l) e = absurd (omega arith)

-- a row without pairs has no lengths
pub no_lengths : (r : Row) → Encodable r → 0 ≡ r.pairs → [] ≡ r.lengths
no_lengths r f e = nil-of-length r.lengths (let l = f.lengths in omega arith)

pub record Between (low n high : ℕ) : Type 0 where
  pub above : low ≤ n
  pub below : n ≤ high

between : (low n high : ℕ) → (leb low n && leb n high) ≡ true → Between low n high
between low n high e = record { above = leb-true _ _ (and_left (leb low n) _ e); below = leb-true _ _ (and_right (leb low n) _ e) }

pub stored-path-length : (p : Bytes) → stored_path_ok p ≡ true → Between 1 (length p) 128
unfolding stored_path_ok path_ok
stored-path-length p e = between 1 (length p) 128 (and_left (leb 1 (length p) && leb (length p) 128) _ (and_left _ _ e))

pub stamp-range : (t : ℕ) → stamp_ok t ≡ true → Between 1 t 18446744073709551615
unfolding stamp_ok
stamp-range t e = between 1 t 18446744073709551615 e

pub stamp-ok : (t : ℕ) → 1 ≤ t → t < 256 ^ 8 → stamp_ok t ≡ true
unfolding stamp_ok
stamp-ok t l h = and_both _ _ (le-leb _ _ l) (le-leb t 18446744073709551615 (omega arith))

pub stored-part-range : (n : ℕ) → stored_part_ok n ≡ true → Between 1 n 11000
unfolding stored_part_ok number_ok
stored-part-range n e = between 1 n 11000 e
