-- A search along the rows, row by row. Assumes nothing.
use Prim.Native.Nat.{ℕ, suc, ◌+◌, ◌≤◌}
use mathlib.Core.Path.{◌≡◌, sym, ap, ◌∙◌}
use mathlib.Core.Bool.{true, false, ◌&&◌}
use mathlib.Core.List.{List}
use native.Mathlib.Nat.{add-zero}
use native.Mathlib.Omega.{arith}
use lib.Dec.{eqb}
use lib.ListN.{length, drop, drop_of_length-le}
use Rattle.mem_row.specs.declared.Head.{Head}
use Rattle.mem_row.specs.Row.{Row, head_of}
use Rattle.mem_find.specs.declared.RowPlace.{RowPlace}
use Rattle.mem_find_uploads.specs.Search.{Goal}
use Rattle.mem_find.specs.RowPlaces.{row_place_at, HeadAt}
use Rattle.mem_find_uploads.specs.Search.{reach, stops_at, stops_of, sought, leads}
pub use Rattle.mem_find.proofs.RowHeads.{row_place, Reached, reached-place, place-reached, rows_few, Turn, row_inside, row-turn}

-- The search --------------------------------------------------------------------------------------------------------------

module _ (g : Goal) (rs : List Row) (i : ℕ) where
  pub sought-end : length rs ≤ i → sought g rs i ≡ row_place_at rs i
  unfolding sought reach
  sought-end l = rw (drop_of_length-le rs l, add-zero)

module _ (g : Goal) (rs : List Row) (p : RowPlace) (h : Head) (k : HeadAt rs p h) where
  pub sought-here : stops_at g h ≡ true → sought g rs p.row ≡ row_place_at rs p.row
  unfolding sought reach
  sought-here q = let same : stops_at g (head_of k.row) ≡ true = ap (stops_at g) (sym k.same) ∙ q in rw (k.here, same, add-zero)

  pub sought-on : stops_at g h ≡ false → sought g rs p.row ≡ sought g rs (p.row + 1)
  unfolding sought reach
  sought-on q =
      let n = reach (stops_of g) (drop (p.row + 1) rs) in
      let m : p.row + suc n ≡ p.row + 1 + n = omega arith in
      let same : stops_at g (head_of k.row) ≡ false = ap (stops_at g) (sym k.same) ∙ q in
      rw (k.here, same) (ap (row_place_at rs) m)

pub leads-none : (kind number : ℕ) (rs : List Row) (i : ℕ) → length rs ≤ i → leads kind number (drop i rs) ≡ false
unfolding leads
leads-none kind number rs i l = rw (drop_of_length-le rs l)

pub leads-row : (kind number : ℕ) (rs : List Row) (p : RowPlace) (h : Head) → HeadAt rs p h → leads kind number (drop p.row rs) ≡ (eqb h.kind kind && eqb h.number number)
unfolding leads
leads-row kind number _ p h k = ap (leads kind number) k.here ∙ ap (λ (h : Head). eqb h.kind kind && eqb h.number number) (sym k.same)
