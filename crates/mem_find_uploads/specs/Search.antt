-- Searches along the rows. Assumes nothing.
use Rattle.std.specs.Prelude.{ℕ, suc, ◌+◌, Bool, false, ◌&&◌, ◌||◌, cond, List, [], ◌∷◌, leb, ltb, eqb, drop}
use Rattle.mem_row.specs.declared.Head.{Head}
use Rattle.mem_row.specs.Row.{Row, head_of}
use Rattle.mem_layout.specs.Rules.{upload_kind}
use Rattle.mem_find.specs.declared.RowPlace.{RowPlace}
use Rattle.mem_find.specs.RowPlaces.{row_place_at}

-- how many rows stand before the first that passes a test
unfoldable pub reach : (Row → Bool) → List Row → ℕ
reach stop [] = 0
reach stop (r ∷ rs) = cond (stop r) 0 (suc (reach stop rs))

-- Where a search stops: after all rows; at the upload with a number, or the first above it; at the next upload; at the part with a number,
-- the first above it, or the next upload; at the next upload that started before a stamp.
pub data Goal : Type 0 where
  End : Goal
  Upload : (number : ℕ) → Goal
  NextUpload : Goal
  Part : (number : ℕ) → Goal
  Due : (stamp : ℕ) → Goal

-- whether a search with a goal stops at a row
unfoldable pub stops_at : Goal → Head → Bool
stops_at End h = false
stops_at (Upload u) h = eqb h.kind upload_kind && leb u h.number
stops_at NextUpload h = eqb h.kind upload_kind
stops_at (Part n) h = eqb h.kind upload_kind || leb n h.number
stops_at (Due t) h = eqb h.kind upload_kind && ltb h.stamp t

abbrev pub stops_of : Goal → Row → Bool
stops_of g r = stops_at g (head_of r)

-- the first row, from row i on, at which the search stops, or the end of the rows
unfoldable pub sought : Goal → List Row → ℕ → RowPlace
sought g rs i = row_place_at rs (i + reach (stops_of g) (drop i rs))

-- the row of the first upload, from row i on, that started before a stamp, or the end of the rows
abbrev pub due_from : (stamp : ℕ) → List Row → ℕ → RowPlace
due_from t = sought (Due t)

-- the first row is of this kind and has this number
unfoldable pub leads : (kind number : ℕ) → List Row → Bool
leads kind number [] = false
leads kind number (r ∷ rs) = eqb r.kind kind && eqb r.number number
