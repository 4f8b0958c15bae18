-- Where the rows of uploads stand, and what is read of one. Assumes nothing.
use Rattle.std.specs.Prelude.{ℕ, ◌+◌, ◌≡◌, true, List, ◌++◌, length, take, drop}
use Rattle.machine.specs.Map.{is_some, by_number, lookup}
use Rattle.machine.specs.State.{Upload, State}
use Rattle.mem_row.specs.Row.{head_at, head_length}
use Rattle.mem_layout.specs.Memory.{object_rows, upload_rows, rows_of, state_of}
use Rattle.mem_find.specs.declared.RowPlace.{RowPlace}
use Rattle.mem_find.specs.Places.{upload_row_of, passed_parts}
use Rattle.mem_find.specs.RowPlaces.{row_place_at}
use Rattle.call_uploads.specs.declared.rows.OpenUpload.{OpenUpload}

-- the place of the row of the upload that has i before it: after the objects, and those i with their parts
unfoldable pub upload_row_place : State → ℕ → RowPlace
upload_row_place s i = row_place_at (rows_of s) (length (object_rows s.O ++ upload_rows (take i s.U)))

-- the number in the row that stands there
abbrev pub number_at : (t : List ℕ) → RowPlace → ℕ
number_at t here = (head_at (drop here.at t)).number

-- the row of an open upload stands there
abbrev pub IsUpload : (t a : List ℕ) → RowPlace → Type 0
IsUpload t a here =
    (is_some (lookup by_number (number_at t here) (state_of t a).U) ≡ true)
    × (here ≡ upload_row_of (state_of t a) (number_at t here))

-- what is read of the upload x whose row stands there
pub record RowRead (t : List ℕ) (s : State) (here : RowPlace) (x : Upload) (r : OpenUpload) : Type 0 where
  pub from : r.from ≡ here.at + head_length
  pub to : r.to ≡ here.at + head_length + (head_at (drop here.at t)).pathlen
  pub parts : r.parts ≡ length x.parts
  pub next : r.next ≡ (passed_parts s (number_at t here) x).next
