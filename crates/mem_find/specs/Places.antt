-- Where the rows of a state stand. Assumes nothing.
use Rattle.std.specs.Prelude.{ℕ, suc, ◌+◌, ◌≤◌, ◌≡◌, Bool, List, [], ◌∷◌, ◌++◌, length, take, drop}
use Rattle.base_order.specs.Order.{by_bytes}
use Rattle.machine.specs.Map.{is_some, by_number, lookup, place}
use Rattle.machine.specs.Names.{Bytes}
use Rattle.machine.specs.State.{Upload, State}
use Rattle.mem_row.specs.Row.{Row, encode_rows, contents_of}
use Rattle.mem_layout.specs.Memory.{object_rows, upload_row, part_rows, upload_rows, rows_of}
use Rattle.mem_find.specs.declared.RowPlace.{RowPlace}
use Rattle.mem_layout.specs.Header.{header_length}
use Rattle.mem_find.specs.declared.Lookup.{Lookup}
use Rattle.mem_find.specs.declared.PassedParts.{PassedParts}
use Rattle.mem_find.specs.RowPlaces.{row_place_at}

-- a lookup that answers a place, and the place that a lookup answers
abbrev pub lookup_of : (found : Bool) → RowPlace → Lookup
lookup_of found p = record { found = found; row = p.row; at = p.at; base = p.base }

abbrev pub place_of : Lookup → RowPlace
place_of l = record { row = l.row; at = l.at; base = l.base }

-- the place of the row that follows the rows rs, and a lookup that answers it
abbrev pub place_after : List Row → RowPlace
place_after rs = record { row = length rs; at = header_length + length (encode_rows rs); base = length (contents_of rs) }

abbrev pub lookup_after : (found : Bool) → List Row → Lookup
lookup_after found rs = lookup_of found (place_after rs)

-- the rows before those of the object at a path, of an upload, of an upload's parts, of a part, and of what follows an
-- upload's parts
unfoldable pub before_object : State → Bytes → List Row
before_object s p = object_rows (take (place by_bytes p s.O) s.O)

unfoldable pub before_upload : State → ℕ → List Row
before_upload s u = object_rows s.O ++ upload_rows (take (place by_number u s.U) s.U)

unfoldable pub before_parts : State → ℕ → Upload → List Row
before_parts s u x = before_upload s u ++ (upload_row u x ∷ [])

unfoldable pub before_part : State → ℕ → Upload → ℕ → List Row
before_part s u x n = before_parts s u x ++ part_rows (take (place by_number n x.parts) x.parts)

unfoldable pub through_parts : State → ℕ → Upload → List Row
through_parts s u x = before_parts s u x ++ part_rows x.parts

-- the rows from the place of an object, of an upload, of a part on, and those after the object, the upload with its parts, the part
unfoldable pub from_object : State → Bytes → List Row
from_object s p = object_rows (drop (place by_bytes p s.O) s.O) ++ upload_rows s.U

unfoldable pub after_object : State → Bytes → List Row
after_object s p = object_rows (drop (suc (place by_bytes p s.O)) s.O) ++ upload_rows s.U

unfoldable pub from_upload : State → ℕ → List Row
from_upload s u = upload_rows (drop (place by_number u s.U) s.U)

unfoldable pub after_upload : State → ℕ → List Row
after_upload s u = upload_rows (drop (suc (place by_number u s.U)) s.U)

unfoldable pub from_part : State → ℕ → Upload → ℕ → List Row
from_part s u x n = part_rows (drop (place by_number n x.parts) x.parts) ++ after_upload s u

unfoldable pub after_part : State → ℕ → Upload → ℕ → List Row
after_part s u x n = part_rows (drop (suc (place by_number n x.parts)) x.parts) ++ after_upload s u

-- what the lookup of an object, of an upload, of a part answers
unfoldable pub object_place : State → Bytes → Lookup
object_place s p = lookup_after (is_some (lookup by_bytes p s.O)) (before_object s p)

unfoldable pub upload_place : State → ℕ → Lookup
upload_place s u = lookup_after (is_some (lookup by_number u s.U)) (before_upload s u)

unfoldable pub part_place : State → ℕ → Upload → ℕ → Lookup
part_place s u x n = lookup_after (is_some (lookup by_number n x.parts)) (before_part s u x n)

-- the place of an upload's row, or where it would stand, and of the row after it: its first part's, where it has one
abbrev pub upload_row_of : State → ℕ → RowPlace
upload_row_of s u = row_place_at (rows_of s) (length (before_upload s u))

abbrev pub parts_row_of : State → ℕ → RowPlace
parts_row_of s u = row_place_at (rows_of s) (length (before_upload s u) + 1)

-- the place of the first upload's row, or where it would stand: after the objects
abbrev pub first_upload_row : State → RowPlace
first_upload_row s = row_place_at (rows_of s) (length (object_rows s.O))

-- how many parts an upload has, and the place of the row after them
unfoldable pub passed_parts : State → ℕ → Upload → PassedParts
passed_parts s u x = record { count = length x.parts; next = place_after (through_parts s u x) }

-- the paths of the first i objects are below p, and the next row begins at `at`
pub record Passed (s : State) (p : Bytes) (i at base : ℕ) : Type 0 where
  pub within : i ≤ length s.O
  pub rows : at ≡ header_length + length (encode_rows (object_rows (take i s.O)))
  pub contents : base ≡ length (contents_of (object_rows (take i s.O)))
  pub places : place by_bytes p s.O ≡ i + place by_bytes p (drop i s.O)
  pub found : lookup by_bytes p s.O ≡ lookup by_bytes p (drop i s.O)
