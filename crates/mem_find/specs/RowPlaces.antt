-- The places of rows. Assumes nothing.
use Rattle.std.specs.Prelude.{ℕ, ◌+◌, ◌≤◌, ◌<◌, ◌≡◌, List, ◌∷◌, length, take, drop}
use Rattle.mem_row.specs.declared.Head.{Head}
use Rattle.mem_row.specs.Row.{Row, encode_rows, contents_of, head_of, span}
use Rattle.mem_layout.specs.Header.{header_length}
use Rattle.mem_find.specs.declared.RowPlace.{RowPlace}

-- the place of row i of rs, counted from 0, or after them all
unfoldable pub row_place_at : List Row → ℕ → RowPlace
row_place_at rs i = record { row = i; at = header_length + length (encode_rows (take i rs)); base = length (contents_of (take i rs)) }

-- p is the place of one of the rows rs
abbrev pub IsRow : List Row → RowPlace → Type 0
IsRow rs p = (p ≡ row_place_at rs p.row) × (p.row < length rs)

-- p is the place of one of the rows rs, or after them all
abbrev pub IsRowPlace : List Row → RowPlace → Type 0
IsRowPlace rs p = (p ≡ row_place_at rs p.row) × (p.row ≤ length rs)

-- h is the head of the row of rs at p, and tells where the next one stands
pub record HeadAt (rs : List Row) (p : RowPlace) (h : Head) : Type 0 where
  pub row : Row
  pub here : drop p.row rs ≡ row ∷ drop (p.row + 1) rs
  pub same : h ≡ head_of row
  pub next : record { row = p.row + 1; at = p.at + span h; base = p.base + h.size } ≡ row_place_at rs (p.row + 1)
