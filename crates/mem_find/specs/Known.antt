-- What a reader asks of memory, and what it tells of an open upload. Assumes nothing.
use Rattle.std.specs.Prelude.{ℕ, ◌≡◌, true, List}
use Rattle.std.proofs.Math.Option.{some}
use Rattle.machine.specs.Map.{is_some, by_number, lookup}
use Rattle.machine.specs.Names.{Bytes}
use Rattle.machine.specs.State.{Upload, State}
use Rattle.mem_row.specs.Row.{Row}
use Rattle.mem_layout.specs.Memory.{whole, state_of, rows_of}
use Rattle.mem_find.specs.declared.RowPlace.{RowPlace}
use Rattle.mem_find.specs.declared.Lookup.{Lookup}
use Rattle.mem_find.specs.Places.{place_after, object_place, upload_row_of, parts_row_of}
use Rattle.mem_find.specs.RowPlaces.{IsRow, IsRowPlace}

module _ (t a : List ℕ) where
  -- the rows of the state that t and a stand for
  abbrev pub rows_in : List Row
  rows_in = rows_of (state_of t a)

  -- t and a are whole, and upload u is open
  abbrev pub WholeOpen : ℕ → Type 0
  WholeOpen u = (whole t a ≡ true) × (is_some (lookup by_number u (state_of t a).U) ≡ true)

  -- t and a are whole, and p is the place of an open upload's row
  abbrev pub WholeOpenAt : RowPlace → Type 0
  WholeOpenAt p =
      (whole t a ≡ true)
      × ((u : ℕ) × (p ≡ upload_row_of (state_of t a) u) × (is_some (lookup by_number u (state_of t a).U) ≡ true))

  -- t and a are whole, and p is the place of a row
  abbrev pub WholeRow : RowPlace → Type 0
  WholeRow p = (whole t a ≡ true) × IsRow rows_in p

  -- t and a are whole, and p is the place of a row, or after them all
  abbrev pub WholePlace : RowPlace → Type 0
  WholePlace p = (whole t a ≡ true) × IsRowPlace rows_in p

  -- t and a are whole, and l is what the lookup of some path answers
  abbrev pub WholeLookup : Lookup → Type 0
  WholeLookup l = (whole t a ≡ true) × ((p : Bytes) × (l ≡ object_place (state_of t a) p))

  -- place is what the lookup of path answers, and end the end of the rows
  abbrev pub ObjectPlaced : (path : Bytes) → Lookup → RowPlace → Type 0
  ObjectPlaced path place end = (place ≡ object_place (state_of t a) path) × (end ≡ place_after rows_in)

  -- what holds of a path whose lookup answers l
  abbrev pub OfPath : Lookup → (State → Bytes → Type 0) → Type 0
  OfPath l P = (p : Bytes) → l ≡ object_place (state_of t a) p → P (state_of t a) p

  -- what holds of upload u where it is open; of the open upload whose row is at p; of the one whose row is before p
  abbrev pub OfOpen : ℕ → (State → Upload → Type 0) → Type 0
  OfOpen u P = (x : Upload) → lookup by_number u (state_of t a).U ≡ some x → P (state_of t a) x

  abbrev pub OfOpenAt : RowPlace → (State → ℕ → Upload → Type 0) → Type 0
  OfOpenAt p P =
      (u : ℕ) (x : Upload) → p ≡ upload_row_of (state_of t a) u → lookup by_number u (state_of t a).U ≡ some x
      → P (state_of t a) u x

  abbrev pub OfOpenBefore : RowPlace → (State → ℕ → Upload → Type 0) → Type 0
  OfOpenBefore p P =
      (u : ℕ) (x : Upload) → p ≡ parts_row_of (state_of t a) u → lookup by_number u (state_of t a).U ≡ some x
      → P (state_of t a) u x
