-- Where an upload's rows, its block and its parts' data begin and end, and how many rows there are. Assumes nothing.
use Rattle.std.specs.Prelude.{ℕ, ◌+◌, ◌-◌, ◌≤◌, List, length}
use Rattle.machine.specs.State.{Upload, State}
use Rattle.pairs_stored.specs.Stored.{pair_bytes}
use Rattle.mem_row.specs.Row.{encode_rows, contents_of}
use Rattle.mem_layout.specs.Header.{header_length}
use Rattle.mem_layout.specs.Memory.{part_rows, rows_of}
use Rattle.mem_find.specs.declared.RowPlace.{RowPlace}
use Rattle.mem_find.specs.Places.{before_upload, before_parts, through_parts}
use Rattle.mem_join.specs.declared.Bounds.{Bounds}

-- the bounds follow one another inside t and a
abbrev pub Inside : (t a : List ℕ) → Bounds → Type 0
Inside t a b =
    (header_length ≤ b.at) × (b.at ≤ b.after) × (b.after ≤ b.used) × (b.used ≤ length t)
    × (b.base + b.size ≤ b.held) × (b.held ≤ length a) × (1 + b.count ≤ b.rows)

unfoldable pub bounds_of : State → ℕ → Upload → Bounds
bounds_of s u x =
    record {
      at = header_length + length (encode_rows (before_upload s u));
      first = header_length + length (encode_rows (before_parts s u x));
      after = header_length + length (encode_rows (through_parts s u x));
      used = header_length + length (encode_rows (rows_of s));
      base = length (contents_of (before_upload s u));
      parts = length (contents_of (before_parts s u x));
      size = length (pair_bytes x.pairs) + length (contents_of (part_rows x.parts));
      held = length (contents_of (rows_of s));
      count = length x.parts;
      rows = length (rows_of s);
    }

-- where the rows end once the upload's are cut out
abbrev pub end_after : Bounds → RowPlace
end_after b = record { row = b.rows - (1 + b.count); at = b.used - (b.after - b.at); base = b.held - b.size }
