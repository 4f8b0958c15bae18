-- Rows passed one by one: what is read of a row, and where rows end. Assumes nothing.
use Rattle.std.specs.Prelude.{ℕ, zero, suc, ◌+◌, ◌*◌, cond, List, drop}
use Rattle.mem_row.specs.declared.Head.{Head}
use Rattle.mem_row.specs.Row.{head_at, inside, head_length}
use Rattle.mem_scan_rows.specs.declared.Offset.{Offset}
use Rattle.mem_layout.specs.Header.{header_length}
use Rattle.std.specs.Prelude.{Option, Some, None}

-- the head of the row at the front of t, where the row is all in t and its data all in a
unfoldable pub reading_of : (t a : List ℕ) → Option Head
reading_of t a = cond (inside t a) (Some (head_at t)) None

-- after a row with this head
abbrev pub past : Offset → Head → Offset
past o h = record { at = o.at + head_length + h.pathlen + 2 * h.pairs; base = o.base + h.size }

-- after n rows
unfoldable pub past_all : ℕ → Offset → (t : List ℕ) → Offset
past_all zero o t = o
past_all (suc n) o t = past_all n (past o (head_at (drop o.at t))) t

-- the first row stands after the header
abbrev pub first : Offset
first = record { at = header_length; base = 0 }
