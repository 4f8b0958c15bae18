-- The row that gives way to another, and what the other asks of the tables. Assumes nothing.
use Rattle.std.specs.Prelude.{ℕ, ◌+◌, ◌*◌, ◌≤◌, ◌<◌, Bool, cond, List, length}
use Rattle.mem_row.specs.declared.Head.{Head}
use Rattle.mem_row.specs.Row.{head_length, span}
use Rattle.mem_layout.specs.Header.{header_length}
use Rattle.mem_edit.specs.declared.rows.OldRow.{OldRow}

-- no row, or the one with head h: how many that is, and what it takes in tables and arena
abbrev pub old_row_at : (found : Bool) (h : Head) → OldRow
old_row_at found h = record { rows = cond found 1 0; length = cond found (span h) 0; size = cond found h.size 0 }

-- a row with head h may stand where n bytes of rows stand at `at`, and `used` bytes of t are used
pub record Replaceable (t : List ℕ) (at n used : ℕ) (h : Head) (path lengths : List ℕ) : Type 0 where
  pub past-header : header_length ≤ at
  pub within : at + n ≤ used
  pub inside : used ≤ length t
  pub short : length path ≤ 128
  pub few : length lengths ≤ 16
  pub shared : h.kind + 4 * h.pairs < 256
  pub room : used + (head_length + length path + length lengths) ≤ length t + n
