-- "Bytes beyond that meaning are free." Assumes nothing.
use Rattle.std.specs.Prelude.{ℕ, ◌+◌, ◌≡◌, List, length, take}
use Rattle.machine.specs.State.{State, held}
use Rattle.mem_row.specs.Row.{encode_rows}
use Rattle.mem_layout.specs.Header.{header_length}
use Rattle.mem_layout.specs.Memory.{rows_of}

-- how many bytes of the tables a state takes: its header and its rows; the others are free
unfoldable pub tables_used : State → ℕ
tables_used s = header_length + length (encode_rows (rows_of s))

-- Other tables and another arena of the same lengths, the same in the bytes that s takes. In the arena s takes the bytes held.
pub record SameButFree (s : State) (t a t' a' : List ℕ) : Type 0 where
  pub tables-length : length t' ≡ length t
  pub arena-length : length a' ≡ length a
  pub tables : take (tables_used s) t' ≡ take (tables_used s) t
  pub arena : take (held s) a' ≡ take (held s) a
