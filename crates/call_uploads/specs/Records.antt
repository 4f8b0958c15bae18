-- The record of an upload: by its values, by its row, and all that UPLOADS writes. Assumes nothing.
use Rattle.std.specs.Prelude.{ℕ, ◌+◌, List, ◌∷◌, ◌++◌, length, take, drop}
use Rattle.base_number.specs.Number.{le}
use Rattle.machine.specs.Map.{records}
use Rattle.machine.specs.Names.{Bytes}
use Rattle.machine.specs.State.{State}
use Rattle.machine.specs.Steps.{open_under, upload_record}
use Rattle.mem_row.specs.Row.{head_at, head_length}

-- "number (4), path length (1), path, started (8), count of parts (2)"
unfoldable pub record_of : (number : ℕ) (path : Bytes) (started parts : ℕ) → Bytes
record_of u p t n = le 4 u ++ (length p ∷ p ++ (le 8 t ++ le 2 n))

-- the path in the row at `at`
abbrev pub path_from : (t : List ℕ) (at : ℕ) → Bytes
path_from t at = take (head_at (drop at t)).pathlen (drop (at + head_length) t)

-- the record of the upload in the row at `at`, which has so many parts
unfoldable pub record_at : (t : List ℕ) (at parts : ℕ) → Bytes
record_at t at n = record_of (head_at (drop at t)).number (path_from t at) (head_at (drop at t)).stamp n

-- all that UPLOADS writes
abbrev pub records_under : (prefix : Bytes) → State → Bytes
records_under prefix s = records upload_record (open_under prefix s.U)
