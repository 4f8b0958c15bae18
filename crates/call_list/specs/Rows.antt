-- What LIST writes: for a row, and for a state. Assumes nothing.
use Rattle.std.specs.Prelude.{ℕ, ◌+◌, ◌-◌, ◌*◌, ◌<◌, ◌≡◌, cond, List, [], ◌∷◌, ◌++◌, length, take, drop}
use Rattle.base_number.specs.Number.{le, from_le}
use Rattle.machine.specs.Map.{records}
use Rattle.machine.specs.Names.{Bytes}
use Rattle.machine.specs.Etags.{text}
use Rattle.machine.specs.State.{State}
use Rattle.machine.specs.Steps.{is_listed, listed, list_record}
use Rattle.pairs_stored.specs.Stored.{sum_of}
use Rattle.mem_row.specs.Row.{encode_rows, head_at, digest_at, path_at, lengths_at}
use Rattle.mem_layout.specs.Header.{header_length}
use Rattle.mem_layout.specs.Memory.{object_rows, row_etag}

-- the text of the etag in the row at the front of t
unfoldable pub text_at : List ℕ → Bytes
text_at t = text (row_etag (head_at t).kind (digest_at t) (head_at t).count)

-- the record of the object in the row at the front of t
unfoldable pub record_at : List ℕ → Bytes
record_at t = (head_at t).pathlen ∷ path_at t ++ (le 4 ((head_at t).size - sum_of (lengths_at t)) ++ (le 8 (head_at t).stamp ++ length (text_at t) ∷ text_at t))

-- what LIST writes for that row
unfoldable pub listed_bytes : (prefix suffix : Bytes) (t : List ℕ) → Bytes
listed_bytes prefix suffix t = cond (is_listed prefix suffix (path_at t)) (record_at t) []

-- all that LIST writes
abbrev pub list_bytes : (prefix suffix : Bytes) → State → Bytes
list_bytes prefix suffix s = records list_record (listed prefix suffix s.O)

-- where the row of object i stands in the tables
abbrev pub row_of : State → ℕ → ℕ
row_of s i = header_length + length (encode_rows (object_rows (take i s.O)))

-- place k of `places` says where the row of a listed object stands that has k listed ones before it
pub record ListedAt (s : State) (prefix suffix : Bytes) (places : List ℕ) (k : ℕ) : Type 0 where
  pub object : ℕ
  pub within : object < length s.O
  pub place : from_le (take 2 (drop (2 * k) places)) ≡ row_of s object
  pub before : length (listed prefix suffix (take object s.O)) ≡ k
  pub through : length (listed prefix suffix (take (object + 1) s.O)) ≡ k + 1

-- the first n places do
abbrev pub AllListed : (s : State) (prefix suffix : Bytes) (places : List ℕ) (n : ℕ) → Type 0
AllListed s prefix suffix places n = (k : ℕ) → k < n → ListedAt s prefix suffix places k
