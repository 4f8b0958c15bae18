-- Document 01, "The machine": its state, what is held, and the ceilings. Assumes nothing.
use Rattle.std.specs.Prelude.{ℕ, ◌+◌, Bool, ◌&&◌, [], leb, length}
use Rattle.base_order.specs.Order.{by_bytes}
use Rattle.machine.specs.Map.{Map, by_number, insert, remove, total}
use Rattle.machine.specs.Names.{Bytes}
use Rattle.machine.specs.Pairs.{pairs_held}
use Rattle.machine.specs.Etags.{Etag}

-- "O maps paths to (data, created, etag)"; E6: and pairs of key and value
pub record Object : Type 0 where
  pub content : Bytes
  pub created : ℕ
  pub etag : Etag
  pub pairs : Map Bytes Bytes

-- "parts maps part numbers to (data, plain etag)"
pub record Part : Type 0 where
  pub content : Bytes
  pub digest : Bytes

-- "U maps upload numbers to (path, started, parts)"; E6: and pairs
pub record Upload : Type 0 where
  pub path : Bytes
  pub started : ℕ
  pub pairs : Map Bytes Bytes
  pub parts : Map ℕ Part

-- "N is the number that the coming upload gets"
pub record State : Type 0 where
  pub O : Map Bytes Object
  pub U : Map ℕ Upload
  pub N : ℕ

-- "FRESH gives O and U empty and N = 1"
abbrev pub fresh : State
fresh = record { O = []; U = []; N = 1 }

-- the state with another O, and with another U
abbrev pub with_o : State → Map Bytes Object → State
with_o s o = record { O = o; U = s.U; N = s.N }

abbrev pub with_u : State → Map ℕ Upload → State
with_u s u = record { O = s.O; U = u; N = s.N }

-- O at a path becomes x; the path leaves O
abbrev pub with_object : State → Bytes → Object → State
with_object s p x = with_o s (insert by_bytes p x s.O)

abbrev pub without_object : State → Bytes → State
without_object s p = with_o s (remove by_bytes p s.O)

-- U at a number becomes x; the upload leaves U
abbrev pub with_upload : State → ℕ → Upload → State
with_upload s u x = with_u s (insert by_number u x s.U)

abbrev pub without_upload : State → ℕ → State
without_upload s u = with_u s (remove by_number u s.U)

-- the number that the next upload gets is one more
abbrev pub with_next : State → State
with_next s = record { O = s.O; U = s.U; N = s.N + 1 }

-- the upload with a part set; "path, start and other parts remain", E6: and pairs
abbrev pub with_part : Upload → ℕ → Part → Upload
with_part x n y = record { path = x.path; started = x.started; pairs = x.pairs; parts = insert by_number n y x.parts }

-- E6: "Key and value bytes count as held."
abbrev pub object_length : Object → ℕ
object_length x = pairs_held x.pairs + length x.content

abbrev pub part_length : Part → ℕ
part_length y = length y.content

abbrev pub upload_length : Upload → ℕ
upload_length x = pairs_held x.pairs + total part_length x.parts

abbrev pub parts_in : Upload → ℕ
parts_in x = length x.parts

-- ""Held" is the sum of the lengths of all data in O and in all parts of U"; E6: and of the pairs of both
unfoldable pub held : State → ℕ
held s = total object_length s.O + total upload_length s.U

-- "256 paths in O, 16 uploads in U, 256 parts over all uploads"
unfoldable pub counted : State → Bool
counted s = leb (length s.O) 256 && leb (length s.U) 16 && leb (total parts_in s.U) 256
