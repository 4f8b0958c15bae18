-- The layout before E6, written: tables and arena of a state, which has no pairs. Assumes nothing.
use Rattle.std.specs.Prelude.{ℕ, ◌≤◌, ◌≡◌, List, [], ◌∷◌, ◌++◌, length, replicate}
use Rattle.base_number.specs.Number.{le}
use Rattle.machine.specs.Map.{Map, Every, total}
use Rattle.machine.specs.Names.{Bytes}
use Rattle.machine.specs.Etags.{Etag, absent, plain, joined, count_of, digest_of}
use Rattle.machine.specs.State.{Object, Part, Upload, State, parts_in}
use Rattle.machine.specs.Valid.{Valid}
use Rattle.mem_former.specs.FormerRow.{FormerRow, former_row_bytes}

-- the kind of an object's row, by its etag
abbrev pub former_kind : Etag → ℕ
former_kind absent = 0
former_kind (plain digest) = 0
former_kind (joined digest count) = 1

-- the row of an object, of an upload, and of a part
abbrev pub former_object_row : Bytes → Object → FormerRow
former_object_row p x =
    record { number = 0; stamp = x.created; kind = former_kind x.etag; count = count_of x.etag; digest = digest_of x.etag; path = p; content = x.content }

abbrev pub former_upload_row : ℕ → Upload → FormerRow
former_upload_row u x = record { number = u; stamp = x.started; kind = 2; count = 0; digest = replicate 16 0; path = x.path; content = [] }

abbrev pub former_part_row : ℕ → Part → FormerRow
former_part_row n y = record { number = n; stamp = 0; kind = 3; count = 0; digest = y.digest; path = []; content = y.content }

-- the rows of a map; after each upload, its parts
unfoldable pub rows_of_objects : Map Bytes Object → List FormerRow
rows_of_objects [] = []
rows_of_objects (e ∷ m) = former_object_row e.0 e.1 ∷ rows_of_objects m

unfoldable pub rows_of_parts : Map ℕ Part → List FormerRow
rows_of_parts [] = []
rows_of_parts (e ∷ m) = former_part_row e.0 e.1 ∷ rows_of_parts m

unfoldable pub rows_of_uploads : Map ℕ Upload → List FormerRow
rows_of_uploads [] = []
rows_of_uploads (e ∷ m) = former_upload_row e.0 e.1 ∷ (rows_of_parts e.1.parts ++ rows_of_uploads m)

-- objects, then uploads with their parts
unfoldable pub former_rows_of : State → List FormerRow
former_rows_of s = rows_of_objects s.O ++ rows_of_uploads s.U

-- the header over an arena of A bytes: A in 4 bytes, N in 8, how many objects, uploads and parts in 2 each
unfoldable pub former_header_bytes : (A : ℕ) → State → List ℕ
former_header_bytes A s = le 4 A ++ le 8 s.N ++ le 2 (length s.O) ++ le 2 (length s.U) ++ le 2 (total parts_in s.U)

-- rows end to end, and their data end to end
unfoldable pub former_rows_bytes : List FormerRow → List ℕ
former_rows_bytes [] = []
former_rows_bytes (r ∷ rs) = former_row_bytes r ++ former_rows_bytes rs

unfoldable pub former_data : List FormerRow → List ℕ
former_data [] = []
former_data (r ∷ rs) = r.content ++ former_data rs

-- E6: "with no pairs": no object and no open upload has one
pub record WithoutPairs (s : State) : Type 0 where
  pub objects : Every (λ p x. x.pairs ≡ []) s.O
  pub uploads : Every (λ u x. x.pairs ≡ []) s.U

-- Tables t and arena a stood for s: they are the bytes of s, each followed by free bytes.
pub record FormerStands (t a : List ℕ) (s : State) : Type 0 where
  pub size : length t ≡ 53842
  pub small : length a ≤ 1048576
  pub valid : Valid (length a) s
  pub no_pairs : WithoutPairs s
  pub tables-free : List ℕ
  pub tables : t ≡ former_header_bytes (length a) s ++ (former_rows_bytes (former_rows_of s) ++ tables-free)
  pub arena-free : List ℕ
  pub arena : a ≡ former_data (former_rows_of s) ++ arena-free
