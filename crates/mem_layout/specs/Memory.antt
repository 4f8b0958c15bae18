-- What tables and arena stand for, and the test "whole". Assumes nothing.
use Rattle.std.specs.Prelude.{ℕ, ◌+◌, ◌≤◌, ◌≡◌, Bool, cond, List, [], ◌∷◌, ◌++◌, leb, eqb, length, drop}
use Rattle.machine.specs.Map.{Map}
use Rattle.machine.specs.Names.{Bytes}
use Rattle.machine.specs.Pairs.{pairs_most}
use Rattle.machine.specs.Etags.{Etag, absent, plain, joined, count_of, digest_of}
use Rattle.machine.specs.State.{Object, Part, Upload, State}
use Rattle.machine.specs.Valid.{Valid}
use Rattle.pairs_stored.specs.Stored.{pair_lengths, pair_bytes, sum_of, pairs_at}
use Rattle.mem_row.specs.Row.{Row, encode_rows, contents_of, rows_at, past_rows, past_data, good}
use Rattle.mem_layout.specs.declared.Mark.{Mark}
use Rattle.mem_layout.specs.declared.Header.{Header}
use Rattle.mem_layout.specs.Rules.{plain_kind, joined_kind, upload_kind, part_kind, objects_most, uploads_most, parts_most, all, no_digest, object_ok, object_next, entry_ok, entry_next, start}
use Rattle.mem_layout.specs.Header.{header_length, encode_header, header_at}

-- The rows of a state ------------------------------------------------------------------------------------------------------

-- the kind of an object's row, by its etag
abbrev pub row_kind : Etag → ℕ
row_kind absent = plain_kind
row_kind (plain digest) = plain_kind
row_kind (joined digest count) = joined_kind

-- the row of an object, of an upload, and of a part; E6: the block of an object is its pairs, then its data; that of an upload its pairs
abbrev pub object_row : Bytes → Object → Row
object_row p x =
    record {
      number = 0;
      stamp = x.created;
      kind = row_kind x.etag;
      count = count_of x.etag;
      digest = digest_of x.etag;
      path = p;
      pairs = length x.pairs;
      lengths = pair_lengths x.pairs;
      content = pair_bytes x.pairs ++ x.content;
    }

abbrev pub upload_row : ℕ → Upload → Row
upload_row u x =
    record {
      number = u;
      stamp = x.started;
      kind = upload_kind;
      count = 0;
      digest = no_digest;
      path = x.path;
      pairs = length x.pairs;
      lengths = pair_lengths x.pairs;
      content = pair_bytes x.pairs;
    }

abbrev pub part_row : ℕ → Part → Row
part_row n y =
    record { number = n; stamp = 0; kind = part_kind; count = 0; digest = y.digest; path = []; pairs = 0; lengths = []; content = y.content }

-- the rows of a map
unfoldable pub object_rows : Map Bytes Object → List Row
object_rows [] = []
object_rows (e ∷ m) = object_row e.0 e.1 ∷ object_rows m

unfoldable pub part_rows : Map ℕ Part → List Row
part_rows [] = []
part_rows (e ∷ m) = part_row e.0 e.1 ∷ part_rows m

-- each upload, and its parts after it
unfoldable pub upload_rows : Map ℕ Upload → List Row
upload_rows [] = []
upload_rows (e ∷ m) = upload_row e.0 e.1 ∷ (part_rows e.1.parts ++ upload_rows m)

-- objects, then uploads with their parts
unfoldable pub rows_of : State → List Row
rows_of s = object_rows s.O ++ upload_rows s.U

-- The lengths ---------------------------------------------------------------------------------------------------------------

-- header, 256 objects and 16 uploads with paths of 128 bytes and 8 pairs, 256 parts
abbrev pub tables_length : ℕ
tables_length = 58194

-- the same without pairs
abbrev pub former_tables_length : ℕ
former_tables_length = 53842

abbrev pub arena_most : ℕ
arena_most = 1048576

-- Reading ----------------------------------------------------------------------------------------------------------------------

abbrev pub row_etag : (kind : ℕ) (digest : Bytes) (count : ℕ) → Etag
row_etag kind digest count = cond (eqb kind plain_kind) (plain digest) (joined digest count)

-- the pairs of a row, with which its block begins
abbrev pub pairs_of : Row → Map Bytes Bytes
pairs_of r = pairs_at r.lengths r.content

abbrev pub object_of : Row → Object
object_of r =
    record {
      content = drop (sum_of r.lengths) r.content;
      created = r.stamp;
      etag = row_etag r.kind r.digest r.count;
      pairs = pairs_of r;
    }

unfoldable pub objects_of : List Row → Map Bytes Object
objects_of [] = []
objects_of (r ∷ rs) = (r.path, object_of r) ∷ objects_of rs

-- uploads with their parts, from the last row to the first: the parts that wait for their upload, and the uploads
pub record Nest : Type 0 where
  pub waiting : Map ℕ Part
  pub uploads : Map ℕ Upload

abbrev pub row_part : Row → Part
row_part r = record { content = r.content; digest = r.digest }

abbrev pub upload_of : Row → Map ℕ Part → Upload
upload_of r ps = record { path = r.path; started = r.stamp; pairs = pairs_of r; parts = ps }

unfoldable pub nest : List Row → Nest
nest [] = record { waiting = []; uploads = [] }
nest (r ∷ rs) =
    cond (eqb r.kind upload_kind)
    (record { waiting = []; uploads = (r.number, upload_of r (nest rs).waiting) ∷ (nest rs).uploads })
    (record { waiting = (r.number, row_part r) ∷ (nest rs).waiting; uploads = (nest rs).uploads })

-- how many rows are uploads'
unfoldable pub uploads_among : List Row → ℕ
uploads_among [] = 0
uploads_among (r ∷ rs) = cond (eqb r.kind upload_kind) 1 0 + uploads_among rs

module _ (t a : List ℕ) where
  -- the rows of objects, and those after them
  unfoldable pub object_rows_at : List Row
  object_rows_at = rows_at (header_at t).objects (drop header_length t) a

  unfoldable pub upload_tables : List ℕ
  upload_tables = past_rows (header_at t).objects (drop header_length t)

  unfoldable pub upload_arena : List ℕ
  upload_arena = past_data (header_at t).objects (drop header_length t) a

  unfoldable pub upload_rows_at : List Row
  upload_rows_at = rows_at ((header_at t).uploads + (header_at t).parts) upload_tables upload_arena

  -- the state that tables t and arena a stand for
  unfoldable pub state_of : State
  state_of = record { O = objects_of object_rows_at; U = (nest upload_rows_at).uploads; N = (header_at t).next }

-- the header of a store in `tables` and `arena` bytes, by a layout whose tables have T bytes
unfoldable pub header_ok : (T tables arena : ℕ) → Header → Bool
header_ok T tables arena h =
    all
    (eqb tables T
    ∷ leb arena arena_most
    ∷ eqb h.arena arena
    ∷ leb 1 h.next
    ∷ leb h.next 4294967296
    ∷ leb h.objects objects_most
    ∷ leb h.uploads uploads_most
    ∷ leb h.parts parts_most
    ∷ [])

unfoldable pub objects_good : (most : ℕ) (t a : List ℕ) → Bool
objects_good most t a = good (List ℕ) (object_ok most) object_next (header_at t).objects [] (drop header_length t) a

unfoldable pub uploads_good : (most : ℕ) (t a : List ℕ) → Bool
uploads_good most t a =
    good Mark (entry_ok most (header_at t).next) entry_next ((header_at t).uploads + (header_at t).parts) start (upload_tables t a) (upload_arena t a)

-- the test "whole" of a layout whose tables have T bytes and whose rows have at most `most` pairs
unfoldable pub whole_of : (T most : ℕ) (t a : List ℕ) → Bool
whole_of T most t a =
    all
    (header_ok T (length t) (length a) (header_at t)
    ∷ objects_good most t a
    ∷ uploads_good most t a
    ∷ eqb (uploads_among (upload_rows_at t a)) (header_at t).uploads
    ∷ [])

-- the test "whole"
abbrev pub whole : (t a : List ℕ) → Bool
whole = whole_of tables_length pairs_most

-- the former layout: the same test with the former length and no pairs
abbrev pub former_whole : (t a : List ℕ) → Bool
former_whole = whole_of former_tables_length 0

-- Tables t of T bytes and arena a stand for s: they are the encoding of s, each followed by free bytes.
pub record StandsOf (T : ℕ) (t a : List ℕ) (s : State) : Type 0 where
  pub size : length t ≡ T
  pub small : length a ≤ arena_most
  pub valid : Valid (length a) s
  pub tables-free : List ℕ
  pub tables : t ≡ encode_header (length a) s ++ (encode_rows (rows_of s) ++ tables-free)
  pub arena-free : List ℕ
  pub arena : a ≡ contents_of (rows_of s) ++ arena-free

abbrev pub Stands : (t a : List ℕ) → State → Type 0
Stands = StandsOf tables_length
