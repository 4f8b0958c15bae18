-- The layout before E6: the test "whole" over a rule of paths, and the state of tables and arena; of crate `mem_layout`, `all` alone. Assumes nothing.
use Rattle.std.specs.Prelude.{ℕ, ◌+◌, Bool, cond, List, [], ◌∷◌, leb, ltb, eqb, length, drop, replicate}
use Rattle.base_order.specs.Order.{is_below, same}
use Rattle.machine.specs.Map.{Map}
use Rattle.machine.specs.Names.{Bytes, former_path_ok, stored_path_ok, number_ok}
use Rattle.machine.specs.Etags.{plain, joined}
use Rattle.machine.specs.State.{Object, Part, Upload, State}
use Rattle.mem_layout.specs.Rules.{all}
use Rattle.mem_former.specs.FormerRow.{FormerRow, number_at, former_rows_at, tables_after, arena_after, former_good}

-- The rules of rows: kinds 0 and 1 are objects' with a plain and a joined etag, 2 is an upload's, 3 a part's ------------------

-- the upload passed last, and its part passed last; 0 for none
pub record FormerMark : Type 0 where
  pub upload : ℕ
  pub part : ℕ

-- an object's row, after one whose path is `last` ([] for none): a plain etag has no count, a joined one at most that of all parts
unfoldable pub former_object_ok : (pathIs : Bytes → Bool) (last : List ℕ) → FormerRow → Bool
former_object_ok pathIs last r =
    all
    (eqb r.number 0
    ∷ leb 1 r.stamp
    ∷ leb r.kind 1
    ∷ leb r.count (cond (eqb r.kind 0) 0 256)
    ∷ pathIs r.path
    ∷ is_below last r.path
    ∷ [])

abbrev pub former_object_next : (last : List ℕ) → FormerRow → List ℕ
former_object_next last r = r.path

-- an upload's row, after upload m .upload, with a number below N: it has no data
unfoldable pub former_upload_ok : (pathIs : Bytes → Bool) (N : ℕ) → FormerMark → FormerRow → Bool
former_upload_ok pathIs N m r =
    all
    (eqb (length r.content) 0
    ∷ eqb r.count 0
    ∷ leb 1 r.stamp
    ∷ ltb m.upload r.number
    ∷ ltb r.number N
    ∷ pathIs r.path
    ∷ same r.digest (replicate 16 0)
    ∷ [])

-- a part's row, after part m .part of upload m .upload; its number is by document 01's rule, which was PART's too before E7
unfoldable pub former_part_ok : FormerMark → FormerRow → Bool
former_part_ok m r =
    all
    (eqb r.kind 3
    ∷ eqb r.stamp 0
    ∷ eqb r.count 0
    ∷ eqb (length r.path) 0
    ∷ leb 1 m.upload
    ∷ ltb m.part r.number
    ∷ number_ok r.number
    ∷ [])

-- a row after the objects: an upload's or a part's; and the mark after it, from the first on
unfoldable pub former_entry_ok : (pathIs : Bytes → Bool) (N : ℕ) → FormerMark → FormerRow → Bool
former_entry_ok pathIs N m r = cond (eqb r.kind 2) (former_upload_ok pathIs N m r) (former_part_ok m r)

unfoldable pub former_entry_next : FormerMark → FormerRow → FormerMark
former_entry_next m r = cond (eqb r.kind 2) (record { upload = r.number; part = 0 }) (record { upload = m.upload; part = r.number })

abbrev pub former_start : FormerMark
former_start = record { upload = 0; part = 0 }

-- What rows stand for ----------------------------------------------------------------------------------------------------------

-- an object, and the objects of rows
abbrev pub former_object : FormerRow → Object
former_object r =
    record { content = r.content; created = r.stamp; etag = cond (eqb r.kind 0) (plain r.digest) (joined r.digest r.count); pairs = [] }

unfoldable pub former_objects_of : List FormerRow → Map Bytes Object
former_objects_of [] = []
former_objects_of (r ∷ rs) = (r.path, former_object r) ∷ former_objects_of rs

-- uploads with their parts, from the last row to the first: the parts that wait for their upload, and the uploads
pub record FormerNest : Type 0 where
  pub waiting : Map ℕ Part
  pub uploads : Map ℕ Upload

unfoldable pub former_nest : List FormerRow → FormerNest
former_nest [] = record { waiting = []; uploads = [] }
former_nest (r ∷ rs) =
    cond (eqb r.kind 2)
    (record {
      waiting = [];
      uploads = (r.number, record { path = r.path; started = r.stamp; pairs = []; parts = (former_nest rs).waiting }) ∷ (former_nest rs).uploads;
    })
    (record { waiting = (r.number, record { content = r.content; digest = r.digest }) ∷ (former_nest rs).waiting; uploads = (former_nest rs).uploads })

-- how many rows are uploads'
unfoldable pub former_opens : List FormerRow → ℕ
former_opens [] = 0
former_opens (r ∷ rs) = cond (eqb r.kind 2) 1 0 + former_opens rs

-- Tables and arena ---------------------------------------------------------------------------------------------------------------

-- the header: the arena's length, N, how many objects, uploads and parts there are; then the rows
module _ (t : List ℕ) where
  abbrev pub former_arena : ℕ
  former_arena = number_at 0 4 t

  abbrev pub former_next : ℕ
  former_next = number_at 4 8 t

  abbrev pub former_objects : ℕ
  former_objects = number_at 12 2 t

  abbrev pub former_uploads : ℕ
  former_uploads = number_at 14 2 t

  abbrev pub former_parts : ℕ
  former_parts = number_at 16 2 t

  abbrev pub former_rows : List ℕ
  former_rows = drop 18 t

module _ (t a : List ℕ) where
  -- the rows of objects; tables and arena after them, and the rows of uploads and parts there
  unfoldable pub former_object_rows : List FormerRow
  former_object_rows = former_rows_at (former_objects t) (former_rows t) a

  unfoldable pub former_upload_tables : List ℕ
  former_upload_tables = tables_after (former_objects t) (former_rows t)

  unfoldable pub former_upload_arena : List ℕ
  former_upload_arena = arena_after (former_objects t) (former_rows t) a

  unfoldable pub former_upload_rows : List FormerRow
  former_upload_rows = former_rows_at (former_uploads t + former_parts t) former_upload_tables former_upload_arena

  -- the state that tables t and arena a stood for
  unfoldable pub former_state : State
  former_state = record { O = former_objects_of former_object_rows; U = (former_nest former_upload_rows).uploads; N = former_next t }

-- the header: lengths, N from 1 to 2^32, and at most 256 objects, 16 uploads and 256 parts
unfoldable pub former_header_ok : (t a : List ℕ) → Bool
former_header_ok t a =
    all
    (eqb (length t) 53842
    ∷ leb (length a) 1048576
    ∷ eqb (former_arena t) (length a)
    ∷ leb 1 (former_next t)
    ∷ leb (former_next t) 4294967296
    ∷ leb (former_objects t) 256
    ∷ leb (former_uploads t) 16
    ∷ leb (former_parts t) 256
    ∷ [])

-- the test "whole" with `pathIs` for the rule of paths
unfoldable pub whole_by : (pathIs : Bytes → Bool) (t a : List ℕ) → Bool
whole_by pathIs t a =
    all
    (former_header_ok t a
    ∷ former_good (List ℕ) (former_object_ok pathIs) former_object_next (former_objects t) [] (former_rows t) a
    ∷ former_good FormerMark (former_entry_ok pathIs (former_next t)) former_entry_next (former_uploads t + former_parts t) former_start (former_upload_tables t a) (former_upload_arena t a)
    ∷ eqb (former_opens (former_upload_rows t a)) (former_uploads t)
    ∷ [])

-- the test "whole" before E6, by the rule of paths since E2; and before E2
unfoldable pub whole_before_e6 : (t a : List ℕ) → Bool
whole_before_e6 t a = whole_by stored_path_ok t a

unfoldable pub whole_before_e2 : (t a : List ℕ) → Bool
whole_before_e2 t a = whole_by former_path_ok t a
