-- The test "whole" as it was: before E7, and of the former layout over a rule of paths, the present one and the one before E2, by the layout of
-- crate `mem_layout`. FormerMemory.antt has the former layout in definitions of its own. Assumes nothing.
use Rattle.std.specs.Prelude.{ℕ, ◌+◌, Bool, cond, List, [], ◌∷◌, leb, ltb, eqb, length, drop}
use Rattle.base_order.specs.Order.{is_below, same}
use Rattle.machine.specs.Names.{Bytes, former_path_ok, number_ok}
use Rattle.mem_row.specs.declared.Head.{Head}
use Rattle.mem_row.specs.Row.{Row, head_of, good}
use Rattle.mem_layout.specs.declared.Mark.{Mark}
use Rattle.mem_layout.specs.Header.{header_length, header_at}
use Rattle.mem_layout.specs.Rules.{plain_kind, joined_kind, upload_kind, part_kind, parts_most, all, no_digest, upload_rule, object_next, entry_next, start}
use Rattle.mem_layout.specs.Memory.{former_tables_length, header_ok, objects_good, uploads_among, upload_rows_at, upload_tables, upload_arena}

-- a part's row before E7, by document 01's rule of part numbers, which was PART's too
unfoldable pub former_part_rule : Mark → Head → Bool
former_part_rule m h =
    all
    (eqb h.kind part_kind
    ∷ eqb h.stamp 0
    ∷ eqb h.count 0
    ∷ eqb h.pathlen 0
    ∷ eqb h.pairs 0
    ∷ leb 1 m.upload
    ∷ ltb m.part h.number
    ∷ number_ok h.number
    ∷ [])

abbrev pub former_entry_ok : (most N : ℕ) → Mark → Row → Bool
former_entry_ok most N m r =
    cond (eqb r.kind upload_kind) (upload_rule most N m (head_of r) r.digest r.path r.lengths r.content) (former_part_rule m (head_of r))

-- the test "whole" before E7, of a layout whose tables have T bytes and whose rows have at most `most` pairs
unfoldable pub former_parts_whole : (T most : ℕ) (t a : List ℕ) → Bool
former_parts_whole T most t a =
    all
    (header_ok T (length t) (length a) (header_at t)
    ∷ objects_good most t a
    ∷ good Mark (former_entry_ok most (header_at t).next) entry_next ((header_at t).uploads + (header_at t).parts) start (upload_tables t a) (upload_arena t a)
    ∷ eqb (uploads_among (upload_rows_at t a)) (header_at t).uploads
    ∷ [])

-- the rules of rows without pairs and the test "whole" of crate `mem_layout`, with `pathIs` for the rule of paths
module _ (pathIs : Bytes → Bool) where
  unfoldable pub object_rule_by : (last : List ℕ) → Head → (path : List ℕ) → Bool
  object_rule_by last h path =
      all
      (eqb h.number 0
      ∷ leb 1 h.stamp
      ∷ leb h.kind joined_kind
      ∷ leb h.count (cond (eqb h.kind plain_kind) 0 parts_most)
      ∷ pathIs path
      ∷ is_below last path
      ∷ eqb h.pairs 0
      ∷ [])

  unfoldable pub upload_rule_by : (N : ℕ) → Mark → Head → (digest path : List ℕ) → Bool
  upload_rule_by N m h digest path =
      all
      (eqb h.count 0
      ∷ leb 1 h.stamp
      ∷ ltb m.upload h.number
      ∷ ltb h.number N
      ∷ pathIs path
      ∷ same digest no_digest
      ∷ eqb h.pairs 0
      ∷ eqb h.size 0
      ∷ [])

  unfoldable pub entry_rule_by : (N : ℕ) → Mark → Head → (digest path : List ℕ) → Bool
  entry_rule_by N m h digest path = cond (eqb h.kind upload_kind) (upload_rule_by N m h digest path) (former_part_rule m h)

  abbrev pub object_ok_by : (last : List ℕ) → Row → Bool
  object_ok_by last r = object_rule_by last (head_of r) r.path

  abbrev pub entry_ok_by : (N : ℕ) → Mark → Row → Bool
  entry_ok_by N m r = entry_rule_by N m (head_of r) r.digest r.path

  unfoldable pub whole_by : (t a : List ℕ) → Bool
  whole_by t a =
      all
      (header_ok former_tables_length (length t) (length a) (header_at t)
      ∷ good (List ℕ) object_ok_by object_next (header_at t).objects [] (drop header_length t) a
      ∷ good Mark (entry_ok_by (header_at t).next) entry_next ((header_at t).uploads + (header_at t).parts) start (upload_tables t a) (upload_arena t a)
      ∷ eqb (uploads_among (upload_rows_at t a)) (header_at t).uploads
      ∷ [])

-- the test "whole" before E2
unfoldable pub former_whole : (t a : List ℕ) → Bool
former_whole t a = whole_by former_path_ok t a
