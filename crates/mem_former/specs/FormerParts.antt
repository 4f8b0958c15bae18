-- The test "whole" before E7, of the layout with pairs. Assumes nothing.
use Rattle.std.specs.Prelude.{ℕ, ◌+◌, Bool, cond, List, [], ◌∷◌, leb, ltb, eqb, length}
use Rattle.machine.specs.Names.{number_ok}
use Rattle.machine.specs.Pairs.{pairs_most}
use Rattle.mem_row.specs.declared.Head.{Head}
use Rattle.mem_row.specs.Row.{Row, head_of, good}
use Rattle.mem_layout.specs.declared.Mark.{Mark}
use Rattle.mem_layout.specs.Header.{header_at}
use Rattle.mem_layout.specs.Rules.{upload_kind, part_kind, all, upload_rule, entry_next, start}
use Rattle.mem_layout.specs.Memory.{tables_length, header_ok, objects_good, uploads_among, upload_rows_at, upload_tables, upload_arena}

-- a part's row, by document 01's rule of part numbers, which was PART's too
unfoldable pub part_rule_before_e7 : Mark → Head → Bool
part_rule_before_e7 m h =
    all
    (eqb h.kind part_kind
    ∷ eqb h.stamp 0
    ∷ eqb h.count 0
    ∷ eqb h.pathlen 0
    ∷ eqb h.pairs 0
    ∷ leb 1 m.upload
    ∷ ltb m.part h.number
    ∷ number_ok h.number
    ∷ [])

-- a row after the objects
abbrev pub entry_ok_before_e7 : (N : ℕ) → Mark → Row → Bool
entry_ok_before_e7 N m r =
    cond (eqb r.kind upload_kind) (upload_rule pairs_most N m (head_of r) r.digest r.path r.lengths r.content) (part_rule_before_e7 m (head_of r))

-- the test "whole" with that rule
unfoldable pub whole_before_e7 : (t a : List ℕ) → Bool
whole_before_e7 t a =
    all
    (header_ok tables_length (length t) (length a) (header_at t)
    ∷ objects_good pairs_most t a
    ∷ good Mark (entry_ok_before_e7 (header_at t).next) entry_next ((header_at t).uploads + (header_at t).parts) start (upload_tables t a) (upload_arena t a)
    ∷ eqb (uploads_among (upload_rows_at t a)) (header_at t).uploads
    ∷ [])
