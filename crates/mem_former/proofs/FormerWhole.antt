-- The test "whole" and the state before E6, by the former reader, are today's of former tables; memory that was whole before E2 passes too. Assumes nothing.
use Prim.Native.Nat.{ℕ, ◌+◌}
use native.Mathlib.Omega.{arith}
use mathlib.Core.Path.{◌≡◌, refl, ◌∙◌, subst}
use mathlib.Core.Bool.{Bool, true, false}
use mathlib.Core.List.{List, [], ◌∷◌, map}
use lib.Dec.{eqb}
use lib.ListN.{length}
use lib.Seq.{drop-drop}
use Rattle.base_number.specs.Number.{AreBytes}
use Rattle.machine.specs.Names.{stored_path_ok}
use Rattle.mem_row.specs.Fields.{numbers_at}
use Rattle.mem_layout.specs.Header.{header_at}
use Rattle.mem_layout.specs.Rules.{all}
use Rattle.mem_layout.specs.Memory.{uploads_among, object_rows_at, upload_tables, upload_arena, upload_rows_at, state_of, header_ok, objects_good, uploads_good, former_tables_length, whole_of, former_whole, StandsOf}
use Rattle.mem_layout.proofs.TestLaws.{all_true}
use Rattle.mem_layout.proofs.WholeLaws.{whole_of-stands}
use Rattle.mem_former.specs.FormerRow.{former_good}
use Rattle.mem_former.specs.FormerMemory.{FormerMark, former_object_ok, former_object_next, former_entry_ok, former_entry_next, former_start, former_opens, former_arena, former_next, former_objects, former_uploads, former_parts, former_rows, former_object_rows, former_upload_tables, former_upload_arena, former_upload_rows, former_state, former_header_ok, whole_by, whole_before_e6}
use Rattle.mem_former.proofs.RowsSame.{today, good-same, rows_same, tables-same, arena-same}
use Rattle.mem_former.proofs.RulesSame.{objects-rule, entries-rule, objects-same, uploads-same, opens-same}

-- a later test counts only where those before it pass
later-tests : (h o u n u' n' : Bool) → (o ≡ true → u ≡ u') → (o ≡ true → u' ≡ true → n ≡ n') → all (h ∷ o ∷ u ∷ n ∷ []) ≡ all (h ∷ o ∷ u' ∷ n' ∷ [])
unfolding all
later-tests h false u n u' n' f g = refl
later-tests h true u n false n' f g = rw (f refl)
later-tests h true u n true n' f g = rw (f refl, g refl refl)

module _ (t a : List ℕ) where
  -- The header
  arena-length : (header_at t).arena ≡ former_arena t
  unfolding header_at numbers_at
  arena-length = refl

  next-same : (header_at t).next ≡ former_next t
  unfolding header_at numbers_at
  next-same = refl

  objects-count : (header_at t).objects ≡ former_objects t
  unfolding header_at numbers_at
  objects-count = rw (drop-drop 8 4 t)

  uploads-count : (header_at t).uploads ≡ former_uploads t
  unfolding header_at numbers_at
  uploads-count = rw (drop-drop 8 4 t, drop-drop 2 12 t)

  parts-count : (header_at t).parts ≡ former_parts t
  unfolding header_at numbers_at
  parts-count = rw (drop-drop 8 4 t, drop-drop 2 12 t, drop-drop 2 14 t)

  header-same : header_ok former_tables_length (length t) (length a) (header_at t) ≡ former_header_ok t a
  unfolding header_ok former_header_ok
  header-same = rw (arena-length, next-same, objects-count, uploads-count, parts-count)

  -- the rows of objects
  abbrev objects-good : Bool
  objects-good = former_good (List ℕ) (former_object_ok stored_path_ok) former_object_next (former_objects t) [] (former_rows t) a

  objects-good-same : objects_good 0 t a ≡ objects-good
  unfolding objects_good
  objects-good-same = rw objects-count (good-same objects-rule (former_objects t) [] (former_rows t) a)

  module _ (g : objects-good ≡ true) where
    object-rows : object_rows_at t a ≡ map today (former_object_rows t a)
    unfolding object_rows_at former_object_rows
    object-rows = rw objects-count (rows_same objects-rule (former_objects t) [] (former_rows t) a g)

    upload-tables : upload_tables t a ≡ former_upload_tables t a
    unfolding upload_tables former_upload_tables
    upload-tables = rw objects-count (tables-same objects-rule (former_objects t) [] (former_rows t) a g)

    upload-arena : upload_arena t a ≡ former_upload_arena t a
    unfolding upload_arena former_upload_arena
    upload-arena = rw objects-count (arena-same objects-rule (former_objects t) [] (former_rows t) a g)

  -- the rows of uploads and parts
  abbrev uploads-good : Bool
  uploads-good = former_good FormerMark (former_entry_ok stored_path_ok (former_next t)) former_entry_next (former_uploads t + former_parts t) former_start (former_upload_tables t a) (former_upload_arena t a)

  uploads-good-same : objects-good ≡ true → uploads_good 0 t a ≡ uploads-good
  unfolding uploads_good
  uploads-good-same g =
      rw (next-same, uploads-count, parts-count, upload-tables g, upload-arena g)
      (good-same (entries-rule (former_next t)) (former_uploads t + former_parts t) former_start (former_upload_tables t a) (former_upload_arena t a))

  upload-rows : objects-good ≡ true → uploads-good ≡ true → upload_rows_at t a ≡ map today (former_upload_rows t a)
  unfolding upload_rows_at former_upload_rows
  upload-rows g v =
      rw (uploads-count, parts-count, upload-tables g, upload-arena g)
      (rows_same (entries-rule (former_next t)) (former_uploads t + former_parts t) former_start (former_upload_tables t a) (former_upload_arena t a) v)

  opens-counted : objects-good ≡ true → uploads-good ≡ true → eqb (uploads_among (upload_rows_at t a)) (header_at t).uploads ≡ eqb (former_opens (former_upload_rows t a)) (former_uploads t)
  opens-counted g v = rw (uploads-count, upload-rows g v, opens-same)

-- what carry_over tests is the test "whole" before E6, of every tables and arena
pub former-whole-same : (t a : List ℕ) → former_whole t a ≡ whole_before_e6 t a
unfolding whole_of whole_before_e6 whole_by
former-whole-same t a =
    rw (header-same t a, objects-good-same t a)
    (later-tests (former_header_ok t a) (objects-good t a) _ _ (uploads-good t a) _ (uploads-good-same t a) (opens-counted t a))

-- and what it carries over is the state that the tables stood for then
pub former-state-same : (t a : List ℕ) → whole_before_e6 t a ≡ true → state_of t a ≡ former_state t a
unfolding whole_before_e6 whole_by state_of former_state
former-state-same t a w =
    let g = (all_true _ w).1 in
    rw (next-same t a, object-rows t a g.0, upload-rows t a g.0 g.1.0, objects-same, uploads-same)

-- so such memory is the encoding of that state
pub former-stands-same : (t a : List ℕ) → AreBytes t → whole_before_e6 t a ≡ true → StandsOf former_tables_length t a (former_state t a)
former-stands-same t a bytes w =
    subst (StandsOf former_tables_length t a) (former-state-same t a w) (whole_of-stands former_tables_length 0 (omega arith) t a bytes (former-whole-same t a ∙ w))
