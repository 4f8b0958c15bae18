-- Whole memory stands for a state that keeps document 01's rules: it is that state's encoding, then free bytes. Assumes nothing.
use Prim.Native.Nat.{ℕ, ◌+◌, ◌≤◌}
use mathlib.Core.Path.{◌≡◌, refl, sym, ap, ap₂, ◌∙◌, subst}
use mathlib.Core.Bool.{true}
use mathlib.Core.List.{List, [], ◌++◌, append_assoc}
use native.Mathlib.Omega.{arith}
use borrow.Author.Tests.{leb-true, eqb-true}
use lib.ListN.{length, drop, length-append}
use lib.Seq.{drop_at}
use Rattle.base_number.proofs.NumberLaws.{bytes_drop}
use Rattle.base_number.specs.Number.{AreBytes}
use Rattle.machine.specs.Map.{Map, total}
use Rattle.machine.specs.Pairs.{pairs_most}
use Rattle.machine.specs.State.{Part, parts_in}
use Rattle.machine.specs.Valid.{Valid}
use Rattle.mem_row.specs.Fields.{fields, numbers_at}
use Rattle.mem_row.proofs.FieldLaws.{fields-numbers}
use Rattle.mem_row.specs.Row.{Row, encode_rows, contents_of, past_rows, past_data, good, EncodableAll}
use Rattle.mem_row.proofs.RowLaws.{Follows, encode-append, contents-append, rows-sound, contents-sound, follows-sound, encodable-sound, length-rows_at}
use Rattle.mem_layout.specs.declared.Mark.{Mark}
use Rattle.mem_layout.specs.declared.Header.{Header}
use Rattle.mem_layout.specs.Rules.{objects_most, uploads_most, parts_most, object_ok, object_next, entry_ok, entry_next, start}
use Rattle.mem_layout.specs.Header.{header_widths, header_length, header_numbers, header_bytes, encode_header, header_at}
use Rattle.mem_layout.specs.Memory.{part_rows, upload_rows, rows_of, tables_length, arena_most, nest, uploads_among, object_rows_at, upload_tables, upload_arena, upload_rows_at, state_of, header_ok, objects_good, uploads_good, whole_of, whole, StandsOf, Stands}
use Rattle.mem_layout.proofs.TestLaws.{all_true}
use Rattle.mem_layout.proofs.ObjectLaws.{object-rows-same, objects-ascending, objects-ok, length-objects}
use Rattle.mem_layout.proofs.UploadLaws.{Nested, nested, length-uploads, length-upload-rows}
use Rattle.mem_layout.proofs.RowCounts.{length-contents}

pub record HeaderIs (T tables A : ℕ) (h : Header) : Type 0 where
  pub size : tables ≡ T
  pub small : A ≤ arena_most
  pub arena : h.arena ≡ A
  pub first : 1 ≤ h.next
  pub last : h.next ≤ 4294967296
  pub objects : h.objects ≤ objects_most
  pub uploads : h.uploads ≤ uploads_most
  pub parts : h.parts ≤ parts_most

pub header_is : (T tables A : ℕ) (h : Header) → header_ok T tables A h ≡ true → HeaderIs T tables A h
unfolding header_ok
header_is T tables A h e =
    let g = all_true _ e in
    record {
      size = eqb-true _ _ g.0;
      small = leb-true _ _ g.1.0;
      arena = eqb-true _ _ g.1.1.0;
      first = leb-true _ _ g.1.1.1.0;
      last = leb-true _ _ g.1.1.1.1.0;
      objects = leb-true _ _ g.1.1.1.1.1.0;
      uploads = leb-true _ _ g.1.1.1.1.1.1.0;
      parts = leb-true _ _ g.1.1.1.1.1.1.1.0;
    }

header-numbers : (t : List ℕ) → numbers_at header_widths t ≡ header_numbers (header_at t)
unfolding header_at numbers_at
header-numbers t = refl

module _ (T most : ℕ) (room : header_length ≤ T) (t a : List ℕ) (b : AreBytes t) (w : whole_of T most t a ≡ true) where
  header : HeaderIs T (length t) (length a) (header_at t)
  unfolding whole_of
  header = header_is _ _ _ _ (all_true _ w).0

  abbrev t₁ : List ℕ
  t₁ = drop header_length t

  objects-good : good (List ℕ) (object_ok most) object_next (header_at t).objects [] t₁ a ≡ true
  unfolding whole_of objects_good
  objects-good = (all_true _ w).1.0

  uploads-good : good Mark (entry_ok most (header_at t).next) entry_next ((header_at t).uploads + (header_at t).parts) start (upload_tables t a) (upload_arena t a) ≡ true
  unfolding whole_of uploads_good
  uploads-good = (all_true _ w).1.1.0

  counted-opens : uploads_among (upload_rows_at t a) ≡ (header_at t).uploads
  unfolding whole_of
  counted-opens = eqb-true _ _ (all_true _ w).1.1.1.0

  b₁ : AreBytes t₁
  b₁ = bytes_drop header_length t b

  tables₁ : encode_rows (object_rows_at t a) ++ upload_tables t a ≡ t₁
  unfolding object_rows_at upload_tables
  tables₁ = rows-sound (List ℕ) (object_ok most) object_next (header_at t).objects [] t₁ a b₁ objects-good

  arena₁ : contents_of (object_rows_at t a) ++ upload_arena t a ≡ a
  unfolding object_rows_at upload_arena
  arena₁ = contents-sound (List ℕ) (object_ok most) object_next (header_at t).objects [] t₁ a b₁ objects-good

  b₂ : AreBytes (upload_tables t a)
  b₂ = subst AreBytes (sym (ap (drop (length (encode_rows (object_rows_at t a)))) tables₁) ∙ drop_at (encode_rows (object_rows_at t a)) (upload_tables t a) (length (encode_rows (object_rows_at t a))) refl) (bytes_drop (length (encode_rows (object_rows_at t a))) t₁ b₁)

  follows₁ : Follows (List ℕ) (object_ok most) object_next [] (object_rows_at t a)
  unfolding object_rows_at
  follows₁ = follows-sound (List ℕ) (object_ok most) object_next (header_at t).objects [] t₁ a objects-good

  encodable₁ : EncodableAll (object_rows_at t a)
  unfolding object_rows_at
  encodable₁ = encodable-sound (List ℕ) (object_ok most) object_next (header_at t).objects [] t₁ a b₁ objects-good

  nested₂ : Nested (header_at t).next start (upload_rows_at t a) (nest (upload_rows_at t a))
  unfolding upload_rows_at
  nested₂ =
      nested most (header_at t).next start _
      (encodable-sound Mark (entry_ok most (header_at t).next) entry_next _ start (upload_tables t a) (upload_arena t a) b₂ uploads-good)
      (follows-sound Mark (entry_ok most (header_at t).next) entry_next _ start (upload_tables t a) (upload_arena t a) uploads-good)

  upload-rows-same : upload_rows (nest (upload_rows_at t a)).uploads ≡ upload_rows_at t a
  unfolding part_rows
  upload-rows-same = ap (λ (ps : Map ℕ Part). part_rows ps ++ upload_rows (nest (upload_rows_at t a)).uploads) (sym (nested₂.some-upload refl)) ∙ nested₂.same

  rows_same : rows_of (state_of t a) ≡ object_rows_at t a ++ upload_rows_at t a
  unfolding rows_of state_of
  rows_same = ap₂ (λ (x y : List Row). x ++ y) (object-rows-same most [] (object_rows_at t a) encodable₁ follows₁) upload-rows-same

  abbrev free : List ℕ
  free = past_rows ((header_at t).uploads + (header_at t).parts) (upload_tables t a)

  abbrev arena-free : List ℕ
  arena-free = past_data ((header_at t).uploads + (header_at t).parts) (upload_tables t a) (upload_arena t a)

  tables₂ : encode_rows (upload_rows_at t a) ++ free ≡ upload_tables t a
  unfolding upload_rows_at
  tables₂ = rows-sound Mark (entry_ok most (header_at t).next) entry_next _ start (upload_tables t a) (upload_arena t a) b₂ uploads-good

  arena₂ : contents_of (upload_rows_at t a) ++ arena-free ≡ upload_arena t a
  unfolding upload_rows_at
  arena₂ = contents-sound Mark (entry_ok most (header_at t).next) entry_next _ start (upload_tables t a) (upload_arena t a) b₂ uploads-good

  count-objects : length (state_of t a).O ≡ (header_at t).objects
  unfolding state_of object_rows_at
  count-objects = length-objects (object_rows_at t a) ∙ length-rows_at (header_at t).objects t₁ a

  count-uploads : length (state_of t a).U ≡ (header_at t).uploads
  unfolding state_of
  count-uploads = length-uploads (upload_rows_at t a) ∙ counted-opens

  count-parts : total parts_in (state_of t a).U ≡ (header_at t).parts
  unfolding state_of upload_rows_at
  count-parts =
      let n = length-rows_at ((header_at t).uploads + (header_at t).parts) (upload_tables t a) (upload_arena t a) in
      omega (arith, length-upload-rows (nest (upload_rows_at t a)).uploads, ap length upload-rows-same, n, length-uploads (upload_rows_at t a), counted-opens)

  header-same : encode_header (length a) (state_of t a) ≡ fields header_widths (numbers_at header_widths t)
  unfolding header_bytes state_of
  header-same = rw (header-numbers t, count-objects, count-uploads, count-parts, header.arena)

  tables-same : t ≡ encode_header (length a) (state_of t a) ++ (encode_rows (rows_of (state_of t a)) ++ free)
  tables-same =
      sym
      (ap₂ (λ (x y : List ℕ). x ++ y) header-same
      (rw (rows_same, encode-append, append_assoc, tables₂) tables₁)
      ∙ fields-numbers header_widths t b (let z = header.size in omega arith))

  arena-same : a ≡ contents_of (rows_of (state_of t a)) ++ arena-free
  arena-same = sym (rw (rows_same, contents-append, append_assoc, arena₂) arena₁)

  state-valid : Valid (length a) (state_of t a)
  unfolding state_of
  state-valid =
      record {
        objects = objects-ascending most [] (object_rows_at t a) follows₁;
        object = objects-ok most [] (object_rows_at t a) encodable₁ follows₁;
        uploads = nested₂.ascending;
        upload = nested₂.ok;
        first = header.first;
        last = header.last;
        paths = let h = header.objects in omega (arith, count-objects);
        opens = let h = header.uploads in omega (arith, count-uploads);
        parts = let h = header.parts in omega (arith, count-parts);
        room = omega (arith, length-contents (state_of t a), ap length arena-same, length-append (contents_of (rows_of (state_of t a))) arena-free);
      }

  pub whole_of-stands : StandsOf T t a (state_of t a)
  whole_of-stands =
      record {
        size = header.size;
        small = header.small;
        valid = state-valid;
        tables-free = free;
        tables = tables-same;
        arena-free = arena-free;
        arena = arena-same;
      }

pub whole-stands : (t a : List ℕ) → AreBytes t → whole t a ≡ true → Stands t a (state_of t a)
whole-stands = whole_of-stands tables_length pairs_most (omega arith)
