-- A part put in the place of what is there: what the steps require, and what memory then stands for. Assumes nothing.
use Prim.Native.Nat.{ℕ, ◌+◌, ◌-◌, ◌≤◌, ◌<◌, ◌^◌}
use mathlib.Core.Path.{◌≡◌, refl, sym, ap, ◌∙◌, subst}
use mathlib.Core.Bool.{true}
use mathlib.Core.List.{List, [], ◌∷◌, ◌++◌}
use mathlib.Core.Option.{some}
use native.Mathlib.Omega.{arith}
use lib.ListN.{length, drop}
use Rattle.base_number.specs.Number.{AreBytes}
use Rattle.base_md5.specs.declared.words.Digest.{Digest}
use Rattle.base_md5.specs.Md5.{bytes_of}
use Rattle.base_buffer.specs.Buffer.{spliced}
use Rattle.machine.specs.Map.{is_some, by_number, lookup, total}
use Rattle.machine.specs.State.{Part, Upload, State, parts_in, with_upload, with_part}
use Rattle.mem_row.specs.declared.Head.{Head}
use Rattle.mem_row.specs.Row.{encode_rows, contents_of, head_at, row_bytes, numbers_length, Encodable, EncodableAll}
use Rattle.mem_row.proofs.RowLaws.{encodable-right}
use Rattle.mem_layout.specs.declared.Header.{Header}
use Rattle.mem_layout.specs.Header.{header_of, headed, header_at, header_length}
use Rattle.mem_layout.specs.Rules.{part_kind, parts_most}
use Rattle.mem_layout.specs.Memory.{rows_of, part_row, whole, state_of, Stands}
use Rattle.mem_layout.proofs.WholeLaws.{whole-stands}
use Rattle.mem_layout.proofs.StandsLaws.{header-back, rows-encodable}
use Rattle.mem_find.specs.declared.RowPlace.{RowPlace}
use Rattle.mem_find.specs.declared.Lookup.{Lookup}
use Rattle.mem_find.specs.Places.{before_part, after_part, part_place}
use Rattle.mem_find.proofs.RowsAt.{At, row-at}
use Rattle.mem_find.proofs.Splits.{part-found}
use Rattle.mem_find.proofs.Found.{is-some}
use Rattle.mem_edit.specs.declared.rows.OldRow.{OldRow}
use Rattle.mem_edit.specs.Rows.{old_row_at, Replaceable}
use Rattle.mem_edit.proofs.OldRows.{sizes_of, read-sizes, one-sizes}
use Rattle.mem_edit.proofs.OneRow as row
use Rattle.mem_edit_uploads.specs.Parts.{part_with, PartPlaced, PartPuttable}
use Rattle.mem_edit_uploads.proofs.PartStates.{open-once, old_parts, rest_parts, was-rows, put-rows, same-uploads, put_count}

-- the part n of the open upload x, looked up
module _ (t a : List ℕ) (b : AreBytes t) (w : whole t a ≡ true) (u n : ℕ) (x : Upload) (is_open : lookup by_number u (state_of t a).U ≡ some x)
    (place : Lookup) (place_is : place ≡ part_place (state_of t a) u x n) where
  abbrev s : State
  s = state_of t a

  abbrev stands : Stands t a s
  stands = whole-stands t a b w

  at-is : place.at ≡ header_length + length (encode_rows (before_part s u x n))
  unfolding part_place
  at-is = ap (λ (k : Lookup). k.at) place_is

  base-is : place.base ≡ length (contents_of (before_part s u x n))
  unfolding part_place
  base-is = ap (λ (k : Lookup). k.base) place_is

  found-is : place.found ≡ is_some (lookup by_number n x.parts)
  unfolding part_place
  found-is = ap (λ (k : Lookup). k.found) place_is

  here : (y : Part) → lookup by_number n x.parts ≡ some y → At t a s stands (before_part s u x n) (part_row n y) (after_part s u x n)
  here y f = row-at t a s stands (before_part s u x n) (part_row n y) (after_part s u x n) (part-found s u x is_open n y f)

  -- what the code reads of the row there
  pub old-inside : place.found ≡ true → place.at + numbers_length ≤ length t
  old-inside e =
      let there = is-some _ (sym found-is ∙ e) in
      let i = (here there.0 there.1).inside in
      omega (arith, at-is)

  pub old_row : old_row_at place.found (head_at (drop place.at t)) ≡ sizes_of (old_parts x n)
  old_row =
      read-sizes (part_row n) (lookup by_number n x.parts) place.found (head_at (drop place.at t)) found-is
      (λ y f. one-sizes t a s stands (before_part s u x n) (part_row n y) (after_part s u x n) (here y f) place.at at-is)

-- the head of the row of a part that is put
abbrev pub part_head : (n size : ℕ) → Head
part_head n size = record { size = size; number = n; stamp = 0; kind = part_kind; pairs = 0; pathlen = 0; count = 0 }

-- the header with another count of parts
abbrev pub with_parts : Header → ℕ → Header
with_parts h n = record { arena = h.arena; next = h.next; objects = h.objects; uploads = h.uploads; parts = n }

-- part n becomes this one
module _ (t a : List ℕ) (b : AreBytes t) (u n : ℕ) (digest : Digest) (content : List ℕ) (pre : PartPuttable t a u n digest content)
    (place : Lookup) (end : RowPlace) (placed : PartPlaced t a u n place end) (old : OldRow) (old-is : old ≡ old_row_at place.found (head_at (drop place.at t)))
    (header : Header) (read : header ≡ header_at t) where
  abbrev was : State
  was = state_of t a

  abbrev x : Upload
  x = pre.upload

  abbrev y : Part
  y = part_with digest content

  abbrev s' : State
  s' = with_upload was u (with_part x n y)

  abbrev is : Stands t a was
  is = whole-stands t a b pre.is_whole

  there-is : place ≡ part_place was u x n
  there-is = placed.0 x pre.is_open

  place_at : place.at ≡ header_length + length (encode_rows (before_part was u x n))
  place_at = at-is t a b pre.is_whole u n x pre.is_open place there-is

  place_base : place.base ≡ length (contents_of (before_part was u x n))
  place_base = base-is t a b pre.is_whole u n x pre.is_open place there-is

  used-is : end.at ≡ header_length + length (encode_rows (rows_of was))
  used-is = ap (λ (k : RowPlace). k.at) placed.1

  held-is : end.base ≡ length (contents_of (rows_of was))
  held-is = ap (λ (k : RowPlace). k.base) placed.1

  gives-way : old ≡ sizes_of (old_parts x n)
  gives-way = old-is ∙ old_row t a b pre.is_whole u n x pre.is_open place there-is

  length-is : old.length ≡ length (encode_rows (old_parts x n))
  length-is = ap (λ (k : OldRow). k.length) gives-way

  size_is : old.size ≡ length (contents_of (old_parts x n))
  size_is = ap (λ (k : OldRow). k.size) gives-way

  split : rows_of was ≡ before_part was u x n ++ (old_parts x n ++ rest_parts was u x n)
  split = was-rows was u x pre.is_open n

  split' : rows_of s' ≡ before_part was u x n ++ (part_row n y ∷ rest_parts was u x n)
  split' = put-rows was u x pre.is_open n y

  encodable : Encodable (part_row n y)
  encodable = (encodable-right (before_part was u x n) (part_row n y ∷ rest_parts was u x n) (subst EncodableAll split' (rows-encodable (length a) s' is.small pre.valid))).0

  -- how many parts there are, before and after
  header_is : header ≡ header_of (length a) was
  header_is = read ∙ header-back t a was is

  counted : (old.rows ≤ header.parts + 1) × (header.parts ≤ parts_most) × (header.parts + 1 - old.rows ≡ total parts_in s'.U)
  counted =
      let m = ap (λ (h : Header). h.parts) header_is in
      let v = is.valid.parts in
      let k = put_count was u x pre.is_open n y in
      let r = ap (λ (o : OldRow). o.rows) gives-way in
      (omega arith, omega arith, omega arith)

  after_is : with_parts header (header.parts + 1 - old.rows) ≡ header_of (length a) s'
  after_is = ap (with_parts header) counted.2 ∙ rw (header_is, same-uploads was u x pre.is_open n y)

  pub record Putting : Type 0 where
    pub room : (place.base + old.size ≤ end.base) × ((end.base ≤ length a) × (end.base + length content ≤ length a + old.size))
    pub small : length content < 256 ^ 4
    pub few : header.parts ≤ parts_most
    pub fewer : old.rows ≤ header.parts + 1
    pub rows : Replaceable t place.at old.length end.at (part_head n (length content)) [] []
    pub stands : (t' a' : List ℕ)
        → t' ≡ headed (spliced t place.at old.length end.at (row_bytes (part_head n (length content)) (bytes_of digest) [] [])) (with_parts header (header.parts + 1 - old.rows))
        → a' ≡ spliced a place.base old.size end.base content → length t' ≡ length t → length a' ≡ length a
        → (z : Upload) → lookup by_number u was.U ≡ some z → Stands t' a' (with_upload was u (with_part z n y))

  pub putting : Putting
  putting =
      record {
        room =
            let r = row.data-room t a was is (before_part was u x n) (part_row n y) (rest_parts was u x n) place.at place.base end.at end.base place_at place_base used-is held-is
            (old_parts x n) split s' pre.valid split' (omega arith) (omega arith) encodable old.length old.size length-is size_is in
            (r.0, (r.1, r.2));
        small = encodable.fits.0;
        few = counted.1;
        fewer = counted.0;
        rows =
            row.row_room t a was is (before_part was u x n) (part_row n y) (rest_parts was u x n) place.at place.base end.at end.base place_at place_base used-is held-is
            (old_parts x n) split s' pre.valid split' (omega arith) (omega arith) encodable old.length old.size length-is size_is (part_head n (length content)) refl;
        stands =
            λ t' a' e e' l l' z open-z.
            subst (λ (k : Upload). Stands t' a' (with_upload was u (with_part k n y))) (open-once _ x z pre.is_open open-z)
            (row.replaced-stands t a was is (before_part was u x n) (part_row n y) (rest_parts was u x n) place.at place.base end.at end.base place_at place_base used-is held-is
            (old_parts x n) split s' pre.valid split' (omega arith) (omega arith) encodable old.length old.size length-is size_is
            t' a' [] (bytes_of digest) [] _ _ after_is refl refl refl refl e l l' content refl e');
      }
