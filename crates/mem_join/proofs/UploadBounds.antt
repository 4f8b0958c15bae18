-- The bounds of an open upload. Assumes nothing.
use Prim.Native.Nat.{ℕ, ◌+◌, ◌-◌, ◌*◌, ◌≤◌}
use mathlib.Core.Path.{◌≡◌, refl, ap, ◌∙◌, subst}
use mathlib.Core.List.{List, [], ◌∷◌, ◌++◌, append-nil}
use mathlib.Core.Option.{some}
use native.Mathlib.Omega.{arith}
use lib.ListN.{length, drop, length-append}
use Rattle.base_order.proofs.OrderLaws.{numbers}
use Rattle.machine.specs.Map.{Map, by_number, lookup}
use Rattle.machine.specs.State.{Part, Upload, State, parts_in}
use Rattle.machine.proofs.MapSums.{total-share}
use Rattle.pairs_stored.specs.Stored.{pair_bytes}
use Rattle.mem_row.specs.declared.Head.{Head}
use Rattle.mem_row.specs.Row.{head_at, encode_row, encode_rows, contents_of, head_length, EncodableAll}
use Rattle.mem_row.proofs.RowLaws.{encode-append, contents-append, encodable-left, encodable-right, length-row}
use Rattle.mem_layout.specs.Rules.{parts_most}
use Rattle.mem_layout.specs.Memory.{upload_row, part_row, part_rows, rows_of, Stands}
use Rattle.mem_layout.proofs.StandsLaws.{rows-encodable}
use Rattle.mem_find.specs.declared.RowPlace.{RowPlace}
use Rattle.mem_layout.specs.Header.{header_length}
use Rattle.mem_find.specs.declared.PassedParts.{PassedParts}
use Rattle.mem_find.specs.Places.{place_after, before_upload, before_parts, through_parts, from_upload, after_upload, upload_row_of, passed_parts}
use Rattle.mem_find.proofs.Splits.{upload-place, parts-place}
use Rattle.mem_find_uploads.proofs.Answers.{place_after_lem}
use Rattle.mem_join.specs.declared.Bounds.{Bounds}
use Rattle.mem_join.specs.Bounds.{bounds_of}
use Rattle.mem_join.proofs.PathRead.{head-inside, block_inside, size-there}

length-part-bytes : (m : Map ℕ Part) → EncodableAll (part_rows m) → length (encode_rows (part_rows m)) ≡ head_length * length m
unfolding part_rows encode_rows
length-part-bytes [] f = refl
length-part-bytes (e ∷ m) f = omega (arith, length-append (encode_row (part_row e.0 e.1)) (encode_rows (part_rows m)), length-row _ f.0, length-part-bytes m f.1)

-- an upload's own row has its pairs
pub parts-data : (s : State) (u : ℕ) (x : Upload) → contents_of (before_parts s u x) ≡ contents_of (before_upload s u) ++ pair_bytes x.pairs
unfolding before_parts contents_of
parts-data s u x = contents-append (before_upload s u) (upload_row u x ∷ []) ∙ ap (λ (l : List ℕ). contents_of (before_upload s u) ++ l) (append-nil (pair_bytes x.pairs))

pub length-parts-data : (s : State) (u : ℕ) (x : Upload) → length (contents_of (before_parts s u x)) ≡ length (contents_of (before_upload s u)) + length (pair_bytes x.pairs)
length-parts-data s u x = ap length (parts-data s u x) ∙ length-append (contents_of (before_upload s u)) (pair_bytes x.pairs)

-- where its row begins, by its place and by its bounds
module _ (s : State) (u : ℕ) (here : RowPlace) (here-is : here ≡ upload_row_of s u) where
  row-after : here ≡ place_after (before_upload s u)
  row-after = here-is ∙ place_after_lem (rows_of s) (before_upload s u) (from_upload s u) (upload-place s u)

  pub row-at : here.at ≡ header_length + length (encode_rows (before_upload s u))
  row-at = ap (λ (k : RowPlace). k.at) row-after

  row-base : here.base ≡ length (contents_of (before_upload s u))
  row-base = ap (λ (k : RowPlace). k.base) row-after

pub bounds-at : (s : State) (u : ℕ) (x : Upload) (b : Bounds) → b ≡ bounds_of s u x → b.at ≡ header_length + length (encode_rows (before_upload s u))
unfolding bounds_of
bounds-at s u x b e = ap (λ (k : Bounds). k.at) e

module _ (t a : List ℕ) (s : State) (h : Stands t a s) (u : ℕ) (x : Upload) (f : lookup by_number u s.U ≡ some x) where
  pub parts-encodable : EncodableAll (part_rows x.parts)
  parts-encodable =
      encodable-left (part_rows x.parts) (after_upload s u)
      (encodable-right (before_parts s u x) (part_rows x.parts ++ after_upload s u) (subst EncodableAll (parts-place s u x f) (rows-encodable (length a) s h.small h.valid)))

  pub few-parts : length x.parts ≤ parts_most
  few-parts = let l = h.valid.parts in omega (arith, total-share numbers parts_in u x s.U f)

  pub rows-through : length (encode_rows (through_parts s u x)) ≡ length (encode_rows (before_parts s u x)) + head_length * length x.parts
  unfolding through_parts
  rows-through =
      omega (
        arith,
        ap length (encode-append (before_parts s u x) (part_rows x.parts)),
        length-append (encode_rows (before_parts s u x)) (encode_rows (part_rows x.parts)),
        length-part-bytes x.parts parts-encodable,
      )

  pub data-through : length (contents_of (through_parts s u x)) ≡ length (contents_of (before_upload s u)) + (length (pair_bytes x.pairs) + length (contents_of (part_rows x.parts)))
  unfolding through_parts
  data-through =
      omega (
        arith,
        ap length (contents-append (before_parts s u x) (part_rows x.parts)),
        length-append (contents_of (before_parts s u x)) (contents_of (part_rows x.parts)),
        length-parts-data s u x,
      )

  module _ (here : RowPlace) (here-is : here ≡ upload_row_of s u) where
    at-is : here.at ≡ header_length + length (encode_rows (before_upload s u))
    at-is = row-at s u here here-is

    base-is : here.base ≡ length (contents_of (before_upload s u))
    base-is = row-base s u here here-is

    pub row-begins : here.at + head_length ≤ length t
    row-begins = head-inside t a s h u x f here.at at-is

    module _ (parts : PassedParts) (parts_are : parts ≡ passed_parts s u x) (head : Head) (head-is : head ≡ head_at (drop here.at t)) where
      count-is : parts.count ≡ length x.parts
      unfolding passed_parts
      count-is = ap (λ (k : PassedParts). k.count) parts_are

      after_is : parts.next.at ≡ header_length + length (encode_rows (through_parts s u x))
      unfolding passed_parts
      after_is = ap (λ (k : PassedParts). k.next.at) parts_are

      data-after : parts.next.base ≡ length (contents_of (through_parts s u x))
      unfolding passed_parts
      data-after = ap (λ (k : PassedParts). k.next.base) parts_are

      pub count_small : parts.count ≤ parts_most
      count_small = omega (arith, count-is, few-parts)

      pub rows-within : head_length * parts.count ≤ parts.next.at
      rows-within = omega (arith, count-is, after_is, rows-through)

      pub block_within : here.base + head.size ≤ length a
      block_within = omega (arith, base-is, block_inside t a s h u x f here.at at-is head head-is)

      pub base-within : here.base ≤ parts.next.base
      base-within = omega (arith, base-is, data-after, data-through)

      pub bounds-are : (end : RowPlace) → end ≡ place_after (rows_of s)
          → record {
            at = here.at;
            first = parts.next.at - head_length * parts.count;
            after = parts.next.at;
            used = end.at;
            base = here.base;
            parts = here.base + head.size;
            size = parts.next.base - here.base;
            held = end.base;
            count = parts.count;
            rows = end.row;
          } ≡ bounds_of s u x
      unfolding bounds_of
      bounds-are end end_is =
          let first : parts.next.at - head_length * parts.count ≡ header_length + length (encode_rows (before_parts s u x)) = omega (arith, count-is, after_is, rows-through) in
          let pairs : here.base + head.size ≡ length (contents_of (before_parts s u x)) = omega (arith, base-is, size-there t a s h u x f here.at at-is head head-is, length-parts-data s u x) in
          let size : parts.next.base - here.base ≡ length (pair_bytes x.pairs) + length (contents_of (part_rows x.parts)) = omega (arith, base-is, data-after, data-through) in
          let used : end.at ≡ header_length + length (encode_rows (rows_of s)) = ap (λ (k : RowPlace). k.at) end_is in
          let held : end.base ≡ length (contents_of (rows_of s)) = ap (λ (k : RowPlace). k.base) end_is in
          let rows : end.row ≡ length (rows_of s) = ap (λ (k : RowPlace). k.row) end_is in
          λ i. record { at = at-is i; first = first i; after = after_is i; used = used i; base = base-is i; parts = pairs i; size = size i; held = held i; count = count-is i; rows = rows i }
