-- An object put in the place of what is there: what the steps require, and what memory then stands for. Assumes nothing.
use Prim.Native.Nat.{ℕ, ◌+◌, ◌-◌, ◌/◌, ◌≤◌, ◌<◌, ◌^◌}
use mathlib.Core.Path.{◌≡◌, refl, sym, ap, ◌∙◌, subst}
use mathlib.Core.Bool.{true, cond}
use mathlib.Core.List.{List, [], ◌∷◌, ◌++◌}
use mathlib.Core.Option.{some}
use native.Mathlib.Omega.{arith}
use lib.Dec.{eqb}
use lib.ListN.{length, take, drop, length-append, length-drop}
use lib.Seq.{length-take-le}
use Rattle.base_md5.specs.declared.words.Digest.{Digest}
use Rattle.base_md5.specs.Md5.{bytes_of}
use Rattle.base_number.specs.Number.{AreBytes}
use Rattle.base_buffer.specs.Buffer.{spliced, rotated}
use Rattle.base_order.specs.Order.{by_bytes}
use Rattle.base_order.proofs.OrderLaws.{bytes}
use Rattle.machine.specs.Map.{Map, lookup}
use Rattle.machine.specs.State.{Object, State, held, with_object}
use Rattle.machine.specs.Names.{Bytes}
use Rattle.machine.specs.Pairs.{pairs_held}
use Rattle.machine.specs.Valid.{ObjectOk, Valid}
use Rattle.machine.proofs.MapLaws.{lookup-insert, every-lookup}
use Rattle.machine.proofs.PairLaws.{kept-few}
use Rattle.pairs_stored.specs.Stored.{pair_lengths, pair_bytes, sum_of, pairs_at, block_ok}
use Rattle.pairs_stored.proofs.StoredLaws.{length-lengths, length-bytes}
use Rattle.pairs_stored.proofs.Blocks.{block}
use Rattle.mem_row.specs.Row.{encode_rows, head_at, head_of, numbers_length, Encodable, EncodableAll}
use Rattle.mem_row.proofs.RowLaws.{encodable-right}
use Rattle.mem_layout.specs.declared.Header.{Header}
use Rattle.mem_layout.specs.Header.{header_of, header_at, header_length}
use Rattle.mem_layout.specs.Rules.{plain_kind, joined_kind, parts_most}
use Rattle.mem_layout.proofs.RowCounts.{length-contents}
use Rattle.mem_layout.specs.Memory.{rows_of, object_row, whole, state_of, Stands}
use Rattle.mem_layout.proofs.TestLaws.{stored-path-length}
use Rattle.mem_layout.proofs.ObjectLaws.{Etagged, etagged}
use Rattle.mem_layout.proofs.WholeLaws.{whole-stands}
use Rattle.mem_layout.proofs.StandsLaws.{rows-encodable}
use Rattle.mem_find.specs.declared.RowPlace.{RowPlace}
use Rattle.mem_find.specs.declared.Lookup.{Lookup}
use Rattle.mem_find.specs.Places.{place_after, before_object, after_object, object_place}
use Rattle.mem_find.proofs.Found.{is-some, place_found}
use Rattle.mem_find.proofs.RowsAt.{At, row-at}
use Rattle.mem_find.proofs.Splits.{object-found}
use Rattle.mem_find.specs.Known.{ObjectPlaced}
use Rattle.mem_edit.specs.declared.rows.OldRow.{OldRow}
use Rattle.mem_edit.specs.Rows.{old_row_at, Replaceable}
use Rattle.mem_edit.specs.Objects.{object_head, with_objects, row_put, RowPuttable, object_with, block_after_held}
use Rattle.mem_edit.proofs.OldRows.{sizes_of, read-sizes, one-sizes}
use Rattle.mem_edit.proofs.Changes.{old_rows, rest_rows, was-rows, put-rows, put_count}
use Rattle.mem_edit.proofs.ObjectEdits.{header_is, at-is, base-is, used-is, held-is}
use Rattle.mem_edit.proofs.OneRow as row

-- what the code reads of the row that a lookup found
module _ (t a : List ℕ) (b : AreBytes t) (w : whole t a ≡ true) (p : List ℕ) (place : Lookup) (place_is : place ≡ object_place (state_of t a) p) where
  abbrev s : State
  s = state_of t a

  row-begins : place.at ≡ header_length + length (encode_rows (before_object s p))
  unfolding object_place
  row-begins = ap (λ (x : Lookup). x.at) place_is

  here : (x : Object) → lookup by_bytes p s.O ≡ some x → At t a s (whole-stands t a b w) (before_object s p) (object_row p x) (after_object s p)
  here x f = row-at t a s (whole-stands t a b w) (before_object s p) (object_row p x) (after_object s p) (object-found s p x f)

  pub old-inside : place.found ≡ true → place.at + numbers_length ≤ length t
  old-inside e =
      let there = is-some _ (place_found s p place true place_is e) in
      let i = (here there.0 there.1).inside in
      omega (arith, row-begins)

  pub old_row : old_row_at place.found (head_at (drop place.at t)) ≡ sizes_of (old_rows s p)
  old_row =
      read-sizes (object_row p) (lookup by_bytes p s.O) place.found (head_at (drop place.at t)) (sym (place_found s p place _ place_is refl))
      (λ x f. one-sizes t a s (whole-stands t a b w) (before_object s p) (object_row p x) (after_object s p) (here x f) place.at row-begins)

-- what an object that is put asks for, and what memory then stands for
pub record Putting (t a p : List ℕ) (place : Lookup) (end : RowPlace) (old : OldRow) (stamp kind count : ℕ) (digest : Digest) (content : List ℕ) (m : Map Bytes Bytes) : Type 0 where
  pub block_room : (place.base + old.size ≤ end.base) × (end.base ≤ length a) × (end.base + (pairs_held m + length content) ≤ length a + old.size)
  pub row_room : (lengths : List ℕ) (size : ℕ) → lengths ≡ pair_lengths m → size ≡ pairs_held m + length content → RowPuttable t place.at old end.at stamp kind count p lengths size
  -- its block is put in the place of the old one
  pub stands : (lengths : List ℕ) (size : ℕ) → lengths ≡ pair_lengths m → size ≡ pairs_held m + length content → (t' a' : List ℕ)
      → t' ≡ row_put t place.at old end.at stamp kind count digest p lengths size → a' ≡ spliced a place.base old.size end.base (pair_bytes m ++ content)
      → length t' ≡ length t → length a' ≡ length a → Stands t' a' (with_object (state_of t a) p (object_with stamp kind count digest content m))
  -- its block stood after the last byte held
  pub moved : (lengths : List ℕ) (size : ℕ) → lengths ≡ pair_lengths m → size ≡ pairs_held m + length content → (t' a₁ a' : List ℕ)
      → t' ≡ row_put t place.at old end.at stamp kind count digest p lengths size → take size (drop end.base a) ≡ pair_bytes m ++ content
      → a₁ ≡ rotated a place.base (end.base - place.base) size → a' ≡ spliced a₁ (place.base + size) old.size (end.base + size) []
      → length t' ≡ length t → length a' ≡ length a → Stands t' a' (with_object (state_of t a) p (object_with stamp kind count digest content m))

module _ (t a : List ℕ) (b : AreBytes t) (w : whole t a ≡ true) (p : List ℕ) (place : Lookup) (end : RowPlace) (placed : ObjectPlaced t a p place end)
    (stamp kind count : ℕ) (digest : Digest) (content : List ℕ) (m : Map Bytes Bytes) (kind-most : kind ≤ joined_kind) (count_most : count ≤ cond (eqb kind plain_kind) 0 parts_most)
    (valid : Valid (length a) (with_object (state_of t a) p (object_with stamp kind count digest content m))) (old : OldRow) (old-is : old ≡ sizes_of (old_rows (state_of t a) p)) where
  abbrev was : State
  was = state_of t a

  abbrev y : Object
  y = object_with stamp kind count digest content m

  abbrev s' : State
  s' = with_object was p y

  stands : Stands t a was
  stands = whole-stands t a b w

  tagged : Etagged kind count (bytes_of digest)
  tagged = etagged kind count (bytes_of digest) kind-most count_most

  object-ok : ObjectOk p y
  object-ok = every-lookup bytes ObjectOk p y s'.O valid.object (lookup-insert bytes p y was.O)

  short : length p ≤ 128
  short = (stored-path-length p object-ok.path).below

  few : length (pair_lengths m) ≤ 16
  few = omega (arith, length-lengths m, kept-few m object-ok.pairs)

  encodable : Encodable (object_row p y)
  encodable = (encodable-right (before_object was p) (object_row p y ∷ rest_rows was p) (subst EncodableAll (put-rows was p y) (rows-encodable (length a) s' stands.small valid))).0

  block-length : length (pair_bytes m ++ content) ≡ pairs_held m + length content
  block-length = length-append (pair_bytes m) content ∙ ap (λ (n : ℕ). n + length content) (length-bytes m)

  -- how many objects there are, before and after
  counted : (old.rows ≤ (header_at t).objects + 1) × ((header_at t).objects + 1 < 256 ^ 2) × ((header_at t).objects + 1 - old.rows ≡ length s'.O)
  counted =
      let n = ap (λ (h : Header). h.objects) (header_is t a b w) in
      let v = stands.valid.paths in
      let k = put_count was p y in
      let r = ap (λ (x : OldRow). x.rows) old-is in
      (omega arith, omega arith, omega arith)

  after_is : with_objects (header_at t) ((header_at t).objects + 1 - old.rows) ≡ header_of (length a) s'
  after_is = ap (with_objects (header_at t)) counted.2 ∙ ap (λ (h : Header). with_objects h (length s'.O)) (header_is t a b w)

  -- the row that is put, with a block of `size` bytes
  module _ (lengths : List ℕ) (size : ℕ) (lengths-are : lengths ≡ pair_lengths m) (size_is : size ≡ pairs_held m + length content) where
    head-is : object_head stamp kind count p lengths size ≡ head_of (object_row p y)
    head-is =
        let half : length lengths / 2 ≡ length m = omega (arith, ap length lengths-are, length-lengths m) in
        let z : size ≡ length (pair_bytes m ++ content) = size_is ∙ sym block-length in
        λ i. record { size = z i; number = 0; stamp = stamp; kind = sym tagged.same_kind i; pairs = half i; pathlen = length p; count = sym tagged.same_count i }

    room : Replaceable t place.at old.length end.at (object_head stamp kind count p lengths size) p lengths
    room =
        subst (λ (ls : List ℕ). Replaceable t place.at old.length end.at (object_head stamp kind count p lengths size) p ls) (sym lengths-are)
        (row.row_room t a was stands (before_object was p) (object_row p y) (rest_rows was p) place.at place.base end.at end.base
        (at-is t a b w p place placed.0 end placed.1) (base-is t a b w p place placed.0 end placed.1) (used-is t a b w p place placed.0 end placed.1) (held-is t a b w p place placed.0 end placed.1)
        (old_rows was p) (was-rows was p) s' valid (put-rows was p y) short few encodable old.length old.size (ap (λ (x : OldRow). x.length) old-is) (ap (λ (x : OldRow). x.size) old-is)
        (object_head stamp kind count p lengths size) head-is)

    puttable : RowPuttable t place.at old end.at stamp kind count p lengths size
    puttable = record { small = let f = encodable.fits.0 in omega (arith, size_is, block-length); counted = (counted.0, counted.1); row = room }

    module _ (t' a' : List ℕ) (e : t' ≡ row_put t place.at old end.at stamp kind count digest p lengths size) (l : length t' ≡ length t) (l' : length a' ≡ length a) where
      put-stands : a' ≡ spliced a place.base old.size end.base (pair_bytes m ++ content) → Stands t' a' s'
      put-stands e' =
          row.replaced-stands t a was stands (before_object was p) (object_row p y) (rest_rows was p) place.at place.base end.at end.base
          (at-is t a b w p place placed.0 end placed.1) (base-is t a b w p place placed.0 end placed.1) (used-is t a b w p place placed.0 end placed.1) (held-is t a b w p place placed.0 end placed.1)
          (old_rows was p) (was-rows was p) s' valid (put-rows was p y) short few encodable old.length old.size (ap (λ (x : OldRow). x.length) old-is) (ap (λ (x : OldRow). x.size) old-is)
          t' a' p (bytes_of digest) lengths _ _ after_is head-is (sym tagged.same-digest) refl lengths-are e l l' (pair_bytes m ++ content) refl e'

      moved-stands : (a₁ : List ℕ) → take size (drop end.base a) ≡ pair_bytes m ++ content
          → a₁ ≡ rotated a place.base (end.base - place.base) size → a' ≡ spliced a₁ (place.base + size) old.size (end.base + size) [] → Stands t' a' s'
      moved-stands a₁ =
          row.moved-stands t a was stands (before_object was p) (object_row p y) (rest_rows was p) place.at place.base end.at end.base
          (at-is t a b w p place placed.0 end placed.1) (base-is t a b w p place placed.0 end placed.1) (used-is t a b w p place placed.0 end placed.1) (held-is t a b w p place placed.0 end placed.1)
          (old_rows was p) (was-rows was p) s' valid (put-rows was p y) short few encodable old.length old.size (ap (λ (x : OldRow). x.length) old-is) (ap (λ (x : OldRow). x.size) old-is)
          t' a' p (bytes_of digest) lengths _ _ after_is head-is (sym tagged.same-digest) refl lengths-are e l l' a₁ size (size_is ∙ sym block-length)

  pub putting : Putting t a p place end old stamp kind count digest content m
  putting =
      record {
        block_room =
            let r = row.data-room t a was stands (before_object was p) (object_row p y) (rest_rows was p) place.at place.base end.at end.base
            (at-is t a b w p place placed.0 end placed.1) (base-is t a b w p place placed.0 end placed.1) (used-is t a b w p place placed.0 end placed.1) (held-is t a b w p place placed.0 end placed.1)
            (old_rows was p) (was-rows was p) s' valid (put-rows was p y) short few encodable old.length old.size (ap (λ (x : OldRow). x.length) old-is) (ap (λ (x : OldRow). x.size) old-is) in
            (r.0, r.1, omega (arith, r.2, block-length));
        row_room = puttable;
        stands = λ ls size ls-are size_is t' a' e e' l l'. put-stands ls size ls-are size_is t' a' e l l' e';
        moved = λ ls size ls-are size_is t' a₁ a' e there turned cut l l'. moved-stands ls size ls-are size_is t' a' e l l' a₁ there turned cut;
      }

-- the block that stands after the last byte held, by the lengths of its pairs: its pairs, then its data
abbrev pub moved_pairs : (t a : List ℕ) (lengths : Bytes) (size : ℕ) → Map Bytes Bytes
moved_pairs t a lengths size = pairs_at lengths (block_after_held t a size)

abbrev pub moved_content : (t a : List ℕ) (lengths : Bytes) (size : ℕ) → List ℕ
moved_content t a lengths size = drop (sum_of lengths) (block_after_held t a size)

pub record HeldBlock (t a : List ℕ) (lengths : Bytes) (size : ℕ) (end : RowPlace) : Type 0 where
  pub lengths-are : lengths ≡ pair_lengths (moved_pairs t a lengths size)
  pub block-is : take size (drop end.base a) ≡ pair_bytes (moved_pairs t a lengths size) ++ moved_content t a lengths size
  pub size_is : size ≡ pairs_held (moved_pairs t a lengths size) + length (moved_content t a lengths size)
  pub inside : end.base + size ≤ length a

pub held-block : (t a : List ℕ) (lengths : Bytes) (size : ℕ) (end : RowPlace) → end ≡ place_after (rows_of (state_of t a))
    → held (state_of t a) + size ≤ length a → block_ok lengths (block_after_held t a size) ≡ true → HeldBlock t a lengths size end
held-block t a lengths size end end_is room stored =
    let m = moved_pairs t a lengths size in
    let content = moved_content t a lengths size in
    let told = block lengths (block_after_held t a size) stored in
    let at-end : end.base ≡ held (state_of t a) = ap (λ (x : RowPlace). x.base) end_is ∙ length-contents (state_of t a) in
    let l : length (block_after_held t a size) ≡ size = length-take-le size (drop (held (state_of t a)) a) (rw length-drop (omega arith)) in
    record {
      lengths-are = told.lengths;
      block-is = ap (λ (i : ℕ). take size (drop i a)) at-end ∙ told.bytes;
      size_is = sym l ∙ ap length told.bytes ∙ length-append (pair_bytes m) content ∙ ap (λ (n : ℕ). n + length content) (length-bytes m);
      inside = omega (arith, at-end);
    }
