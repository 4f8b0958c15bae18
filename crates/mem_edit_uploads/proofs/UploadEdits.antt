-- An upload opened, or taken out with its parts: what the steps require, and what memory then stands for. Assumes nothing.
use Prim.Native.Nat.{ℕ, ◌+◌, ◌-◌, ◌*◌, ◌/◌, ◌≤◌, ◌<◌, ◌^◌}
use mathlib.Core.Path.{◌≡◌, refl, sym, ap, ◌∙◌, subst}
use mathlib.Core.Bool.{true}
use mathlib.Core.List.{List, [], ◌∷◌, ◌++◌, append_assoc, append-nil}
use mathlib.Core.Option.{none, some}
use native.Mathlib.Omega.{arith}
use lib.ListN.{length, take, drop, length-append}
use Rattle.base_number.specs.Number.{le, replaced_at, AreBytes}
use Rattle.base_md5.specs.declared.words.Digest.{Digest}
use Rattle.base_md5.specs.Md5.{bytes_of}
use Rattle.base_order.proofs.OrderLaws.{numbers}
use Rattle.base_buffer.specs.Buffer.{spliced}
use Rattle.machine.specs.Map.{Map, by_number, lookup, total}
use Rattle.machine.specs.Names.{Bytes}
use Rattle.machine.specs.Pairs.{pairs_held}
use Rattle.machine.specs.State.{Upload, State, held, parts_in, with_upload, without_upload, with_next}
use Rattle.machine.specs.Steps.{new_upload}
use Rattle.machine.specs.Valid.{Valid, UploadOk}
use Rattle.machine.proofs.MapSums.{length-insert, length-remove, total-insert, total-remove, total-share}
use Rattle.machine.proofs.MapLaws.{lookup-insert, every-lookup}
use Rattle.machine.proofs.Counts.{no-upload, held-open}
use Rattle.machine.proofs.KeepsValid.{without-upload-valid}
use Rattle.machine.proofs.PairLaws.{kept-few, kept-held}
use Rattle.pairs_stored.specs.Stored.{pair_lengths, pair_bytes}
use Rattle.pairs_stored.proofs.StoredLaws.{length-lengths, length-bytes}
use Rattle.mem_row.specs.declared.Head.{Head}
use Rattle.mem_row.specs.Row.{Row, encode_rows, contents_of, head_of, row_bytes, Encodable}
use Rattle.mem_row.proofs.RowLaws.{encode-append, contents-append}
use Rattle.mem_layout.specs.declared.Header.{Header}
use Rattle.mem_layout.specs.Rules.{no_digest, upload_kind, parts_most}
use Rattle.mem_layout.specs.Memory.{rows_of, upload_row, part_rows, whole, state_of, Stands}
use Rattle.mem_layout.proofs.TestLaws.{stored-path-length}
use Rattle.mem_layout.proofs.UploadLaws.{upload-encodable}
use Rattle.mem_layout.proofs.WholeLaws.{whole-stands}
use Rattle.mem_layout.proofs.StandsLaws.{header-back, stands-state}
use Rattle.mem_layout.proofs.RowCounts.{length-contents}
use Rattle.mem_find.specs.declared.RowPlace.{RowPlace}
use Rattle.mem_layout.specs.Header.{header_of, headed, header_at, header_length}
use Rattle.mem_find.specs.declared.PassedParts.{PassedParts}
use Rattle.mem_find.specs.Places.{place_after, before_upload, before_parts, from_upload, after_upload, through_parts, upload_row_of, passed_parts}
use Rattle.mem_find.specs.Known.{rows_in, WholeOpenAt, OfOpenAt}
use Rattle.mem_find.proofs.Found.{is-some}
use Rattle.mem_find.proofs.Splits.{upload-place, upload-found, parts-after}
use Rattle.mem_find_uploads.proofs.Answers.{PlacedAfter, place_after_lem, placed-after}
use Rattle.mem_edit.proofs.Changes.{new-upload-rows, without-upload-rows}
use Rattle.mem_edit.proofs.TablesRoom.{tables-fit}
use Rattle.mem_edit.proofs.Standing.{removed}
use Rattle.mem_edit.specs.Rows.{Replaceable}
use Rattle.mem_edit.proofs.OneRow as row

-- the digest of a row that has none
abbrev zero_digest : Digest
zero_digest = record { a = 0; b = 0; c = 0; d = 0 }

zero-bytes : bytes_of zero_digest ≡ no_digest
unfolding bytes_of le
zero-bytes = refl

-- bytes written after the last that are used are put in there
put_last : (a d : List ℕ) (end n : ℕ) → n ≡ length d → replaced_at a end d n ≡ spliced a end 0 end d
put_last a d end n e =
    let z : end - (end + 0) ≡ 0 = omega arith in
    let k : end + n ≡ end - 0 + length d = omega arith in
    append_assoc (take end a) d (drop (end + n) a) ∙ rw (z, k)

module _ (t a : List ℕ) (b : AreBytes t) (w : whole t a ≡ true) (end : RowPlace) (end_is : end ≡ place_after (rows_of (state_of t a)))
    (header : Header) (read : header ≡ header_at t) where
  abbrev s : State
  s = state_of t a

  abbrev stands : Stands t a s
  stands = whole-stands t a b w

  header_is : header ≡ header_of (length a) s
  header_is = read ∙ header-back t a s stands

  uploads-are : header.uploads ≡ length s.U
  uploads-are = ap (λ (h : Header). h.uploads) header_is

  parts_are : header.parts ≡ total parts_in s.U
  parts_are = ap (λ (h : Header). h.parts) header_is

  rows_are : end.row ≡ length (rows_of s)
  rows_are = ap (λ (x : RowPlace). x.row) end_is

  used-is : end.at ≡ header_length + length (encode_rows (rows_of s))
  used-is = ap (λ (x : RowPlace). x.at) end_is

  held-is : end.base ≡ length (contents_of (rows_of s))
  held-is = ap (λ (x : RowPlace). x.base) end_is

  -- opened
  module _ (stamp : ℕ) (p : List ℕ) (m : Map Bytes Bytes) (valid : Valid (length a) (with_next (with_upload s s.N (new_upload stamp p m)))) where
    abbrev x : Upload
    x = new_upload stamp p m

    abbrev s' : State
    s' = with_next (with_upload s s.N x)

    upload-ok : UploadOk (s.N + 1) s.N x
    upload-ok = every-lookup numbers (UploadOk (s.N + 1)) s.N x s'.U valid.upload (lookup-insert numbers s.N x s.U)

    absent : lookup by_number s.N s.U ≡ none
    absent = no-upload s.N s.U stands.valid.upload

    one_more : length s.U + 1 ≡ length s'.U
    one_more = omega (arith, rw absent at (length-insert numbers s.N x s.U))

    same_parts : total parts_in s.U ≡ total parts_in s'.U
    same_parts = omega (arith, rw absent at (total-insert numbers parts_in s.N x s.U))

    path-most : length p ≤ 128
    path-most = (stored-path-length p upload-ok.path).below

    row-encodable : Encodable (upload_row s.N x)
    row-encodable = upload-encodable (s.N + 1) s.N x valid.last upload-ok

    few : length (pair_lengths m) ≤ 16
    few = omega (arith, length-lengths m, kept-few m upload-ok.pairs)

    split : rows_of s ≡ rows_of s ++ []
    split = sym (append-nil (rows_of s))

    split' : rows_of s' ≡ rows_of s ++ (upload_row s.N x ∷ [])
    split' = new-upload-rows s x (s.N + 1) stands.valid.upload refl

    abbrev opened : Header
    opened = record { arena = header.arena; next = header.next + 1; objects = header.objects; uploads = header.uploads + 1; parts = header.parts }

    opened-is : opened ≡ header_of (length a) s'
    opened-is = rw (header_is, one_more, same_parts)

    held-there : end.base ≡ held s
    held-there = held-is ∙ length-contents s

    pub record Opening : Type 0 where
      pub path : length p ≤ 128
      pub number : header.next < 256 ^ 4
      pub count : header.uploads ≤ 15
      pub room : end.base + (pairs_held m + 0) ≤ length a

    pub opening : Opening
    opening =
        record {
          path = path-most;
          number = let n = ap (λ (h : Header). h.next) header_is in let l = valid.last in omega arith;
          count = let l = valid.opens in omega (arith, uploads-are, one_more);
          room = let r = valid.room in omega (arith, held-there, held-open s stamp p m stands.valid.upload);
        }

    -- the block is written: n length bytes, and `size` bytes after the last byte held
    module _ (a' : List ℕ) (n size : ℕ) (size_is : size ≡ pairs_held m + 0) (e : a' ≡ replaced_at a end.base (pair_bytes m ++ []) size) (keeps : length a' ≡ length a)
        (lengths : List ℕ) (n-is : length lengths ≡ n) (lengths-are : lengths ≡ pair_lengths m) where
      block-length : length (pair_bytes m) ≡ size
      block-length = omega (arith, length-bytes m, size_is)

      put : a' ≡ spliced a end.base 0 end.base (pair_bytes m)
      put = e ∙ ap (λ (d : List ℕ). replaced_at a end.base d size) (append-nil (pair_bytes m)) ∙ put_last a (pair_bytes m) end.base size (sym block-length)

      twice : n ≡ 2 * length m
      twice = omega (arith, n-is, ap length lengths-are, length-lengths m)

      abbrev head : Head
      head = record { size = size; number = header.next; stamp = stamp; kind = upload_kind; pairs = n / 2; pathlen = length p; count = 0 }

      head-is : head ≡ head_of (upload_row s.N x)
      head-is =
          let half : n / 2 ≡ length m = omega (arith, twice) in
          let next : header.next ≡ s.N = ap (λ (h : Header). h.next) header_is in
          λ i. record { size = sym block-length i; number = next i; stamp = stamp; kind = upload_kind; pairs = half i; pathlen = length p; count = 0 }

      pub record Opened : Type 0 where
        pub small : size < 256 ^ 4
        pub few : n ≤ 16
        pub room : Replaceable t end.at 0 end.at head p lengths
        pub stands : (t' : List ℕ) → t' ≡ headed (spliced t end.at 0 end.at (row_bytes head (bytes_of zero_digest) p lengths)) opened → length t' ≡ length t → Stands t' a' s'

      pub after_block : Opened
      unfolding encode_rows contents_of
      after_block =
          record {
            small = omega (arith, size_is, kept-held m upload-ok.pairs);
            few = omega (arith, twice, length-lengths m, few);
            room =
                subst (λ (ls : List ℕ). Replaceable t end.at 0 end.at head p ls) (sym lengths-are)
                (row.row_room t a s stands (rows_of s) (upload_row s.N x) [] end.at end.base end.at end.base used-is held-is used-is held-is
                [] split s' valid split' path-most few row-encodable 0 0 refl refl head head-is);
            stands =
                λ t' e' l.
                row.replaced-stands t a s stands (rows_of s) (upload_row s.N x) [] end.at end.base end.at end.base used-is held-is used-is held-is
                [] split s' valid split' path-most few row-encodable 0 0 refl refl
                t' a' p (bytes_of zero_digest) lengths _ _ opened-is head-is zero-bytes refl lengths-are e' l keeps (pair_bytes m) refl put;
          }

  -- taken out
  module _ (u : ℕ) (y : Upload) (found : lookup by_number u s.U ≡ some y) (here : RowPlace) (here-is : here ≡ upload_row_of s u)
      (parts : PassedParts) (parts-told : parts ≡ passed_parts s u y) where
    abbrev gone : List Row
    gone = upload_row u y ∷ part_rows y.parts

    through : through_parts s u y ≡ before_upload s u ++ gone
    unfolding through_parts before_parts
    through = append_assoc (before_upload s u) (upload_row u y ∷ []) (part_rows y.parts)

    here-after : PlacedAfter (rows_of s) (before_upload s u) (from_upload s u) here
    here-after = placed-after (rows_of s) (before_upload s u) (from_upload s u) here (upload-place s u) here-is

    next-after : PlacedAfter (rows_of s) (through_parts s u y) (after_upload s u) parts.next
    unfolding passed_parts
    next-after =
        placed-after (rows_of s) (through_parts s u y) (after_upload s u) parts.next (parts-after s u y found)
        (ap (λ (k : PassedParts). k.next) parts-told ∙ sym (place_after_lem (rows_of s) (through_parts s u y) (after_upload s u) (parts-after s u y found)))

    count-is : parts.count ≡ length y.parts
    unfolding passed_parts
    count-is = ap (λ (k : PassedParts). k.count) parts-told

    -- what a sum over rows is before the upload, with it, in all, and without it
    record Summed (f : List Row → ℕ) : Type 0 where
      passed : f (through_parts s u y) ≡ f (before_upload s u) + f gone
      all : f (rows_of s) ≡ f (through_parts s u y) + f (after_upload s u)
      left : f (rows_of (without_upload s u)) ≡ f (before_upload s u) + f (after_upload s u)

    summed : (f : List Row → ℕ) → ((xs ys : List Row) → f (xs ++ ys) ≡ f xs + f ys) → Summed f
    summed f adds =
        record {
          passed = ap f through ∙ adds (before_upload s u) gone;
          all = ap f (parts-after s u y found) ∙ adds (through_parts s u y) (after_upload s u);
          left = ap f (without-upload-rows s u y found) ∙ adds (before_upload s u) (after_upload s u);
        }

    rows-summed : Summed length
    rows-summed = summed length length-append

    bytes-summed : Summed (λ rs. length (encode_rows rs))
    bytes-summed = summed (λ rs. length (encode_rows rs)) (λ xs ys. ap length (encode-append xs ys) ∙ length-append (encode_rows xs) (encode_rows ys))

    data-summed : Summed (λ rs. length (contents_of rs))
    data-summed = summed (λ rs. length (contents_of rs)) (λ xs ys. ap length (contents-append xs ys) ∙ length-append (contents_of xs) (contents_of ys))

    abbrev closed : Header
    closed = record { arena = header.arena; next = header.next; objects = header.objects; uploads = header.uploads - 1; parts = header.parts - parts.count }

    closed_is : closed ≡ header_of (length a) (without_upload s u)
    closed_is =
        let one : length s.U - 1 ≡ length (without_upload s u).U = omega (arith, rw found at (length-remove numbers u s.U)) in
        let less : total parts_in s.U - parts.count ≡ total parts_in (without_upload s u).U = omega (arith, count-is, rw found at (total-remove numbers parts_in u s.U)) in
        rw (header_is, one, less)

    -- where the rows end then
    abbrev left : RowPlace
    left =
        record {
          row = end.row - (parts.next.row - here.row);
          at = end.at - (parts.next.at - here.at);
          base = end.base - (parts.next.base - here.base);
        }

    left_is : left ≡ place_after (rows_of (without_upload s u))
    left_is =
        let h = here-after in
        let n = next-after in
        let rows = rows-summed in
        let bytes = bytes-summed in
        let content = data-summed in
        let r : left.row ≡ length (rows_of (without_upload s u)) = omega (arith, rows_are) in
        let t : left.at ≡ header_length + length (encode_rows (rows_of (without_upload s u))) = omega (arith, used-is) in
        let b : left.base ≡ length (contents_of (rows_of (without_upload s u))) = omega (arith, held-is) in
        λ i. record { row = r i; at = t i; base = b i }

    pub record Removal : Type 0 where
      pub some-rows : here.row ≤ parts.next.row
      pub span : here.at ≤ parts.next.at
      pub size : here.base ≤ parts.next.base
      pub uploads : 1 ≤ header.uploads
      pub count : parts.count ≤ header.parts
      pub few : header.parts ≤ parts_most
      pub within : parts.next.row - here.row ≤ end.row
      pub rows : (header_length ≤ here.at) × (here.at + (parts.next.at - here.at) ≤ end.at) × (end.at ≤ length t)
      pub content : (here.base + (parts.next.base - here.base) ≤ end.base) × (end.base ≤ length a)
      pub stands : (t' a' : List ℕ) → t' ≡ headed (spliced t here.at (parts.next.at - here.at) end.at []) closed
          → a' ≡ spliced a here.base (parts.next.base - here.base) end.base [] → length t' ≡ length t → length a' ≡ length a → Stands t' a' (without_upload s u)
      pub ends : (t' a' : List ℕ) → Stands t' a' (without_upload s u) → left ≡ place_after (rows_of (state_of t' a'))

    pub removal : Removal
    removal =
        let h = here-after in
        let n = next-after in
        let rows = rows-summed in
        let bytes = bytes-summed in
        let content = data-summed in
        record {
          some-rows = omega arith;
          span = omega arith;
          size = omega arith;
          uploads = omega (arith, uploads-are, rw found at (length-remove numbers u s.U));
          count = omega (arith, count-is, parts_are, total-share numbers parts_in u y s.U found);
          few = let l = stands.valid.parts in omega (arith, parts_are);
          within = omega (arith, rows_are);
          rows =
              let f = tables-fit (length a) s stands.small stands.valid in
              (omega arith, omega (arith, used-is), omega (arith, used-is, stands.size));
          content = let v = stands.valid.room in (omega (arith, held-is), omega (arith, held-is, length-contents s));
          stands =
              λ t' a' e e' l l'.
              removed t a s stands (without_upload s u) (without-upload-valid (length a) s u stands.valid) _ t' a' _ closed_is e l l' (before_upload s u) gone (after_upload s u)
              here.at (parts.next.at - here.at) end.at here.base (parts.next.base - here.base) end.base (upload-found s u y found) (without-upload-rows s u y found)
              h.at (omega arith) used-is refl h.base (omega arith) held-is e';
          ends = λ t' a' z. left_is ∙ ap (λ (x : State). place_after (rows_of x)) (sym (stands-state t' a' _ z));
        }

-- the same of the upload that is open there
module _ (t a : List ℕ) (bytes : AreBytes t) (here : RowPlace) (o : WholeOpenAt t a here) (end : RowPlace) (end-is : end ≡ place_after (rows_in t a))
    (header : Header) (header-is : header ≡ header_at t) (parts : PassedParts) (told : OfOpenAt t a here (λ s u x. parts ≡ passed_parts s u x)) where
  abbrev opened-there : (x : Upload) × (lookup by_number o.1.0 (state_of t a).U ≡ some x)
  opened-there = is-some (lookup by_number o.1.0 (state_of t a).U) o.1.2

  abbrev pub RemovalAt : Type 0
  RemovalAt = Removal t a bytes o.0 end end-is header header-is o.1.0 opened-there.0 opened-there.1 here o.1.1 parts (told o.1.0 opened-there.0 o.1.1 opened-there.1)

  pub removal-at : RemovalAt
  removal-at = removal t a bytes o.0 end end-is header header-is o.1.0 opened-there.0 opened-there.1 here o.1.1 parts (told o.1.0 opened-there.0 o.1.1 opened-there.1)
