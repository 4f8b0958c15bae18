-- One row taken out, or put in the place of others: what the functions that do it require, and what memory then stands for. Assumes nothing.
use Prim.Native.Nat.{ℕ, ◌+◌, ◌-◌, ◌*◌, ◌≤◌}
use mathlib.Core.Path.{◌≡◌, refl, sym, ap, ◌∙◌}
use mathlib.Core.List.{List, [], ◌∷◌, ◌++◌, append-nil}
use native.Mathlib.Omega.{arith}
use lib.ListN.{length, take, drop, length-append}
use Rattle.machine.specs.State.{State}
use Rattle.machine.specs.Valid.{Valid}
use Rattle.base_buffer.specs.Buffer.{spliced, rotated}
use Rattle.mem_row.specs.declared.Head.{Head}
use Rattle.mem_row.specs.Row.{Row, encode_row, encode_rows, contents_of, head_at, head_of, row_bytes, head_length, span, Encodable}
use Rattle.mem_row.proofs.RowLaws.{length-row, encode-append, contents-append}
use Rattle.mem_layout.specs.declared.Header.{Header}
use Rattle.mem_layout.specs.Memory.{rows_of, Stands}
use Rattle.mem_layout.proofs.RowCounts.{length-contents}
use Rattle.mem_layout.specs.Header.{header_of, headed, header_length}
use Rattle.mem_find.proofs.RowsAt.{At, row-at}
use Rattle.mem_edit.specs.Rows.{Replaceable}
use Rattle.mem_edit.proofs.TablesRoom.{tables-fit}
use Rattle.mem_edit.proofs.Standing.{removed, replaced, moved}

module _ (t a : List ℕ) (s : State) (h : Stands t a s) (xs : List Row) (r : Row) (ys : List Row) (at base used end : ℕ)
    (at-is : at ≡ header_length + length (encode_rows xs)) (base-is : base ≡ length (contents_of xs))
    (used-is : used ≡ header_length + length (encode_rows (rows_of s))) (end_is : end ≡ length (contents_of (rows_of s))) where
  -- the row r taken out
  module _ (split : rows_of s ≡ xs ++ (r ∷ ys)) where
    here : At t a s h xs r ys
    here = row-at t a s h xs r ys split

    pub head-inside : at + head_length ≤ length t
    head-inside = omega (arith, here.inside)

    used-inside : used ≤ length t
    used-inside = let f = tables-fit (length a) s h.small h.valid in omega (arith, h.size)

    end-inside : end ≤ length a
    end-inside = let v = h.valid.room in omega (arith, length-contents s)

    rows-length : length (encode_rows (rows_of s)) ≡ length (encode_rows xs) + (span (head_of r) + length (encode_rows ys))
    unfolding encode_rows
    rows-length =
        ap length (ap encode_rows split ∙ encode-append xs (r ∷ ys))
        ∙ omega (arith, length-append (encode_rows xs) (encode_row r ++ encode_rows ys), length-append (encode_row r) (encode_rows ys), length-row r here.encodable)

    data-length : length (contents_of (rows_of s)) ≡ length (contents_of xs) + (length r.content + length (contents_of ys))
    unfolding contents_of
    data-length =
        ap length (ap contents_of split ∙ contents-append xs (r ∷ ys))
        ∙ omega (arith, length-append (contents_of xs) (r.content ++ contents_of ys), length-append r.content (contents_of ys))

    module _ (head : Head) (head-is : head ≡ head_at (drop at t)) where
      head-of : head ≡ head_of r
      head-of = head-is ∙ ap (λ (i : ℕ). head_at (drop i t)) at-is ∙ here.head

      pathlen-is : head.pathlen ≡ length r.path
      pathlen-is = ap (λ (x : Head). x.pathlen) head-of

      pairs_is : head.pairs ≡ r.pairs
      pairs_is = ap (λ (x : Head). x.pairs) head-of

      size_is : head.size ≡ length r.content
      size_is = ap (λ (x : Head). x.size) head-of

      pub rows_inside : (header_length ≤ at) × (at + span head ≤ used) × (used ≤ length t)
      rows_inside = (omega (arith, at-is), omega (arith, rows-length, pathlen-is, pairs_is), used-inside)

      pub data-inside : (base + head.size ≤ end) × (end ≤ length a)
      data-inside = (omega (arith, data-length, size_is), end-inside)

      pub removed-stands : (s' : State) → Valid (length a) s' → rows_of s' ≡ xs ++ ys → (t' a' : List ℕ) (header : Header) → header ≡ header_of (length a) s'
          → t' ≡ headed (spliced t at (span head) used []) header → a' ≡ spliced a base head.size end []
          → length t' ≡ length t → length a' ≡ length a → Stands t' a' s'
      unfolding encode_rows contents_of
      removed-stands s' valid split' t' a' header is e e' l l' =
          let n-is : span head ≡ length (encode_row r ++ []) = omega (arith, pathlen-is, pairs_is, length-row r here.encodable, length-append (encode_row r) []) in
          let m-is : head.size ≡ length (r.content ++ []) = omega (arith, size_is, length-append r.content []) in
          removed t a s h s' valid (spliced t at (span head) used []) t' a' header is e l l' xs (r ∷ []) ys at (span head) used base head.size end split split'
          at-is n-is used-is refl base-is m-is end_is e'

  -- the row r in the place of the rows old
  module _ (old : List Row) (split : rows_of s ≡ xs ++ (old ++ ys)) (s' : State) (valid : Valid (length a) s') (split' : rows_of s' ≡ xs ++ (r ∷ ys))
      (short : length r.path ≤ 128) (few : length r.lengths ≤ 16) (encodable : Encodable r) (n m : ℕ) (n-is : n ≡ length (encode_rows old)) (m-is : m ≡ length (contents_of old)) where
    was-length : length (encode_rows (rows_of s)) ≡ length (encode_rows xs) + (length (encode_rows old) + length (encode_rows ys))
    was-length =
        ap length (ap encode_rows split ∙ encode-append xs (old ++ ys))
        ∙ omega (arith, length-append (encode_rows xs) (encode_rows (old ++ ys)), ap length (encode-append old ys), length-append (encode_rows old) (encode_rows ys))

    was-data : length (contents_of (rows_of s)) ≡ length (contents_of xs) + (length (contents_of old) + length (contents_of ys))
    was-data =
        ap length (ap contents_of split ∙ contents-append xs (old ++ ys))
        ∙ omega (arith, length-append (contents_of xs) (contents_of (old ++ ys)), ap length (contents-append old ys), length-append (contents_of old) (contents_of ys))

    new-length : length (encode_rows (rows_of s')) ≡ length (encode_rows xs) + (span (head_of r) + length (encode_rows ys))
    unfolding encode_rows
    new-length =
        ap length (ap encode_rows split' ∙ encode-append xs (r ∷ ys))
        ∙ omega (arith, length-append (encode_rows xs) (encode_row r ++ encode_rows ys), length-append (encode_row r) (encode_rows ys), length-row r encodable)

    new-data : length (contents_of (rows_of s')) ≡ length (contents_of xs) + (length r.content + length (contents_of ys))
    unfolding contents_of
    new-data =
        ap length (ap contents_of split' ∙ contents-append xs (r ∷ ys))
        ∙ omega (arith, length-append (contents_of xs) (r.content ++ contents_of ys), length-append r.content (contents_of ys))

    pub row_room : (head : Head) → head ≡ head_of r → Replaceable t at n used head r.path r.lengths
    row_room head is =
        let f = tables-fit (length a) s' h.small valid in
        let g = tables-fit (length a) s h.small h.valid in
        record {
          past-header = omega (arith, at-is);
          within = omega (arith, was-length);
          inside = omega (arith, h.size);
          short = short;
          few = few;
          shared = omega (arith, encodable.fits.1.1.1.0, ap (λ (x : Head). x.kind + 4 * x.pairs) is);
          room = omega (arith, was-length, new-length, h.size, encodable.lengths);
        }

    pub data-room : (base + m ≤ end) × (end ≤ length a) × (end + length r.content ≤ length a + m)
    data-room =
        let v = h.valid.room in
        let w = valid.room in
        (omega (arith, was-data), omega (arith, length-contents s), omega (arith, was-data, new-data, length-contents s'))

    -- the row's bytes and the header are written
    module _ (t' a' path digest lengths : List ℕ) (head : Head) (header : Header) (is : header ≡ header_of (length a) s')
        (head-is : head ≡ head_of r) (d-is : digest ≡ r.digest) (p-is : path ≡ r.path) (ls-is : lengths ≡ r.lengths)
        (e : t' ≡ headed (spliced t at n used (row_bytes head digest path lengths)) header) (l : length t' ≡ length t) (l' : length a' ≡ length a) where
      abbrev src : List ℕ
      src = row_bytes head digest path lengths

      bytes : src ≡ encode_row r ++ []
      bytes = rw (head-is, d-is, p-is, ls-is) (sym (append-nil (encode_row r)))

      pub replaced-stands : (content : List ℕ) → content ≡ r.content → a' ≡ spliced a base m end content → Stands t' a' s'
      unfolding encode_rows contents_of
      replaced-stands content content-is e' =
          replaced t a s h s' valid (spliced t at n used src) t' a' header is e l l' xs old (r ∷ []) ys at n used base m end src
          split split' bytes at-is n-is used-is refl base-is m-is end_is content (content-is ∙ sym (append-nil r.content)) e'

      -- its block stood after the last byte held
      pub moved-stands : (a₁ : List ℕ) (size : ℕ) → size ≡ length r.content → take size (drop end a) ≡ r.content
          → a₁ ≡ rotated a base (end - base) size → a' ≡ spliced a₁ (base + size) m (end + size) [] → Stands t' a' s'
      unfolding encode_rows contents_of
      moved-stands a₁ size size_is there turned cut =
          let one : r.content ≡ r.content ++ [] = sym (append-nil r.content) in
          moved t a s h s' valid (spliced t at n used src) t' a' header is e l l' xs old (r ∷ []) ys at n used base m end src
          split split' bytes at-is n-is used-is refl base-is m-is end_is a₁ size (size_is ∙ ap length one) (there ∙ one) turned cut
