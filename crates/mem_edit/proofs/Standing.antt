-- Memory that stands for s, with rows replaced, cut out or put in, stands for the changed state. Each law takes what the callees ensure.
-- Assumes nothing.
use Prim.Native.Nat.{ℕ, ◌+◌, ◌-◌}
use mathlib.Core.Path.{◌≡◌, refl, sym, ap, ap₂, ◌∙◌, subst}
use mathlib.Core.List.{List, [], ◌++◌}
use native.Mathlib.Omega.{arith}
use lib.ListN.{length, take, drop, take-append-drop}
use lib.Seq.{drop_at}
use Rattle.machine.specs.State.{State}
use Rattle.machine.specs.Valid.{Valid}
use Rattle.base_buffer.specs.Buffer.{spliced, rotated}
use Rattle.mem_row.specs.Row.{Row, encode_rows, contents_of}
use Rattle.mem_layout.specs.declared.Header.{Header}
use Rattle.mem_layout.specs.Memory.{rows_of, Stands}
use Rattle.mem_layout.proofs.StandsLaws.{length-header}
use Rattle.mem_layout.specs.Header.{header_of, headed, encode_header, header_length}
use Rattle.mem_edit.proofs.RowLists.{rows-spliced, data-spliced, data-moved, header-written}

module _ (t a : List ℕ) (s : State) (h : Stands t a s) (s' : State) (valid : Valid (length a) s') (t₁ t' a' : List ℕ) (header : Header)
    (is : header ≡ header_of (length a) s') (e : t' ≡ headed t₁ header) (keeps : length t' ≡ length t) (keeps-arena : length a' ≡ length a) where
  -- tables t₁ with the rows of s' after the old header, and an arena with their data
  standing : (free arena-free : List ℕ) → t₁ ≡ encode_header (length a) s ++ (encode_rows (rows_of s') ++ free) → a' ≡ contents_of (rows_of s') ++ arena-free → Stands t' a' s'
  standing free arena-free told told' =
      let u = header-written (length a) s s' t₁ t' (encode_rows (rows_of s') ++ free) header (length-header (length a) s h.small h.valid) told is e in
      record {
        size = keeps ∙ h.size;
        small = let l = h.small in omega arith;
        valid = subst (λ (A : ℕ). Valid A s') (sym keeps-arena) valid;
        tables-free = free;
        tables = u ∙ ap (λ (A : ℕ). encode_header A s' ++ (encode_rows (rows_of s') ++ free)) (sym keeps-arena);
        arena-free = arena-free;
        arena = told';
      }

  -- the rows ys give way to ys', of which src are the bytes
  module _ (xs ys ys' zs : List Row) (at n used base m end : ℕ) (src : List ℕ) (split : rows_of s ≡ xs ++ (ys ++ zs)) (split' : rows_of s' ≡ xs ++ (ys' ++ zs)) (rows : src ≡ encode_rows ys')
      (at-is : at ≡ header_length + length (encode_rows xs)) (n-is : n ≡ length (encode_rows ys)) (used-is : used ≡ header_length + length (encode_rows (rows_of s))) (put : t₁ ≡ spliced t at n used src)
      (base-is : base ≡ length (contents_of xs)) (m-is : m ≡ length (contents_of ys)) (end_is : end ≡ length (contents_of (rows_of s))) where
    rows_told : t₁ ≡ encode_header (length a) s ++ (encode_rows (rows_of s') ++ drop (header_length + length (encode_rows (xs ++ (ys' ++ zs)))) t)
    rows_told =
        let told : t ≡ encode_header (length a) s ++ (encode_rows (xs ++ (ys ++ zs)) ++ h.tables-free) = h.tables ∙ ap (λ (rs : List Row). encode_header (length a) s ++ (encode_rows rs ++ h.tables-free)) split in
        let put₁ : t₁ ≡ spliced t (header_length + length (encode_rows xs)) (length (encode_rows ys)) (header_length + length (encode_rows (xs ++ (ys ++ zs)))) src = put ∙ rw (at-is, n-is, used-is, split) in
        rows-spliced xs ys ys' zs t t₁ (encode_header (length a) s) h.tables-free src told (length-header (length a) s h.small h.valid) rows put₁
        ∙ ap (λ (rs : List Row). encode_header (length a) s ++ (encode_rows rs ++ drop (header_length + length (encode_rows (xs ++ (ys' ++ zs)))) t)) (sym split')

    -- their data give way to block
    pub replaced : (block : List ℕ) → block ≡ contents_of ys' → a' ≡ spliced a base m end block → Stands t' a' s'
    replaced block content put' =
        let told : a ≡ contents_of (xs ++ (ys ++ zs)) ++ h.arena-free = h.arena ∙ ap (λ (rs : List Row). contents_of rs ++ h.arena-free) split in
        let put₁ : a' ≡ spliced a (length (contents_of xs)) (length (contents_of ys)) (length (contents_of (xs ++ (ys ++ zs)))) block = put' ∙ rw (base-is, m-is, end_is, split) in
        standing _ _ rows_told
        (data-spliced xs ys ys' zs a a' h.arena-free block told content put₁ ∙ ap (λ (rs : List Row). contents_of rs ++ drop (length (contents_of (xs ++ (ys' ++ zs)))) a) (sym split'))

    -- their data give way to those of ys', which stood after the last byte held
    pub moved : (a₁ : List ℕ) (size : ℕ) → size ≡ length (contents_of ys') → take size (drop end a) ≡ contents_of ys'
        → a₁ ≡ rotated a base (end - base) size → a' ≡ spliced a₁ (base + size) m (end + size) [] → Stands t' a' s'
    moved a₁ size size_is there turned cut =
        let d = contents_of ys' in
        let free = drop size h.arena-free in
        let last : drop end a ≡ h.arena-free = ap (drop end) h.arena ∙ drop_at (contents_of (rows_of s)) h.arena-free end (sym end_is) in
        let tail : h.arena-free ≡ d ++ free = sym (take-append-drop size h.arena-free) ∙ ap (λ (l : List ℕ). l ++ free) (ap (take size) (sym last) ∙ there) in
        let told : a ≡ contents_of (xs ++ (ys ++ zs)) ++ (d ++ free) = h.arena ∙ ap₂ (λ (rs : List Row) (l : List ℕ). contents_of rs ++ l) split tail in
        standing _ _ rows_told
        (data-moved xs ys ys' zs a a₁ a' d free base m end size told refl base-is m-is (end_is ∙ ap (λ (rs : List Row). length (contents_of rs)) split) size_is turned cut
        ∙ ap (λ (rs : List Row). contents_of rs ++ drop (length (contents_of (xs ++ (ys' ++ zs)))) a₁) (sym split'))

  -- the rows ys cut out, with their data
  pub removed : (xs ys zs : List Row) (at n used base m end : ℕ) → rows_of s ≡ xs ++ (ys ++ zs) → rows_of s' ≡ xs ++ zs
      → at ≡ header_length + length (encode_rows xs) → n ≡ length (encode_rows ys) → used ≡ header_length + length (encode_rows (rows_of s)) → t₁ ≡ spliced t at n used []
      → base ≡ length (contents_of xs) → m ≡ length (contents_of ys) → end ≡ length (contents_of (rows_of s)) → a' ≡ spliced a base m end []
      → Stands t' a' s'
  unfolding encode_rows contents_of
  removed xs ys zs at n used base m end split split' at-is n-is used-is put base-is m-is end_is =
      replaced xs ys [] zs at n used base m end [] split split' refl at-is n-is used-is put base-is m-is end_is [] refl
