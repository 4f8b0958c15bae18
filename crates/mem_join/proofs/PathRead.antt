-- The path, the start stamp and the pairs in an upload's row. Assumes nothing.
use Prim.Native.Nat.{ℕ, ◌+◌, ◌-◌, ◌≤◌}
use mathlib.Core.Path.{◌≡◌, refl, sym, ap, ◌∙◌}
use mathlib.Core.List.{List, ◌++◌}
use mathlib.Core.Option.{some}
use native.Mathlib.Nat.{add-sub_cancel_left}
use native.Mathlib.Omega.{arith}
use lib.ListN.{length, take, drop}
use lib.Seq.{take_at}
use Rattle.base_order.proofs.OrderLaws.{numbers}
use Rattle.machine.specs.Map.{by_number, lookup}
use Rattle.machine.specs.State.{Upload, State}
use Rattle.machine.specs.Valid.{UploadOk}
use Rattle.machine.proofs.MapLaws.{every-lookup}
use Rattle.machine.proofs.PairLaws.{kept-few}
use Rattle.pairs_stored.specs.Stored.{pair_lengths, pair_bytes}
use Rattle.pairs_stored.proofs.StoredLaws.{length-lengths}
use Rattle.mem_row.specs.declared.Head.{Head}
use Rattle.mem_row.specs.Row.{encode_rows, contents_of, head_at, lengths_at, head_length, span, span_at}
use Rattle.mem_layout.specs.Header.{header_length}
use Rattle.mem_layout.specs.Memory.{upload_row, part_rows, Stands}
use Rattle.mem_layout.proofs.TestLaws.{stored-path-length}
use Rattle.mem_find.specs.Places.{before_upload, after_upload}
use Rattle.mem_find.proofs.Splits.{upload-found}
use Rattle.mem_find.proofs.RowsAt.{At, Read, row-at, row_read}

module _ (t a : List ℕ) (s : State) (h : Stands t a s) (u : ℕ) (x : Upload) (f : lookup by_number u s.U ≡ some x) (at : ℕ) (at-is : at ≡ header_length + length (encode_rows (before_upload s u))) where
  here : At t a s h (before_upload s u) (upload_row u x) (part_rows x.parts ++ after_upload s u)
  here = row-at t a s h (before_upload s u) (upload_row u x) (part_rows x.parts ++ after_upload s u) (upload-found s u x f)

  pub head-inside : at + head_length ≤ length t
  head-inside = let i = here.inside in omega (arith, at-is)

  pub row_inside : at + span_at (drop at t) ≤ length t
  unfolding span_at
  row_inside = let i = here.inside in omega (arith, at-is, ap span (ap (λ (n : ℕ). head_at (drop n t)) at-is ∙ here.head))

  pub lengths-there : lengths_at (drop at t) ≡ pair_lengths x.pairs
  lengths-there = ap (λ (n : ℕ). lengths_at (drop n t)) at-is ∙ here.lengths

  pub lengths-few : length (pair_lengths x.pairs) ≤ 16
  lengths-few =
      omega (arith, length-lengths x.pairs, kept-few x.pairs (every-lookup numbers (UploadOk s.N) u x s.U h.valid.upload f).pairs)

  module _ (head : Head) (read : head ≡ head_at (drop at t)) where
    there : Read t a (before_upload s u) (upload_row u x) at (length (contents_of (before_upload s u))) head
    there = row_read t a s h (before_upload s u) (upload_row u x) (part_rows x.parts ++ after_upload s u) at _ head here at-is refl read

    pub path_inside : at + span head ≤ length t
    path_inside = there.inside

    pub path-small : head.pathlen ≤ 128
    path-small =
        let n : head.pathlen ≡ length x.path = ap (λ (k : Head). k.pathlen) there.same in
        let q = (stored-path-length x.path (every-lookup numbers (UploadOk s.N) u x s.U h.valid.upload f).path).below in
        omega arith

    pub block_inside : length (contents_of (before_upload s u)) + head.size ≤ length a
    block_inside = there.arena-inside

    pub size-there : head.size ≡ length (pair_bytes x.pairs)
    size-there = ap (λ (k : Head). k.size) there.same

    pub stamp-read : head.stamp ≡ x.started
    stamp-read = ap (λ (k : Head). k.stamp) there.same

    -- the bytes of a slice of the tables from after the head to the path's end
    pub path-there : take (at + head_length + head.pathlen - (at + head_length)) (drop (at + head_length) t) ≡ x.path
    path-there = rw add-sub_cancel_left there.path

    -- copied to the front of an array
    pub path-copied : (d d' src : List ℕ) → src ≡ x.path → d' ≡ take 0 d ++ src ++ drop (0 + length src) d → take head.pathlen d' ≡ x.path
    path-copied d d' src q e =
        let n : length src ≡ head.pathlen = ap length q ∙ sym (ap (λ (k : Head). k.pathlen) there.same) in
        ap (take head.pathlen) e ∙ take_at src (drop (0 + length src) d) head.pathlen n ∙ q
