-- Where the test "whole" finds that the rows of uploads begin, the first upload's row stands, or would stand; and where it finds that all rows
-- end, they do. Assumes nothing.
use Prim.Native.Nat.{ℕ, zero, suc, ◌+◌, ◌≤◌}
use mathlib.Core.Path.{◌≡◌, refl, sym, ap, ◌∙◌}
use mathlib.Core.List.{List, [], append-nil}
use native.Mathlib.Nat.{add-zero}
use native.Mathlib.Omega.{arith}
use lib.ListN.{length, drop}
use Rattle.machine.specs.State.{State}
use Rattle.mem_row.specs.declared.Head.{Head}
use Rattle.mem_row.specs.Row.{encode_rows, contents_of, head_at, span}
use Rattle.mem_layout.specs.declared.Header.{Header}
use Rattle.mem_layout.specs.Header.{header_at, header_length}
use Rattle.mem_layout.specs.Memory.{object_rows, rows_of, Stands}
use Rattle.mem_layout.proofs.ObjectLaws.{length-object-rows}
use Rattle.mem_layout.proofs.RowCounts.{length-rows}
use Rattle.mem_layout.proofs.StandsLaws.{header-back}
use Rattle.mem_scan_rows.specs.declared.Offset.{Offset}
use Rattle.mem_scan_rows.specs.Scan.{past, past_all, first}
use Rattle.mem_scan.specs.Scanned.{uploads_from, rows_end}
use Rattle.mem_find.specs.RowPlaces.{row_place_at}
use Rattle.mem_find.specs.Places.{place_after, first_upload_row}
use Rattle.mem_find_uploads.proofs.Walk.{Reached, row_place, reached-place, row-turn}
use Rattle.mem_find_uploads.proofs.Answers.{place_after_lem, uploads-within}

module _ (t a : List ℕ) (s : State) (h : Stands t a s) where
  -- n rows after row i stands row i + n
  passed-rows : (n i : ℕ) (o : Offset) → Reached s i o.at o.base → i + n ≤ length (rows_of s)
      → Reached s (i + n) (past_all n o t).at (past_all n o t).base
  unfolding past_all
  passed-rows zero i o k l = rw add-zero k
  passed-rows (suc n) i o k l =
      let head : Head = head_at (drop o.at t) in
      let next : Reached s (i + 1) (o.at + span head) (o.base + head.size) = (row-turn t a s h i o.at o.base k (omega arith) head refl).next in
      let at : (past o head).at ≡ o.at + span head = omega arith in
      let m : i + 1 + n ≡ i + suc n = omega arith in
      rw m at (passed-rows n (i + 1) (past o head) (rw at next) (omega arith))

  first-reached : Reached s 0 header_length 0
  unfolding encode_rows contents_of
  first-reached = record { within = omega arith; rows = refl; contents = refl }

  -- the rows of uploads begin after the objects
  uploads-reached : let N = (header_at t).objects in Reached s (0 + N) (uploads_from t).at (uploads_from t).base
  unfolding uploads_from
  uploads-reached =
      let counted = ap (λ (x : Header). x.objects) (header-back _ _ _ h) in
      passed-rows (header_at t).objects 0 first first-reached (omega (arith, uploads-within s, length-object-rows s.O))

  pub first-upload-row : (o : Offset) (n : ℕ) → o ≡ uploads_from t → n ≡ length s.O → row_place n o.at o.base ≡ first_upload_row s
  first-upload-row o n e q =
      let N : ℕ = (header_at t).objects in
      let counted : N ≡ length s.O = ap (λ (x : Header). x.objects) (header-back _ _ _ h) in
      let rows : 0 + N ≡ length (object_rows s.O) = omega (arith, length-object-rows s.O) in
      let m : n ≡ 0 + N = omega arith in
      (λ j. row_place (m j) (e j).at (e j).base) ∙ reached-place s (0 + N) _ _ uploads-reached ∙ ap (row_place_at (rows_of s)) rows

  pub rows-end-place : (o : Offset) (n : ℕ) → o ≡ rows_end t → n ≡ length (rows_of s) → row_place n o.at o.base ≡ place_after (rows_of s)
  unfolding rows_end
  rows-end-place o n e q =
      let k : Header = header_at t in
      let back = header-back _ _ _ h in
      let objects = ap (λ (x : Header). x.objects) back in
      let uploads = ap (λ (x : Header). x.uploads) back in
      let parts = ap (λ (x : Header). x.parts) back in
      let m : n ≡ 0 + k.objects + (k.uploads + k.parts) = omega (arith, length-rows s) in
      (λ j. row_place (m j) (e j).at (e j).base)
      ∙ reached-place s _ _ _ (passed-rows (k.uploads + k.parts) (0 + k.objects) (uploads_from t) uploads-reached (omega arith))
      ∙ ap (row_place_at (rows_of s)) (sym m ∙ q)
      ∙ place_after_lem (rows_of s) (rows_of s) [] (sym (append-nil (rows_of s)))
