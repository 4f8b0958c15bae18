-- The row of an upload: what is read of it, and the place of the next upload's row. Assumes nothing.
use Prim.Native.Nat.{ℕ, ◌+◌, ◌-◌, ◌≤◌, ◌<◌}
use mathlib.Core.Path.{◌≡◌, refl, sym, ap, ap₂, ◌∙◌}
use mathlib.Core.Bool.{true, false≢true}
use mathlib.Core.List.{List, [], ◌∷◌, ◌++◌, append_assoc, append-nil}
use mathlib.Core.Option.{Option, none, some}
use native.Mathlib.Nat.{add-sub_cancel_left}
use native.Mathlib.Numerals.{add-one}
use native.Mathlib.Omega.{arith}
use lib.ListN.{length, get_or, take, drop}
use lib.Seq.{take-suc}
use Rattle.base_order.proofs.OrderLaws.{numbers}
use Rattle.machine.specs.Map.{is_some, Map, by_number, lookup}
use Rattle.machine.specs.State.{Upload, State, parts_in}
use Rattle.machine.specs.Steps.{upload_record}
use Rattle.machine.specs.Valid.{UploadOk}
use Rattle.machine.proofs.MapLaws.{every-lookup}
use Rattle.machine.proofs.MapScan.{lookup_key, place-key}
use Rattle.machine.proofs.MapSums.{total-share}
use Rattle.mem_row.specs.declared.Head.{Head}
use Rattle.mem_row.specs.Row.{Row, encode_rows, head_at, head_of, head_length, span}
use Rattle.mem_layout.specs.Header.{header_length}
use Rattle.mem_layout.specs.Memory.{object_rows, upload_row, part_rows, upload_rows, rows_of, Stands}
use Rattle.mem_layout.proofs.TestLaws.{stored-path-length}
use Rattle.mem_find.specs.declared.RowPlace.{RowPlace}
use Rattle.mem_find.specs.declared.PassedParts.{PassedParts}
use Rattle.mem_find.specs.Places.{before_upload, upload_row_of, first_upload_row, before_parts, through_parts, after_upload, passed_parts}
use Rattle.mem_find.specs.RowPlaces.{row_place_at}
use Rattle.mem_find.proofs.RowsAt.{At, row-at}
use Rattle.mem_find.proofs.Splits.{upload-rows-append, upload-found, parts-after}
use Rattle.mem_find_uploads.proofs.Answers.{place_after_lem, placed-after}
use Rattle.call_uploads.specs.declared.rows.OpenUpload.{OpenUpload}
use Rattle.call_uploads.specs.Rows.{upload_row_place, RowRead}
use Rattle.call_uploads.specs.Records.{path_from, record_of, record_at}

abbrev pub blank : ℕ × Upload
blank = (0, record { path = []; started = 0; pairs = []; parts = [] })

-- the first upload has none before it
pub first-place : (s : State) → first_upload_row s ≡ upload_row_place s 0
unfolding upload_row_place upload_rows
first-place s = ap (λ (rs : List Row). row_place_at (rows_of s) (length rs)) (sym (append-nil (object_rows s.O)))

-- an open upload has few parts
pub few-parts : (t a : List ℕ) (s : State) (h : Stands t a s) (u : ℕ) (x : Upload) → lookup by_number u s.U ≡ some x → length x.parts ≤ 256
few-parts t a s h u x found = let n = h.valid.parts in omega (arith, total-share numbers parts_in u x s.U found)

pub parts-fit : (t a : List ℕ) (s : State) (h : Stands t a s) (u : ℕ) → is_some (lookup by_number u s.U) ≡ true → (r : PassedParts) → ((x : Upload) → lookup by_number u s.U ≡ some x → r ≡ passed_parts s u x) → r.count ≤ 256
unfolding passed_parts
parts-fit t a s h u e r passed = go (lookup by_number u s.U) refl e
  where
    go : (o : Option Upload) → lookup by_number u s.U ≡ o → is_some o ≡ true → r.count ≤ 256
    go none f is = absurd (false≢true is)
    go (some x) f is = omega (arith, ap (λ (p : PassedParts). p.count) (passed x f), few-parts t a s h u x f)

-- what is read of an upload's row, and of its parts'
pub row_read : (t : List ℕ) (s : State) (here : RowPlace) (x : Upload) (h : Head) (p : PassedParts) → h ≡ head_at (drop here.at t) → p ≡ passed_parts s (head_at (drop here.at t)).number x
    → RowRead t s here x (record { from = here.at + head_length; to = here.at + head_length + h.pathlen; parts = p.count; next = p.next })
unfolding passed_parts
row_read t s here x h p e q =
    record {
      from = refl;
      to = ap (λ (y : Head). here.at + head_length + y.pathlen) e;
      parts = ap (λ (y : PassedParts). y.count) q;
      next = ap (λ (y : PassedParts). y.next) q;
    }

-- the row of an open upload, at its place
module _ (t a : List ℕ) (s : State) (h : Stands t a s) (u : ℕ) (x : Upload) (found : lookup by_number u s.U ≡ some x) (at : ℕ) (e : at ≡ (upload_row_of s u).at) where
  at-is : at ≡ header_length + length (encode_rows (before_upload s u))
  at-is = e ∙ (placed-after (rows_of s) (before_upload s u) (upload_row u x ∷ (part_rows x.parts ++ after_upload s u)) (upload_row_of s u) (upload-found s u x found) refl).at

  row_here : At t a s h (before_upload s u) (upload_row u x) (part_rows x.parts ++ after_upload s u)
  row_here = row-at t a s h (before_upload s u) (upload_row u x) (part_rows x.parts ++ after_upload s u) (upload-found s u x found)

  head-here : head_at (drop at t) ≡ head_of (upload_row u x)
  head-here = ap (λ (n : ℕ). head_at (drop n t)) at-is ∙ row_here.head

  number-here : (head_at (drop at t)).number ≡ u
  number-here = ap (λ (y : Head). y.number) head-here

  length-here : (head_at (drop at t)).pathlen ≡ length x.path
  length-here = ap (λ (y : Head). y.pathlen) head-here

  pub row_inside : at + span (head_at (drop at t)) ≤ length t
  row_inside = omega (arith, ap (λ (y : Head). span y) head-here, at-is, row_here.inside)

  path-here : path_from t at ≡ x.path
  path-here = ap (λ (n : ℕ). take n (drop (at + head_length) t)) length-here ∙ ap (λ (n : ℕ). take (length x.path) (drop (n + head_length) t)) at-is ∙ row_here.path

  path-short : length x.path ≤ 128
  path-short =
      let ok : UploadOk s.N u x = every-lookup numbers (UploadOk s.N) u x s.U h.valid.upload found in
      (stored-path-length x.path ok.path).below

  pub record-here : record_at t at (length x.parts) ≡ upload_record u x
  unfolding record_at record_of upload_record
  record-here = rw (path-here, head-here)

-- r is the upload at i, as its row and its parts' rows tell it
pub record Entry (t : List ℕ) (s : State) (i : ℕ) (r : OpenUpload) : Type 0 where
  pub path : take (r.to - r.from) (drop r.from t) ≡ (get_or s.U i blank).1.path
  pub short : length (get_or s.U i blank).1.path ≤ 128
  pub parts : r.parts ≡ length (get_or s.U i blank).1.parts
  pub next : r.next ≡ upload_row_place s (i + 1)

module _ (t a : List ℕ) (s : State) (h : Stands t a s) (i : ℕ) (here : RowPlace) (e : here ≡ upload_row_place s i) (l : i < length s.U) where
  abbrev at : ℕ
  at = here.at

  abbrev u : ℕ
  u = (get_or s.U i blank).0

  abbrev x : Upload
  x = (get_or s.U i blank).1

  pub found : lookup by_number u s.U ≡ some x
  found = lookup_key numbers blank i s.U h.valid.uploads l

  abbrev rows : ℕ → List Row
  rows n = object_rows s.O ++ upload_rows (take n s.U)

  before-is : before_upload s u ≡ rows i
  unfolding before_upload
  before-is = ap rows (place-key numbers blank i s.U h.valid.uploads l)

  through-is : through_parts s u x ≡ rows (i + 1)
  unfolding through_parts before_parts upload_rows
  through-is =
      ap (λ (rs : List Row). rs ++ (upload_row u x ∷ []) ++ part_rows x.parts) before-is
      ∙ sym (ap rows (add-one i)
      ∙ ap (λ (m : Map ℕ Upload). object_rows s.O ++ upload_rows m) (take-suc s.U i blank l)
      ∙ ap (λ (rs : List Row). object_rows s.O ++ rs) (upload-rows-append (take i s.U) ((u, x) ∷ []))
      ∙ rw append-nil (simp append_assoc))

  place_is : here ≡ upload_row_of s u
  unfolding upload_row_place
  place_is = e ∙ ap (λ (rs : List Row). row_place_at (rows_of s) (length rs)) (sym before-is)

  pub at_place : at ≡ (upload_row_of s u).at
  at_place = ap (λ (p : RowPlace). p.at) place_is

  number-there : (head_at (drop at t)).number ≡ u
  number-there = number-here t a s h u x found at at_place

  row-found : lookup by_number (head_at (drop at t)).number s.U ≡ some x
  row-found = ap (λ (n : ℕ). lookup by_number n s.U) number-there ∙ found

  pub row_open : is_some (lookup by_number (head_at (drop at t)).number s.U) ≡ true
  row_open = ap is_some row-found

  pub row-place : here ≡ upload_row_of s (head_at (drop at t)).number
  row-place = place_is ∙ ap (upload_row_of s) (sym number-there)

  -- two bytes hold where the row stands
  pub row_low : at < 65536
  row_low = let z = h.size in omega (arith, row_inside t a s h u x found at at_place)

  pub entry : (r : OpenUpload) → ((y : Upload) → lookup by_number (head_at (drop at t)).number s.U ≡ some y → RowRead t s here y r) → Entry t s i r
  unfolding upload_row_place passed_parts
  entry r is =
      let k = is x row-found in
      let n = k.to in
      let f = k.from in
      record {
        path = ap₂ (λ (m j : ℕ). take (m - j) (drop j t)) n f ∙ ap (λ (m : ℕ). take m (drop (at + head_length) t)) (add-sub_cancel_left (at + head_length) (head_at (drop at t)).pathlen) ∙ path-here t a s h u x found at at_place;
        short = path-short t a s h u x found at at_place;
        parts = k.parts;
        next = k.next ∙ ap (λ (m : ℕ). (passed_parts s m x).next) number-there ∙ sym (place_after_lem (rows_of s) (through_parts s u x) (after_upload s u) (parts-after s u x found)) ∙ ap (λ (rs : List Row). row_place_at (rows_of s) (length rs)) through-is;
      }
