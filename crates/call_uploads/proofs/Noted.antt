-- The notes: written upload by upload, and what their records are. Assumes nothing.
use Prim.Native.Nat.{ℕ, zero, suc, ◌+◌, ◌-◌, ◌*◌, ◌≤◌, ◌<◌}
use mathlib.Core.Path.{◌≡◌, refl, sym, ap, ap₂, ◌∙◌}
use mathlib.Core.Bool.{true}
use mathlib.Core.Logic.{⊎_elim}
use mathlib.Core.List.{List, [], ◌∷◌, ◌++◌, append-nil}
use native.Mathlib.Nat.{eq-or-lt_of_le}
use native.Mathlib.Numerals.{add-one}
use native.Mathlib.Omega.{arith}
use lib.ListN.{length, get_or, take, drop}
use lib.Seq.{take_all}
use Rattle.base_number.specs.Number.{le, from_le, replaced_at}
use Rattle.base_number.proofs.NumberLaws.{length-le}
use Rattle.base_number.proofs.Fields.{over-length}
use Rattle.base_order.specs.Order.{begins}
use Rattle.machine.specs.Map.{Map, records}
use Rattle.machine.specs.Names.{Bytes}
use Rattle.machine.specs.State.{Upload, State}
use Rattle.machine.specs.Steps.{open_under, upload_record}
use Rattle.machine.proofs.MapKeep.{records-append}
use Rattle.mem_layout.specs.Memory.{Stands}
use Rattle.mem_find.specs.declared.RowPlace.{RowPlace}
use Rattle.call_uploads.specs.declared.rows.OpenUpload.{OpenUpload}
use Rattle.call_contract.proofs.Noting.{read-before, read_here, keep-front}
use Rattle.call_uploads.specs.Records.{record_at}
use Rattle.call_uploads.specs.Notes.{noted, place_noted, parts_noted, AllNoted, RowsNoted, records_noted}
use Rattle.call_uploads.proofs.UploadRows.{blank, Entry, found, at_place, row_low, few-parts, row_inside, record-here}
use Rattle.call_uploads.proofs.RecordBytes.{next_field}
use Rattle.call_uploads.proofs.Fronts.{front, front-next, count_next}
use Rattle.call_uploads.proofs.Measured.{Measured}

-- a note read back, and those before it
module _ (notes : List ℕ) (n at parts : ℕ) (room : 4 * n + 4 ≤ length notes) where
  abbrev half : List ℕ
  half = replaced_at notes (4 * n) (le 2 at) 2

  by-halves : noted notes n at parts ≡ replaced_at half (4 * n + 2) (le 2 parts) 2
  by-halves = sym (next_field notes half _ (le 2 at) (le 2 parts) (4 * n) 2 2 (4 * n + 2) (length-le 2 at) (omega arith) refl refl refl)

  same : length half ≡ length notes
  same = over-length notes (4 * n) (le 2 at) 2 (length-le 2 at) (omega arith)

  place_read : at < 65536 → place_noted (noted notes n at parts) n ≡ at
  place_read small =
      ap (λ (b : List ℕ). place_noted b n) by-halves
      ∙ ap from_le (read-before half (le 2 parts) (4 * n + 2) (4 * n) 2 (omega arith) (omega (arith, same)))
      ∙ read_here notes (4 * n) at (omega arith) small

  parts-read : parts < 65536 → parts_noted (noted notes n at parts) n ≡ parts
  parts-read small = ap (λ (b : List ℕ). parts_noted b n) by-halves ∙ read_here half (4 * n + 2) parts (omega (arith, same)) small

  kept : (j : ℕ) → j + 2 ≤ 4 * n → take 2 (drop j (noted notes n at parts)) ≡ take 2 (drop j notes)
  kept j before = read-before notes (le 2 at ++ le 2 parts) (4 * n) j 4 before (omega arith)

pub no_note : (s : State) (prefix : Bytes) (notes : List ℕ) → AllNoted s prefix notes 0
no_note s prefix notes k l = absurd (omega arith)

-- the first uploads under the prefix are those among the first uploads
front-first : (s : State) (prefix : Bytes) (j k : ℕ) → length (front s prefix j) ≡ k → take k (open_under prefix s.U) ≡ front s prefix j
unfolding open_under
front-first s prefix j k e = keep-front (λ u x. begins prefix x.path) s.U j k e

-- an upload measured: where it has a record, the next note is of it
module _ (t a : List ℕ) (s : State) (h : Stands t a s) (prefix : Bytes) (notes : List ℕ) (i : ℕ) (here : RowPlace) (count size : ℕ) (w : Measured s prefix i here count size) (l : i < length s.U)
    (all : AllNoted s prefix notes count) (room : 4 * count + 4 ≤ length notes) where
  abbrev u : ℕ
  u = (get_or s.U i blank).0

  abbrev x : Upload
  x = (get_or s.U i blank).1

  abbrev after : List ℕ
  after = noted notes count here.at (length x.parts)

  is-next : begins prefix x.path ≡ true → take (count + 1) (open_under prefix s.U) ≡ take count (open_under prefix s.U) ++ ((u, x) ∷ [])
  is-next is =
      let n : length (front s prefix (i + 1)) ≡ count + 1 = (rw is at (count_next s prefix i l)) ∙ ap (λ (k : ℕ). k + 1) (sym w.counted) in
      front-first s prefix (i + 1) (count + 1) n
      ∙ (rw is at (front-next s prefix i l))
      ∙ ap (λ (m : Map ℕ Upload). m ++ ((u, x) ∷ [])) (sym (front-first s prefix i count (sym w.counted)))

  one-noted : begins prefix x.path ≡ true → AllNoted s prefix after (count + 1)
  one-noted is k m =
      ⊎_elim
      (λ (e : k ≡ count). rw e
      (record {
        number = u;
        upload = x;
        found = found t a s h i here w.rows l;
        next = is-next is;
        place = place_read notes count here.at (length x.parts) room (row_low t a s h i here w.rows l) ∙ at_place t a s h i here w.rows l;
        parts = parts-read notes count here.at (length x.parts) room (omega (arith, few-parts t a s h u x (found t a s h i here w.rows l)));
      }))
      (λ (less : k < count).
      let old = all k less in
      record {
        number = old.number;
        upload = old.upload;
        found = old.found;
        next = old.next;
        place = ap from_le (kept notes count here.at (length x.parts) room (4 * k) (omega arith)) ∙ old.place;
        parts = ap from_le (kept notes count here.at (length x.parts) room (4 * k + 2) (omega arith)) ∙ old.parts;
      })
      (eq-or-lt_of_le (omega arith))

  pub noted-next : (r : OpenUpload) → Entry t s i r → begins prefix (take (r.to - r.from) (drop r.from t)) ≡ true → AllNoted s prefix (noted notes count here.at r.parts) (count + 1)
  noted-next r e is = rw e.parts (one-noted (rw e.path at is))

-- the notes read: their rows, and their records
module _ (t a : List ℕ) (s : State) (h : Stands t a s) (prefix : Bytes) (notes : List ℕ) where
  pub rows-noted : (n : ℕ) → AllNoted s prefix notes n → RowsNoted t notes n
  rows-noted n all k l = let x = all k l in row_inside t a s h x.number x.upload x.found (place_noted notes k) x.place

  records-first : (n : ℕ) → AllNoted s prefix notes n → records_noted t notes n ≡ records upload_record (take n (open_under prefix s.U))
  unfolding records_noted
  records-first zero all = refl
  records-first (suc n) all =
      let x = all n (omega arith) in
      let m = take n (open_under prefix s.U) in
      let one : record_at t (place_noted notes n) (parts_noted notes n) ≡ upload_record x.number x.upload = ap (record_at t (place_noted notes n)) x.parts ∙ record-here t a s h x.number x.upload x.found (place_noted notes n) x.place in
      ap₂ (λ (y z : Bytes). y ++ z) (records-first n (λ k l. all k (omega arith))) (one ∙ sym (append-nil (upload_record x.number x.upload)))
      ∙ sym (ap (records upload_record) (rw add-one at x.next) ∙ records-append upload_record m ((x.number, x.upload) ∷ []))

  pub records-noted : (n : ℕ) → AllNoted s prefix notes n → n ≡ length (open_under prefix s.U) → records_noted t notes n ≡ records upload_record (open_under prefix s.U)
  records-noted n all e = records-first n all ∙ ap (records upload_record) (take_all n (open_under prefix s.U) (omega arith))
