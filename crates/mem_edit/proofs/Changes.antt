-- The rows of a changed state. Assumes nothing.
use Prim.Native.Nat.{ℕ, suc, ◌+◌}
use mathlib.Core.Path.{◌≡◌, refl, sym, ap, ◌∙◌}
use mathlib.Core.List.{List, [], ◌∷◌, ◌++◌, append_assoc}
use mathlib.Core.Option.{none, some}
use native.Mathlib.Omega.{arith}
use lib.ListN.{length, take, drop}
use Rattle.base_order.specs.Order.{by_bytes}
use Rattle.base_order.proofs.OrderLaws.{numbers, bytes, compare-above}
use Rattle.machine.specs.Map.{Map, by_number, lookup, insert, place, Every}
use Rattle.machine.specs.Names.{Bytes}
use Rattle.machine.specs.State.{Object, Part, Upload, State, with_object, without_object, with_upload, without_upload, with_part}
use Rattle.machine.specs.Valid.{UploadOk}
use Rattle.machine.proofs.MapSums.{length-insert}
use Rattle.machine.proofs.MapPlaces.{insert-new, insert-old, remove-old}
use Rattle.mem_row.specs.Row.{Row}
use Rattle.mem_layout.specs.Memory.{object_row, object_rows, upload_row, part_row, part_rows, upload_rows, rows_of}
use Rattle.mem_find.specs.Places.{before_object, before_upload, before_parts, before_part, from_object, after_object, after_upload, from_part, after_part}
use Rattle.mem_edit.proofs.OldRows.{row_if, rest_if, by-there}
use Rattle.mem_find.proofs.Splits.{object-place, object-found, object-rows-append, part-rows-append, upload-rows-append}

-- Objects ----------------------------------------------------------------------------------------------------------------

module _ (s : State) (p : Bytes) where
  abbrev i : ℕ
  i = place by_bytes p s.O

  pub without-object-rows : (x : Object) → lookup by_bytes p s.O ≡ some x → rows_of (without_object s p) ≡ before_object s p ++ after_object s p
  unfolding rows_of before_object after_object
  without-object-rows x f =
      ap (λ (m : Map Bytes Object). object_rows m ++ upload_rows s.U) (remove-old bytes p x s.O f)
      ∙ ap (λ (rs : List Row). rs ++ upload_rows s.U) (object-rows-append (take i s.O) (drop (suc i) s.O))
      ∙ append_assoc (object_rows (take i s.O)) (object_rows (drop (suc i) s.O)) (upload_rows s.U)

  pub new-object-rows : (y : Object) → lookup by_bytes p s.O ≡ none → rows_of (with_object s p y) ≡ before_object s p ++ (object_row p y ∷ from_object s p)
  unfolding rows_of before_object from_object object_rows
  new-object-rows y f =
      ap (λ (m : Map Bytes Object). object_rows m ++ upload_rows s.U) (insert-new bytes p y s.O f)
      ∙ ap (λ (rs : List Row). rs ++ upload_rows s.U) (object-rows-append (take i s.O) ((p, y) ∷ drop i s.O))
      ∙ append_assoc (object_rows (take i s.O)) (object_row p y ∷ object_rows (drop i s.O)) (upload_rows s.U)

  pub old-object-rows : (x y : Object) → lookup by_bytes p s.O ≡ some x → rows_of (with_object s p y) ≡ before_object s p ++ (object_row p y ∷ after_object s p)
  unfolding rows_of before_object after_object object_rows
  old-object-rows x y f =
      ap (λ (m : Map Bytes Object). object_rows m ++ upload_rows s.U) (insert-old bytes p y x s.O f)
      ∙ ap (λ (rs : List Row). rs ++ upload_rows s.U) (object-rows-append (take i s.O) ((p, y) ∷ drop (suc i) s.O))
      ∙ append_assoc (object_rows (take i s.O)) (object_row p y ∷ object_rows (drop (suc i) s.O)) (upload_rows s.U)

  -- the row that is there, if any, and those after it
  abbrev pub old_rows : List Row
  old_rows = row_if (object_row p) (lookup by_bytes p s.O)

  abbrev pub rest_rows : List Row
  rest_rows = rest_if (from_object s p) (after_object s p) (lookup by_bytes p s.O)

  pub was-rows : rows_of s ≡ before_object s p ++ (old_rows ++ rest_rows)
  was-rows =
      by-there (λ (old rest : List Row). rows_of s ≡ before_object s p ++ (old ++ rest)) (object_row p) (from_object s p) (after_object s p) (lookup by_bytes p s.O)
      (λ f. object-place s p) (λ x f. object-found s p x f)

  -- the rows, and how many objects there are, once an object is put
  pub put-rows : (y : Object) → rows_of (with_object s p y) ≡ before_object s p ++ (object_row p y ∷ rest_rows)
  put-rows y =
      by-there (λ (old rest : List Row). rows_of (with_object s p y) ≡ before_object s p ++ (object_row p y ∷ rest)) (object_row p) (from_object s p) (after_object s p) (lookup by_bytes p s.O)
      (new-object-rows y) (λ x f. old-object-rows x y f)

  pub put_count : (y : Object) → length (with_object s p y).O + length old_rows ≡ length s.O + 1
  put_count y =
      by-there (λ (old rest : List Row). length (with_object s p y).O + length old ≡ length s.O + 1) (object_row p) (from_object s p) (after_object s p) (lookup by_bytes p s.O)
      (λ f. omega (arith, rw f at (length-insert bytes p y s.O))) (λ x f. omega (arith, rw f at (length-insert bytes p y s.O)))

-- Uploads ----------------------------------------------------------------------------------------------------------------

-- a number that is above those of all uploads stands after them
above-all : (N : ℕ) (us : Map ℕ Upload) (x : Upload) → Every (UploadOk N) us → insert by_number N x us ≡ us ++ ((N, x) ∷ [])
above-all N [] x v = refl
above-all N (e ∷ us) x v = rw (compare-above N e.0 v.0.high) (ap (λ (m : Map ℕ Upload). e ∷ m) (above-all N us x v.1))

pub new-upload-rows : (s : State) (x : Upload) (n : ℕ) → Every (UploadOk s.N) s.U → x.parts ≡ []
    → rows_of (record { O = s.O; U = insert by_number s.N x s.U; N = n }) ≡ rows_of s ++ (upload_row s.N x ∷ [])
unfolding rows_of upload_rows part_rows
new-upload-rows s x n v e =
    ap (λ (m : Map ℕ Upload). object_rows s.O ++ upload_rows m) (above-all s.N s.U x v)
    ∙ ap (λ (rs : List Row). object_rows s.O ++ rs) (upload-rows-append s.U ((s.N, x) ∷ []) ∙ ap (λ (ps : Map ℕ Part). upload_rows s.U ++ (upload_row s.N x ∷ (part_rows ps ++ []))) e)
    ∙ sym (append_assoc (object_rows s.O) (upload_rows s.U) (upload_row s.N x ∷ []))

module _ (s : State) (u : ℕ) (x : Upload) (f : lookup by_number u s.U ≡ some x) where
  abbrev k : ℕ
  k = place by_number u s.U

  pub without-upload-rows : rows_of (without_upload s u) ≡ before_upload s u ++ after_upload s u
  unfolding rows_of before_upload after_upload
  without-upload-rows =
      ap (λ (m : Map ℕ Upload). object_rows s.O ++ upload_rows m) (remove-old numbers u x s.U f)
      ∙ ap (λ (rs : List Row). object_rows s.O ++ rs) (upload-rows-append (take k s.U) (drop (suc k) s.U))
      ∙ sym (append_assoc (object_rows s.O) (upload_rows (take k s.U)) (upload_rows (drop (suc k) s.U)))

  -- the upload with other parts
  abbrev changed : Map ℕ Part → Upload
  changed ps = record { path = x.path; started = x.started; pairs = x.pairs; parts = ps }

  changed-rows : (ps : Map ℕ Part) → rows_of (with_upload s u (changed ps)) ≡ before_parts s u x ++ (part_rows ps ++ after_upload s u)
  unfolding rows_of before_parts before_upload after_upload upload_rows
  changed-rows ps =
      ap (λ (m : Map ℕ Upload). object_rows s.O ++ upload_rows m) (insert-old numbers u (changed ps) x s.U f)
      ∙ ap (λ (rs : List Row). object_rows s.O ++ rs) (upload-rows-append (take k s.U) ((u, changed ps) ∷ drop (suc k) s.U))
      ∙ sym (append_assoc (object_rows s.O) (upload_rows (take k s.U)) (upload_row u x ∷ (part_rows ps ++ upload_rows (drop (suc k) s.U))))
      ∙ sym (append_assoc (object_rows s.O ++ upload_rows (take k s.U)) (upload_row u x ∷ []) (part_rows ps ++ upload_rows (drop (suc k) s.U)))

  pub new-part-rows : (n : ℕ) (y : Part) → lookup by_number n x.parts ≡ none → rows_of (with_upload s u (with_part x n y)) ≡ before_part s u x n ++ (part_row n y ∷ from_part s u x n)
  unfolding before_part from_part part_rows
  new-part-rows n y g =
      let j = place by_number n x.parts in
      changed-rows (insert by_number n y x.parts)
      ∙ ap (λ (m : Map ℕ Part). before_parts s u x ++ (part_rows m ++ after_upload s u)) (insert-new numbers n y x.parts g)
      ∙ ap (λ (rs : List Row). before_parts s u x ++ (rs ++ after_upload s u)) (part-rows-append (take j x.parts) ((n, y) ∷ drop j x.parts))
      ∙ simp append_assoc

  pub old-part-rows : (n : ℕ) (z y : Part) → lookup by_number n x.parts ≡ some z → rows_of (with_upload s u (with_part x n y)) ≡ before_part s u x n ++ (part_row n y ∷ after_part s u x n)
  unfolding before_part after_part part_rows
  old-part-rows n z y g =
      let j = place by_number n x.parts in
      changed-rows (insert by_number n y x.parts)
      ∙ ap (λ (m : Map ℕ Part). before_parts s u x ++ (part_rows m ++ after_upload s u)) (insert-old numbers n y z x.parts g)
      ∙ ap (λ (rs : List Row). before_parts s u x ++ (rs ++ after_upload s u)) (part-rows-append (take j x.parts) ((n, y) ∷ drop (suc j) x.parts))
      ∙ simp append_assoc
