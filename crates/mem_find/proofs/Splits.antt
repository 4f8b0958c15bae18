-- The rows of a state, split at an object, at an upload, after its parts, and at a part. Assumes nothing.
use Prim.Native.Nat.{ℕ, suc}
use mathlib.Core.Path.{◌≡◌, refl, sym, ap, ◌∙◌}
use mathlib.Core.List.{List, [], ◌∷◌, ◌++◌, append_assoc}
use mathlib.Core.Option.{some}
use lib.ListN.{take, drop, take-append-drop}
use Rattle.base_order.specs.Order.{by_bytes}
use Rattle.base_order.proofs.OrderLaws.{numbers, bytes}
use Rattle.machine.specs.Map.{Map, by_number, lookup, place}
use Rattle.machine.specs.Names.{Bytes}
use Rattle.machine.specs.State.{Object, Part, Upload, State}
use Rattle.machine.proofs.MapPlaces.{split-found}
use Rattle.mem_row.specs.Row.{Row}
use Rattle.mem_layout.specs.Memory.{object_row, object_rows, upload_row, part_row, part_rows, upload_rows, rows_of}
use Rattle.mem_find.specs.Places.{before_object, before_upload, before_parts, before_part, through_parts, from_object, after_object, from_upload, after_upload, from_part, after_part}

pub object-rows-append : (m n : Map Bytes Object) → object_rows (m ++ n) ≡ object_rows m ++ object_rows n
unfolding object_rows
object-rows-append [] n = refl
object-rows-append (e ∷ m) n = rw (object-rows-append m n)

pub part-rows-append : (m n : Map ℕ Part) → part_rows (m ++ n) ≡ part_rows m ++ part_rows n
unfolding part_rows
part-rows-append [] n = refl
part-rows-append (e ∷ m) n = rw (part-rows-append m n)

pub upload-rows-append : (m n : Map ℕ Upload) → upload_rows (m ++ n) ≡ upload_rows m ++ upload_rows n
unfolding upload_rows
upload-rows-append [] n = refl
upload-rows-append (e ∷ m) n = rw (upload-rows-append m n, append_assoc)

-- Objects ----------------------------------------------------------------------------------------------------------------

module _ (s : State) (p : Bytes) where
  pub object-place : rows_of s ≡ before_object s p ++ from_object s p
  unfolding rows_of before_object from_object
  object-place =
      let O = s.O in
      let i = place by_bytes p O in
      ap (λ (m : Map Bytes Object). object_rows m ++ upload_rows s.U) (sym (take-append-drop i O))
      ∙ rw object-rows-append (append_assoc (object_rows (take i O)) (object_rows (drop i O)) (upload_rows s.U))

  pub object-found : (x : Object) → lookup by_bytes p s.O ≡ some x → rows_of s ≡ before_object s p ++ (object_row p x ∷ after_object s p)
  unfolding rows_of before_object after_object object_rows
  object-found x f =
      let O = s.O in
      let i = place by_bytes p O in
      ap (λ (m : Map Bytes Object). object_rows m ++ upload_rows s.U) (split-found bytes p x O f)
      ∙ ap (λ (rs : List Row). rs ++ upload_rows s.U) (object-rows-append (take i O) ((p, x) ∷ drop (suc i) O))
      ∙ append_assoc (object_rows (take i O)) (object_row p x ∷ object_rows (drop (suc i) O)) (upload_rows s.U)

-- Uploads ----------------------------------------------------------------------------------------------------------------

module _ (s : State) (u : ℕ) where
  pub upload-place : rows_of s ≡ before_upload s u ++ from_upload s u
  unfolding rows_of before_upload from_upload
  upload-place =
      let U = s.U in
      let i = place by_number u U in
      ap (λ (m : Map ℕ Upload). object_rows s.O ++ upload_rows m) (sym (take-append-drop i U))
      ∙ rw upload-rows-append (sym (append_assoc (object_rows s.O) (upload_rows (take i U)) (upload_rows (drop i U))))

module _ (s : State) (u : ℕ) (x : Upload) (f : lookup by_number u s.U ≡ some x) where
  pub upload-found : rows_of s ≡ before_upload s u ++ (upload_row u x ∷ (part_rows x.parts ++ after_upload s u))
  unfolding rows_of before_upload after_upload upload_rows
  upload-found =
      let U = s.U in
      let i = place by_number u U in
      ap (λ (m : Map ℕ Upload). object_rows s.O ++ upload_rows m) (split-found numbers u x U f)
      ∙ ap (λ (rs : List Row). object_rows s.O ++ rs) (upload-rows-append (take i U) ((u, x) ∷ drop (suc i) U))
      ∙ sym (append_assoc (object_rows s.O) (upload_rows (take i U)) (upload_row u x ∷ (part_rows x.parts ++ upload_rows (drop (suc i) U))))

  -- at its parts, and after them
  pub parts-place : rows_of s ≡ before_parts s u x ++ (part_rows x.parts ++ after_upload s u)
  unfolding before_parts
  parts-place = upload-found ∙ sym (append_assoc (before_upload s u) (upload_row u x ∷ []) (part_rows x.parts ++ after_upload s u))

  pub parts-after : rows_of s ≡ through_parts s u x ++ after_upload s u
  unfolding through_parts
  parts-after = parts-place ∙ sym (append_assoc (before_parts s u x) (part_rows x.parts) (after_upload s u))

  -- at a part
  pub part-place : (n : ℕ) → rows_of s ≡ before_part s u x n ++ from_part s u x n
  unfolding before_part from_part
  part-place n =
      let i = place by_number n x.parts in
      parts-place
      ∙ ap (λ (m : Map ℕ Part). before_parts s u x ++ (part_rows m ++ after_upload s u)) (sym (take-append-drop i x.parts))
      ∙ rw (part-rows-append) (simp append_assoc)

  pub part-found : (n : ℕ) (y : Part) → lookup by_number n x.parts ≡ some y → rows_of s ≡ before_part s u x n ++ (part_row n y ∷ after_part s u x n)
  unfolding before_part after_part part_rows
  part-found n y g =
      let i = place by_number n x.parts in
      parts-place
      ∙ ap (λ (m : Map ℕ Part). before_parts s u x ++ (part_rows m ++ after_upload s u)) (split-found numbers n y x.parts g)
      ∙ ap (λ (rs : List Row). before_parts s u x ++ (rs ++ after_upload s u)) (part-rows-append (take i x.parts) ((n, y) ∷ drop (suc i) x.parts))
      ∙ simp append_assoc
