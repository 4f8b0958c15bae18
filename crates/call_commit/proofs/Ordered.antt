-- A part list in ascending order, walked beside the rows: it fits. Assumes nothing.
use Prim.Native.Nat.{ℕ, zero, suc, ◌+◌, ◌*◌, ◌≤◌, ◌<◌}
use mathlib.Core.Path.{◌≡◌, refl, sym, ap, ◌∙◌, subst}
use mathlib.Core.Bool.{Bool, true, false, cond}
use mathlib.Core.List.{List, [], ◌∷◌, ◌++◌}
use mathlib.Core.Option.{some}
use native.Mathlib.Omega.{arith}
use borrow.Author.Tests.{eqb-true}
use lib.ListN.{length, drop, drop_of_length-le, length-append, length-drop}
use lib.Seq.{drop_at}
use Rattle.base_order.proofs.OrderLaws.{compare_self}
use Rattle.machine.specs.Map.{Map, by_number, lookup, Ascending}
use Rattle.machine.specs.Names.{Bytes}
use Rattle.machine.specs.Etags.{Etag, absent, plain, joined}
use Rattle.machine.specs.State.{Object, Part, Upload, State}
use Rattle.machine.specs.Steps.{take_listed}
use Rattle.machine.specs.ListFits.{list_fits}
use Rattle.machine.proofs.Options.{both}
use Rattle.machine.proofs.ListFits.{fit-fits}
use Rattle.mem_row.specs.declared.Head.{Head}
use Rattle.mem_row.specs.Row.{Row, head_of, head_length, span}
use Rattle.mem_layout.specs.Rules.{part_kind}
use Rattle.mem_layout.specs.Memory.{row_kind, part_row, upload_row, object_rows, part_rows, upload_rows, rows_of}
use Rattle.mem_layout.proofs.UploadLaws.{length-part-rows}
use Rattle.mem_find.specs.declared.RowPlace.{RowPlace}
use Rattle.mem_find.specs.declared.PassedParts.{PassedParts}
use Rattle.mem_find.specs.RowPlaces.{row_place_at, IsRowPlace, HeadAt}
use Rattle.mem_find.specs.Places.{before_upload, before_parts, through_parts, after_upload, parts_row_of, passed_parts}
use Rattle.mem_find.proofs.Splits.{parts-place}
use Rattle.mem_find_uploads.proofs.Answers.{place-row, is-row-place}
use Rattle.machine.specs.PartLists.{part_list}
use Rattle.mem_join_order.specs.Region.{part_numbers}
use Rattle.call_commit.specs.Numbers.{number_at, is_part, listed_first, after_listed}
use Rattle.call_commit.proofs.Listing.{rest-bytes}

-- A part's row has no path and no pairs ----------------------------------------------------------------------------------

-- the rows of parts among these are as long as their heads
PartsBare : List Row → Type 0
PartsBare [] = Unit {0}
PartsBare (r ∷ rs) = (r.kind ≡ part_kind → span (head_of r) ≡ head_length) × PartsBare rs

no_part : (e : Etag) → row_kind e ≡ part_kind → ⊥
no_part absent h = omega arith
no_part (plain digest) h = omega arith
no_part (joined digest count) h = omega arith

bare_parts : (m : Map ℕ Part) (rs : List Row) → PartsBare rs → PartsBare (part_rows m ++ rs)
unfolding part_rows PartsBare
bare_parts [] rs k = k
bare_parts (e ∷ m) rs k = (λ h. omega arith, bare_parts m rs k)

bare-uploads : (m : Map ℕ Upload) → PartsBare (upload_rows m)
unfolding upload_rows PartsBare
bare-uploads [] = tt
bare-uploads (e ∷ m) = (λ h. absurd (omega arith), bare_parts e.1.parts (upload_rows m) (bare-uploads m))

bare-objects : (m : Map Bytes Object) (rs : List Row) → PartsBare rs → PartsBare (object_rows m ++ rs)
unfolding object_rows PartsBare
bare-objects [] rs k = k
bare-objects (e ∷ m) rs k = (λ h. absurd (no_part e.1.etag h), bare-objects m rs k)

bare-at : (i : ℕ) (rs : List Row) (r : Row) (rest : List Row) → PartsBare rs → drop i rs ≡ r ∷ rest → r.kind ≡ part_kind → span (head_of r) ≡ head_length
unfolding PartsBare
bare-at i [] r rest k e = absurd (omega (arith, ap length e, length-drop {A = Row} i []))
bare-at zero (q ∷ rs) r rest k e = let z : q ≡ r = cc in subst (λ (p : Row). p.kind ≡ part_kind → span (head_of p) ≡ head_length) z k.0
bare-at (suc i) (q ∷ rs) r rest k e = bare-at i rs r rest k.1 e

part-span : (s : State) (i : ℕ) (r : Row) → drop i (rows_of s) ≡ r ∷ drop (i + 1) (rows_of s) → r.kind ≡ part_kind → span (head_of r) ≡ head_length
unfolding rows_of
part-span s i r = bare-at i (rows_of s) r (drop (i + 1) (rows_of s)) (bare-objects s.O (upload_rows s.U) (bare-uploads s.U))

-- The walk: the list's number i, and the rows from some row on -----------------------------------------------------------

no_row : (list : Bytes) → listed_first list [] ≡ 0
unfolding listed_first
no_row [] = refl
no_row (x ∷ []) = refl
no_row (x ∷ (y ∷ list)) = refl

no-listed : (list : Bytes) (rs : List Row) → length list ≤ 1 → listed_first list rs ≡ 0
unfolding listed_first
no-listed [] rs l = refl
no-listed (x ∷ []) rs l = refl
no-listed (x ∷ (y ∷ list)) rs l = absurd (omega arith)

module _ (list : Bytes) (i : ℕ) (inside : 2 * i + 2 ≤ length list) (rs : List Row) (r : Row) (rest : List Row) (here : rs ≡ r ∷ rest) where
  listed-row : (b : Bool) → is_part (number_at list i) (head_of r) ≡ b → listed_first (drop (2 * i) list) rs ≡ cond b (suc (listed_first (drop (2 * (i + 1)) list) rest)) 0
  unfolding listed_first
  listed-row b h =
      let k = rest-bytes list i inside in
      let q : is_part (k.0 + 256 * k.1) (head_of r) ≡ b = ap (λ (n : ℕ). is_part n (head_of r)) (sym k.3) ∙ h in
      ap (λ (l : Bytes). listed_first l rs) k.2 ∙ rw (here, q)

-- the list's first i numbers are those of parts whose rows stand from row `first` on, and `here` is the row after them
pub record Walked (s : State) (first : ℕ) (list : Bytes) (i : ℕ) (here : RowPlace) : Type 0 where
  pub place : IsRowPlace (rows_of s) here
  pub counted : here.row ≡ first + i
  pub left : listed_first list (drop first (rows_of s)) ≡ i + listed_first (drop (2 * i) list) (drop here.row (rows_of s))

module _ (s : State) (first : ℕ) (list : Bytes) (i : ℕ) (here : RowPlace) (k : Walked s first list i here) where
  stopped : listed_first (drop (2 * i) list) (drop here.row (rows_of s)) ≡ 0 → here ≡ after_listed list (rows_of s) first
  stopped z =
      let n : here.row ≡ first + listed_first list (drop first (rows_of s)) = omega (arith, k.counted, k.left) in
      k.place.0 ∙ ap (row_place_at (rows_of s)) n

  pub walked-list : length list ≤ 2 * i + 1 → here ≡ after_listed list (rows_of s) first
  walked-list l = stopped (no-listed (drop (2 * i) list) (drop here.row (rows_of s)) (omega (arith, length-drop (2 * i) list)))

  pub walked-rows : length (rows_of s) ≤ here.row → here ≡ after_listed list (rows_of s) first
  walked-rows l = stopped (ap (listed_first (drop (2 * i) list)) (drop_of_length-le (rows_of s) l) ∙ no_row (drop (2 * i) list))

  -- the row there, whose head was read
  module _ (inside : 2 * i + 2 ≤ length list) (head : Head) (told : HeadAt (rows_of s) here head) where
    step : (b : Bool) → is_part (number_at list i) head ≡ b → listed_first (drop (2 * i) list) (drop here.row (rows_of s)) ≡ cond b (suc (listed_first (drop (2 * (i + 1)) list) (drop (here.row + 1) (rows_of s)))) 0
    step b h = listed-row list i inside (drop here.row (rows_of s)) told.row _ told.here b (ap (is_part (number_at list i)) (sym told.same) ∙ h)

    pub walked-off : is_part (number_at list i) head ≡ false → here ≡ after_listed list (rows_of s) first
    walked-off h = stopped (step false h)

    -- the row's length
    head-alone : is_part (number_at list i) head ≡ true → span head ≡ head_length
    head-alone h =
        let kind = eqb-true _ _ (both _ _ h).0 in
        ap span told.same ∙ part-span s here.row told.row told.here (ap (λ (g : Head). g.kind) (sym told.same) ∙ kind)

    pub walked_next : here.row < length (rows_of s) → is_part (number_at list i) head ≡ true
        → Walked s first list (i + 1) (record { row = here.row + 1; at = here.at + head_length; base = here.base + head.size })
    walked_next l h =
        let next = subst (λ (n : ℕ). record { row = here.row + 1; at = here.at + n; base = here.base + head.size } ≡ row_place_at (rows_of s) (here.row + 1)) (head-alone h) told.next in
        record {
          place = (next, omega arith);
          counted = omega (arith, k.counted);
          left = omega (arith, k.left, step true h);
        }

-- A list of the parts' numbers in order ----------------------------------------------------------------------------------

-- no more rows than the upload has parts: at the next upload's the walk stops
no-upload : (list : Bytes) (m : Map ℕ Upload) → listed_first list (upload_rows m) ≡ 0
unfolding upload_rows listed_first
no-upload list [] = no_row list
no-upload [] (e ∷ m) = refl
no-upload (x ∷ []) (e ∷ m) = refl
no-upload (x ∷ (y ∷ list)) (e ∷ m) = refl

listed-few : (list : Bytes) (m : Map ℕ Part) (more : Map ℕ Upload) → listed_first list (part_rows m ++ upload_rows more) ≤ length m
unfolding part_rows listed_first
listed-few list [] more = omega (arith, no-upload list more)
listed-few [] (e ∷ m) more = omega arith
listed-few (x ∷ []) (e ∷ m) more = omega arith
listed-few (x ∷ (y ∷ list)) (e ∷ m) more = go (is_part (x + 256 * y) (head_of (part_row e.0 e.1))) (listed-few list m more)
  where
    go : (b : Bool) → listed_first list (part_rows m ++ upload_rows more) ≤ length m → cond b (suc (listed_first list (part_rows m ++ upload_rows more))) 0 ≤ suc (length m)
    go true h = omega arith
    go false h = omega arith

-- the walk passes them all: the list has their numbers
order-numbers : (list : Bytes) (m : Map ℕ Part) (rest : List Row) → length list ≡ 2 * length m → listed_first list (part_rows m ++ rest) ≡ length m → part_list list ≡ part_numbers m
unfolding part_rows listed_first part_list part_numbers
order-numbers [] [] rest l h = refl
order-numbers (x ∷ list) [] rest l h = absurd (omega arith)
order-numbers [] (e ∷ m) rest l h = absurd (omega arith)
order-numbers (x ∷ []) (e ∷ m) rest l h = absurd (omega arith)
order-numbers (x ∷ (y ∷ list)) (e ∷ m) rest l h = go (is_part (x + 256 * y) (head_of (part_row e.0 e.1))) refl h (order-numbers list m rest (omega arith))
  where
    go : (b : Bool) → is_part (x + 256 * y) (head_of (part_row e.0 e.1)) ≡ b → cond b (suc (listed_first list (part_rows m ++ rest))) 0 ≡ suc (length m)
        → (listed_first list (part_rows m ++ rest) ≡ length m → part_list list ≡ part_numbers m) → (x + 256 * y) ∷ part_list list ≡ e.0 ∷ part_numbers m
    go true q h next = let n = eqb-true (x + 256 * y) e.0 q in let k = next (omega arith) in cc
    go false q h next = absurd (omega arith)

-- `take_listed` takes the first part each time
numbers_fit : (m : Map ℕ Part) → (xs : List Part) × (take_listed (part_numbers m) m ≡ some xs)
unfolding part_numbers
numbers_fit [] = ([], refl)
numbers_fit (e ∷ m) = let k = numbers_fit m in (e.1 ∷ k.0, rw (compare_self e.0, k.1))

-- what `judge_list` knows of the rows from an upload's first part on
module _ (s : State) (u : ℕ) (x : Upload) (f : lookup by_number u s.U ≡ some x) (first : RowPlace) (first-is : first ≡ parts_row_of s u) (list : Bytes) where
  row_is : first.row ≡ length (before_parts s u x)
  unfolding before_parts
  row_is = place-row (rows_of s) first _ first-is ∙ sym (length-append (before_upload s u) (upload_row u x ∷ []))

  part-rows : drop first.row (rows_of s) ≡ part_rows x.parts ++ after_upload s u
  part-rows = ap (drop first.row) (parts-place s u x f) ∙ drop_at (before_parts s u x) (part_rows x.parts ++ after_upload s u) first.row (sym row_is)

  listed-within : listed_first list (drop first.row (rows_of s)) ≤ length x.parts
  unfolding after_upload
  listed-within = subst (λ (rs : List Row). listed_first list rs ≤ length x.parts) (sym part-rows) (listed-few list x.parts _)

  module _ (reached : RowPlace) (reached-is : reached ≡ after_listed list (rows_of s) first.row) where
    pub reached-after : first.row ≤ reached.row
    reached-after = omega (arith, place-row (rows_of s) reached _ reached-is)

    pub reached-within : reached.row ≤ first.row + length x.parts
    reached-within = omega (arith, place-row (rows_of s) reached _ reached-is, listed-within)

    pub reached-row-place : IsRowPlace (rows_of s) reached
    reached-row-place =
        is-row-place (rows_of s) reached _ reached-is
        (omega (
          arith,
          listed-within,
          row_is,
          ap length (parts-place s u x f),
          length-append (before_parts s u x) (part_rows x.parts ++ after_upload s u),
          length-append (part_rows x.parts) (after_upload s u),
          length-part-rows x.parts,
        ))

    -- the walk came as far as the parts go
    module _ (parts : PassedParts) (parts_are : parts ≡ passed_parts s u x) (far : reached.row ≡ parts.next.row) where
      all_listed : listed_first list (drop first.row (rows_of s)) ≡ length x.parts
      unfolding passed_parts through_parts
      all_listed =
          omega (
            arith,
            place-row (rows_of s) reached _ reached-is,
            ap (λ (p : PassedParts). p.next.row) parts_are,
            row_is,
            length-append (before_parts s u x) (part_rows x.parts),
            length-part-rows x.parts,
          )

      pub ordered-numbers : length list ≡ 2 * length x.parts → part_list list ≡ part_numbers x.parts
      ordered-numbers l = order-numbers list x.parts (after_upload s u) l (ap (listed_first list) (sym part-rows) ∙ all_listed)

      pub ordered-fits : Ascending by_number x.parts → length list ≡ 2 * length x.parts → true ≡ list_fits (part_list list) x.parts
      ordered-fits up l =
          let k = numbers_fit x.parts in
          sym (ap (λ (ns : List ℕ). list_fits ns x.parts) (ordered-numbers l) ∙ fit-fits (part_numbers x.parts) x.parts k.0 up k.1)
