-- From the row places that the searches answer to the places of an upload and of a part. Assumes nothing.
use Prim.Native.Nat.{ℕ, suc, ◌+◌, ◌-◌, ◌≤◌, ◌<◌}
use mathlib.Core.Path.{◌≡◌, refl, sym, ap, ◌∙◌}
use mathlib.Core.Bool.{Bool, true, false, cond}
use mathlib.Core.List.{List, [], ◌∷◌, ◌++◌, append-nil}
use mathlib.Core.Option.{some}
use native.Mathlib.Omega.{arith}
use lib.ListN.{length, take, drop, length-append, length-drop}
use lib.Seq.{take_at, drop_at, drop-append-le, drop-drop}
use Rattle.machine.specs.Map.{is_some, Map, by_number, lookup, place, Ascending}
use Rattle.machine.specs.Names.{Bytes}
use Rattle.machine.specs.State.{Upload, State}
use Rattle.machine.specs.Steps.{due}
use Rattle.mem_row.specs.Row.{Row, encode_rows, contents_of}
use Rattle.mem_layout.specs.Rules.{upload_kind, part_kind}
use Rattle.mem_layout.specs.Header.{header_length}
use Rattle.mem_layout.specs.Memory.{object_rows, upload_row, part_rows, upload_rows, rows_of}
use Rattle.mem_layout.proofs.UploadLaws.{length-part-rows}
use Rattle.mem_find.specs.declared.RowPlace.{RowPlace}
use Rattle.mem_find.specs.declared.Lookup.{Lookup}
use Rattle.mem_find_uploads.specs.Search.{Goal}
use Rattle.mem_find_uploads.specs.Search as goal
use Rattle.mem_find.specs.Places.{place_after, lookup_after, place_of, before_object, from_object, object_place, before_upload, before_parts, before_part, through_parts, from_upload, after_upload, from_part, upload_place, part_place, upload_row_of, parts_row_of, passed_parts}
use Rattle.mem_find.specs.RowPlaces.{row_place_at, IsRow, IsRowPlace}
use Rattle.mem_find_uploads.specs.Search.{reach, stops_of, sought, due_from, leads}
use Rattle.mem_find.proofs.Splits.{object-place, upload-place, upload-found, parts-place, parts-after, part-place}
use Rattle.mem_find_uploads.proofs.Searches.{reach-end, reach-uploads, upload-leads, reach-part, part-leads, reach-next-from, reach-none-due, reach-first-due}
use Rattle.mem_find.proofs.Found.{is-some}

-- Row places -------------------------------------------------------------------------------------------------------------

pub place-row : (rs : List Row) (p : RowPlace) (i : ℕ) → p ≡ row_place_at rs i → p.row ≡ i
unfolding row_place_at
place-row rs p i e = ap (λ (q : RowPlace). q.row) e

pub is-row-place : (rs : List Row) (p : RowPlace) (i : ℕ) → p ≡ row_place_at rs i → i ≤ length rs → IsRowPlace rs p
is-row-place rs p i e l = let n = place-row rs p i e in (e ∙ ap (row_place_at rs) (sym n), omega arith)

reach-length : (stop : Row → Bool) (rs : List Row) → reach stop rs ≤ length rs
unfolding reach
reach-length stop [] = omega arith
reach-length stop (r ∷ rs) = go (stop r) (reach-length stop rs)
  where
    go : (b : Bool) → reach stop rs ≤ length rs → cond b 0 (suc (reach stop rs)) ≤ suc (length rs)
    go true h = omega arith
    go false h = omega arith

-- a search that passes the rows xs and stops there goes on through what else follows them
reach-past : (stop : Row → Bool) (xs ys zs : List Row) → reach stop (xs ++ ys) ≡ length xs → reach stop (xs ++ zs) ≡ length xs + reach stop zs
unfolding reach
reach-past stop [] ys zs e = omega arith
reach-past stop (x ∷ xs) ys zs e = go (stop x) e (reach-past stop xs ys zs)
  where
    go : (b : Bool) → cond b 0 (suc (reach stop (xs ++ ys))) ≡ suc (length xs) → (reach stop (xs ++ ys) ≡ length xs → reach stop (xs ++ zs) ≡ length xs + reach stop zs)
        → cond b 0 (suc (reach stop (xs ++ zs))) ≡ suc (length xs) + reach stop zs
    go true h i = absurd (omega arith)
    go false h i = omega (arith, i (omega arith))

pub sought-row-place : (g : Goal) (rs : List Row) (p : RowPlace) (i : ℕ) → p ≡ sought g rs i → i ≤ length rs → IsRowPlace rs p
unfolding sought
sought-row-place g rs p i e l = is-row-place rs p _ e (omega (arith, reach-length (stops_of g) (drop i rs), length-drop i rs))

-- the place of the row after the rows xs, where ys are the rest
pub place_after_lem : (rs xs ys : List Row) → rs ≡ xs ++ ys → row_place_at rs (length xs) ≡ place_after xs
unfolding row_place_at
place_after_lem rs xs ys e =
    ap (λ (l : List Row). record { row = length xs; at = header_length + length (encode_rows l); base = length (contents_of l) })
    (ap (take (length xs)) e ∙ take_at xs ys (length xs) refl)

pub record PlacedAfter (rs xs ys : List Row) (p : RowPlace) : Type 0 where
  pub at : p.at ≡ header_length + length (encode_rows xs)
  pub base : p.base ≡ length (contents_of xs)
  pub row : p.row ≡ length xs
  pub rest : drop p.row rs ≡ ys

pub placed-after : (rs xs ys : List Row) (p : RowPlace) → rs ≡ xs ++ ys → p ≡ row_place_at rs (length xs) → PlacedAfter rs xs ys p
placed-after rs xs ys p e q =
    let a : p ≡ place_after xs = q ∙ place_after_lem rs xs ys e in
    let n : p.row ≡ length xs = ap (λ (z : RowPlace). z.row) a in
    record {
      at = ap (λ (z : RowPlace). z.at) a;
      base = ap (λ (z : RowPlace). z.base) a;
      row = n;
      rest = ap (λ (i : ℕ). drop i rs) n ∙ ap (drop (length xs)) e ∙ drop_at xs ys (length xs) refl;
    }

-- a search from after the rows xs passes zs
sought-passes : (g : Goal) (rs xs ys zs : List Row) (i : ℕ) → rs ≡ xs ++ ys → i ≡ length xs → reach (stops_of g) ys ≡ length zs → sought g rs i ≡ row_place_at rs (length (xs ++ zs))
unfolding sought
sought-passes g rs xs ys zs i e n r =
    let d : drop i rs ≡ ys = ap (λ (j : ℕ). drop j rs) n ∙ ap (drop (length xs)) e ∙ drop_at xs ys (length xs) refl in
    let m : i + reach (stops_of g) (drop i rs) ≡ length (xs ++ zs) = omega (arith, ap (reach (stops_of g)) d, length-append xs zs) in
    ap (row_place_at rs) m

-- a search that stopped after the rows xs answers, where other rows follow them, what the search from there answers
sought-again : (g : Goal) (rs xs ys zs : List Row) (i : ℕ) → rs ≡ xs ++ ys → i ≤ length xs → sought g rs i ≡ row_place_at rs (length xs)
    → sought g (xs ++ zs) i ≡ sought g (xs ++ zs) (length xs)
unfolding sought row_place_at
sought-again g rs xs ys zs i e l q =
    let stop = stops_of g in
    let n : i + reach stop (drop i rs) ≡ length xs = sym (place-row rs _ _ (sym q)) in
    let stopped : reach stop (drop i xs ++ ys) ≡ length (drop i xs) =
    omega (arith, ap (λ (l : List Row). reach stop (drop i l)) e, ap (reach stop) (drop-append-le i xs ys l), length-drop i xs) in
    let m : i + reach stop (drop i (xs ++ zs)) ≡ length xs + reach stop (drop (length xs) (xs ++ zs)) =
    omega (arith, ap (reach stop) (drop-append-le i xs zs l), reach-past stop (drop i xs) ys zs stopped, length-drop i xs, ap (reach stop) (drop_at xs zs (length xs) refl)) in
    ap (row_place_at (xs ++ zs)) m

-- The end of the rows ----------------------------------------------------------------------------------------------------

pub end-answer : (rs : List Row) (p : RowPlace) (i : ℕ) → i ≤ length rs → p ≡ sought goal.End rs i → p ≡ place_after rs
unfolding sought
end-answer rs p i l e =
    let n : i + reach (stops_of goal.End) (drop i rs) ≡ length rs = omega (arith, reach-end (drop i rs), length-drop i rs) in
    e ∙ ap (row_place_at rs) n ∙ place_after_lem rs rs [] (sym (append-nil rs))

-- the place that a lookup answers is one of a row, or after them all
pub lookup-place : (b : Bool) (rs xs ys : List Row) (l : Lookup) → l ≡ lookup_after b xs → rs ≡ xs ++ ys → IsRowPlace rs (place_of l)
lookup-place b rs xs ys l e split =
    is-row-place rs (place_of l) (length xs) (ap place_of e ∙ sym (place_after_lem rs xs ys split)) (omega (arith, ap length split, length-append xs ys))

-- Objects ----------------------------------------------------------------------------------------------------------------

pub object-row-place : (s : State) (p : Bytes) (l : Lookup) → l ≡ object_place s p → IsRowPlace (rows_of s) (place_of l)
unfolding object_place
object-row-place s p l e = lookup-place _ (rows_of s) (before_object s p) (from_object s p) l e (object-place s p)

-- Uploads ----------------------------------------------------------------------------------------------------------------

pub uploads-within : (s : State) → length (object_rows s.O) ≤ length (rows_of s)
unfolding rows_of
uploads-within s = omega (arith, length-append (object_rows s.O) (upload_rows s.U))

pub upload-answer : (s : State) (u : ℕ) (p : RowPlace) → p ≡ sought (goal.Upload u) (rows_of s) (length (object_rows s.O)) → p ≡ upload_row_of s u
unfolding before_upload rows_of
upload-answer s u p e =
    let O = object_rows s.O in
    let U = s.U in
    e ∙ sought-passes (goal.Upload u) (rows_of s) O (upload_rows U) (upload_rows (take (place by_number u U) U)) (length O) refl refl (reach-uploads u U)

pub found-upload : (s : State) (u : ℕ) (p : RowPlace) (found : Bool) → p ≡ upload_row_of s u → found ≡ leads upload_kind u (drop p.row (rows_of s))
    → record { found = found; row = p.row; at = p.at; base = p.base } ≡ upload_place s u
unfolding upload_place from_upload
found-upload s u p found e f =
    let k = placed-after (rows_of s) (before_upload s u) (from_upload s u) p (upload-place s u) e in
    let g : found ≡ is_some (lookup by_number u s.U) = f ∙ ap (leads upload_kind u) k.rest ∙ upload-leads u s.U in
    λ i. record { found = g i; row = k.row i; at = k.at i; base = k.base i }

pub open-within : (s : State) (u : ℕ) → is_some (lookup by_number u s.U) ≡ true → length (before_upload s u) < length (rows_of s)
open-within s u e =
    let k = is-some (lookup by_number u s.U) e in
    let x = k.0 in
    omega (arith, ap length (upload-found s u x k.1), length-append (before_upload s u) (upload_row u x ∷ (part_rows x.parts ++ after_upload s u)))

-- the place of an open upload's row, and that of the row after it
pub open-row-place : (s : State) (u : ℕ) (p : RowPlace) → p ≡ upload_row_of s u → is_some (lookup by_number u s.U) ≡ true → IsRow (rows_of s) p
open-row-place s u p e o =
    let l = open-within s u o in
    let n = place-row (rows_of s) p (length (before_upload s u)) e in
    ((is-row-place (rows_of s) p (length (before_upload s u)) e (omega arith)).0, omega arith)

pub first-part-row : (s : State) (u : ℕ) (p q : RowPlace) → p ≡ upload_row_of s u → q ≡ row_place_at (rows_of s) (p.row + 1) → q ≡ parts_row_of s u
first-part-row s u p q e f = f ∙ ap (λ (i : ℕ). row_place_at (rows_of s) (i + 1)) (place-row (rows_of s) p (length (before_upload s u)) e)

pub parts-row-place : (s : State) (u : ℕ) (p : RowPlace) → p ≡ parts_row_of s u → is_some (lookup by_number u s.U) ≡ true → IsRowPlace (rows_of s) p
parts-row-place s u p e o = is-row-place (rows_of s) p (length (before_upload s u) + 1) e (let l = open-within s u o in omega arith)

-- the place that the lookup of an upload answers
pub upload-lookup : (s : State) (u : ℕ) (l : Lookup) → l ≡ upload_place s u → place_of l ≡ upload_row_of s u
unfolding upload_place
upload-lookup s u l e = ap place_of e ∙ sym (place_after_lem (rows_of s) (before_upload s u) (from_upload s u) (upload-place s u))

-- the search for one that started before a stamp, from the first on
module _ (t : ℕ) (s : State) (p : RowPlace) (e : p ≡ due_from t (rows_of s) (length (object_rows s.O))) where
  pub none-due-answer : due t s.U ≡ [] → p.row ≡ length (rows_of s)
  unfolding rows_of
  none-due-answer d =
      let O = object_rows s.O in
      let U = upload_rows s.U in
      place-row (rows_of s) p _ (e ∙ sought-passes (goal.Due t) (rows_of s) O U U (length O) refl refl (reach-none-due t s.U d))

  pub first-due-answer : (u : ℕ) (x : Upload) (rest : Map ℕ Upload) → Ascending by_number s.U → due t s.U ≡ (u, x) ∷ rest → p ≡ upload_row_of s u
  unfolding before_upload rows_of
  first-due-answer u x rest a d =
      let O = object_rows s.O in
      let U = s.U in
      e ∙ sought-passes (goal.Due t) (rows_of s) O (upload_rows U) (upload_rows (take (place by_number u U) U)) (length O) refl refl (reach-first-due t u x rest U a d)

  -- where other rows follow those before upload u: the place of its row is that of the first of them, or the end, and the search from there answers
  -- what the search from the first upload does
  module _ (u : ℕ) (q : p ≡ upload_row_of s u) (rs ys : List Row) (split : rs ≡ before_upload s u ++ ys) where
    pub place-stays : IsRowPlace rs p
    place-stays =
        let xs = before_upload s u in
        is-row-place rs p (length xs) (q ∙ place_after_lem (rows_of s) xs (from_upload s u) (upload-place s u) ∙ sym (place_after_lem rs xs ys split)) (omega (arith, ap length split, length-append xs ys))

    pub search-goes-on : due_from t rs p.row ≡ due_from t rs (length (object_rows s.O))
    unfolding before_upload
    search-goes-on =
        let O = object_rows s.O in
        let xs = before_upload s u in
        let l : length O ≤ length xs = omega (arith, length-append O (upload_rows (take (place by_number u s.U) s.U))) in
        let n = place-row (rows_of s) p (length xs) q in
        rw (split, n) (sym (sought-again (goal.Due t) (rows_of s) xs (from_upload s u) ys (length O) (upload-place s u) l (sym e ∙ q)))

-- Parts ------------------------------------------------------------------------------------------------------------------

module _ (s : State) (u : ℕ) (x : Upload) (f : lookup by_number u s.U ≡ some x) (first : RowPlace) (e : first ≡ parts_row_of s u) where
  first-row : first.row ≡ length (before_parts s u x)
  unfolding before_parts
  first-row = place-row (rows_of s) first _ e ∙ sym (length-append (before_upload s u) (upload_row u x ∷ []))

  pub found_part : (n : ℕ) (p : RowPlace) (found : Bool) → p ≡ sought (goal.Part n) (rows_of s) first.row → found ≡ leads part_kind n (drop p.row (rows_of s))
      → record { found = found; row = p.row; at = p.at; base = p.base } ≡ part_place s u x n
  unfolding part_place before_part from_part after_upload
  found_part n p found q r =
      let ps = x.parts in
      let z = part_rows (take (place by_number n ps) ps) in
      let m = sought-passes (goal.Part n) (rows_of s) (before_parts s u x) (part_rows ps ++ after_upload s u) z first.row (parts-place s u x f) first-row (reach-part n ps _) in
      let k = placed-after (rows_of s) (before_part s u x n) (from_part s u x n) p (part-place s u x f n) (q ∙ m) in
      let g : found ≡ is_some (lookup by_number n ps) = r ∙ ap (leads part_kind n) k.rest ∙ part-leads n ps _ in
      λ i. record { found = g i; row = k.row i; at = k.at i; base = k.base i }

  pub all-parts : (from p : RowPlace) → first.row ≤ from.row → from.row ≤ first.row + length x.parts → p ≡ sought goal.NextUpload (rows_of s) from.row
      → record { count = p.row - first.row; next = p } ≡ passed_parts s u x
  unfolding sought passed_parts through_parts after_upload
  all-parts from p low high q =
      let ps = x.parts in
      let rs = rows_of s in
      let j : ℕ = from.row - first.row in
      let there : first.row + j ≡ from.row = omega arith in
      let rest : drop first.row rs ≡ part_rows ps ++ after_upload s u = ap (drop first.row) (parts-place s u x f) ∙ drop_at (before_parts s u x) (part_rows ps ++ after_upload s u) first.row (sym first-row) in
      let onward : drop from.row rs ≡ drop j (part_rows ps ++ after_upload s u) = ap (λ (i : ℕ). drop i rs) (sym there) ∙ sym (drop-drop j first.row rs) ∙ ap (drop j) rest in
      let far = reach-next-from j ps (drop (suc (place by_number u s.U)) s.U) (omega arith) in
      let many = length-append (before_parts s u x) (part_rows ps) in
      let m : from.row + reach (stops_of goal.NextUpload) (drop from.row rs) ≡ length (before_parts s u x ++ part_rows ps) = omega (arith, first-row, ap (reach (stops_of goal.NextUpload)) onward, far, many) in
      let n = place-row rs p _ q in
      let c : p.row - first.row ≡ length ps = omega (arith, first-row, many, length-part-rows ps) in
      let k = q ∙ ap (row_place_at rs) m ∙ place_after_lem rs (through_parts s u x) (after_upload s u) (parts-after s u x f) in
      λ i. record { count = c i; next = k i }

pub sought-after : (g : Goal) (rs : List Row) (p : RowPlace) (i : ℕ) → p ≡ sought g rs i → i ≤ p.row
unfolding sought
sought-after g rs p i e = omega (arith, place-row rs p _ e)
