-- The test of a part list: number by number it is `list_fits`. Assumes nothing.
use Prim.Native.Nat.{ℕ, ◌+◌, ◌*◌, ◌≤◌}
use mathlib.Core.Path.{◌≡◌, refl, sym, ap, ◌∙◌, subst}
use mathlib.Core.Bool.{Bool, true, false, ◌&&◌, ◌||◌, not, or-true, false≢true}
use mathlib.Core.List.{List, [], ◌∷◌, ◌++◌}
use mathlib.Core.Option.{Option, none, some}
use native.Mathlib.Omega.{arith}
use borrow.Author.Tests.{eq-eqb, eqb-true, not-true}
use lib.Dec.{eqb}
use lib.ListN.{length}
use Rattle.base_number.specs.Number.{AreBytes}
use Rattle.base_order.proofs.OrderLaws.{numbers}
use Rattle.machine.specs.Map.{is_some, Map, by_number, lookup, Ascending, Every}
use Rattle.machine.specs.Names.{Bytes}
use Rattle.machine.specs.State.{Part, Upload, State}
use Rattle.machine.specs.Valid.{PartOk, UploadOk, Valid}
use Rattle.machine.specs.ListFits.{member, distinct, all_found, list_fits, listed_parts}
use Rattle.machine.proofs.MapLaws.{every-lookup}
use Rattle.machine.proofs.Options.{both}
use Rattle.machine.proofs.ListFits.{fits-fit, fit_length, distinct_snoc, found-append}
use Rattle.mem_layout.specs.Memory.{whole, state_of, rows_of, Stands}
use Rattle.mem_layout.proofs.WholeLaws.{whole-stands}
use Rattle.mem_find.specs.declared.Lookup.{Lookup}
use Rattle.mem_find.specs.declared.RowPlace.{RowPlace}
use Rattle.mem_find.specs.declared.PassedParts.{PassedParts}
use Rattle.mem_find.specs.Known.{OfOpenAt, OfOpenBefore}
use Rattle.mem_find.specs.Places.{part_place, upload_row_of, parts_row_of, passed_parts}
use Rattle.mem_find.specs.RowPlaces.{row_place_at}
use Rattle.mem_find_uploads.proofs.Answers.{first-part-row}
use Rattle.mem_find.proofs.Found.{is-some}
use Rattle.machine.specs.PartLists.{part_list}
use Rattle.mem_join_order.proofs.Listed.{fit_count}
use Rattle.mem_join.proofs.UploadBounds.{few-parts}
use Rattle.mem_join.proofs.Taking.{fit-even}
use Rattle.call_commit.specs.Numbers.{number_at, first_numbers, number_fits, after_listed}
use Rattle.call_commit.proofs.Listing.{next-number, number-inside, no_number, all-numbers}
use Rattle.call_commit.proofs.Ordered.{ordered-fits, reached-within}

-- a number that stands in the list
member-inside : (n : ℕ) (ns rest : List ℕ) → member n (ns ++ (n ∷ rest)) ≡ true
member-inside n [] rest = rw (eq-eqb n n refl)
member-inside n (k ∷ ns) rest = rw (member-inside n ns rest) (or-true (eqb n k))

-- none stands twice: not before either
distinct-before : (n : ℕ) (ns rest : List ℕ) → distinct (ns ++ (n ∷ rest)) ≡ true → member n ns ≡ false
distinct-before n [] rest h = refl
distinct-before n (k ∷ ns) rest h =
    let b = both _ _ h in go (eqb n k) refl (not-true _ b.0) (distinct-before n ns rest b.1)
  where
    go : (t : Bool) → eqb n k ≡ t → member k (ns ++ (n ∷ rest)) ≡ false → member n ns ≡ false → (t || member n ns) ≡ false
    go true q a d = absurd (false≢true (sym a ∙ ap (λ (j : ℕ). member j (ns ++ (n ∷ rest))) (sym (eqb-true n k q)) ∙ member-inside n ns rest))
    go false q a d = d

-- each number of a list that fits
module _ (m : Map ℕ Part) (list : Bytes) (i : ℕ) (inside : 2 * i + 2 ≤ length list) where
  fits-number : list_fits (part_list list) m ≡ true → number_fits m list i ≡ true
  unfolding list_fits number_fits
  fits-number h =
      let ns = part_list list in
      let n = number_at list i in
      let before = first_numbers list i in
      let k = number-inside list i inside in
      let a = both (eqb (length ns) (length m) && all_found m ns) (distinct ns) h in
      let b = both (eqb (length ns) (length m)) (all_found m ns) a.0 in
      let found = both (all_found m before) (all_found m (n ∷ k.0)) (sym (found-append m before (n ∷ k.0)) ∙ ap (all_found m) (sym k.1) ∙ b.1) in
      let here = (both (is_some (lookup by_number n m)) (all_found m k.0) found.1).0 in
      let once = distinct-before n before k.0 (ap distinct (sym k.1) ∙ a.1) in
      rw (here, once)

  pub unfit-number : number_fits m list i ≡ false → false ≡ list_fits (part_list list) m
  unfit-number unfit = go (list_fits (part_list list) m) refl
    where
      go : (t : Bool) → list_fits (part_list list) m ≡ t → false ≡ t
      go true q = absurd (false≢true (sym unfit ∙ fits-number q))
      go false q = refl

-- a list with an odd byte, or with another count of numbers
unfit-length : (m : Map ℕ Part) (list : Bytes) → Ascending by_number m → Every PartOk m → (length list ≡ 2 * length m → ⊥) → false ≡ list_fits (part_list list) m
unfit-length m list a v other = go (list_fits (part_list list) m) refl
  where
    go : (t : Bool) → list_fits (part_list list) m ≡ t → false ≡ t
    go true q =
        let f = fits-fit (part_list list) m a q in
        let ys = listed_parts m (part_list list) in
        absurd (other (omega (arith, fit-even list m ys v f, fit_count (part_list list) m ys f, fit_length (part_list list) m ys f)))
    go false q = refl

-- the first i numbers fit
pub record Passed (m : Map ℕ Part) (list : Bytes) (i : ℕ) : Type 0 where
  pub found : all_found m (first_numbers list i) ≡ true
  pub once : distinct (first_numbers list i) ≡ true

module _ (m : Map ℕ Part) (list : Bytes) where
  pub passed_none : Passed m list 0
  passed_none = record { found = ap (all_found m) (no_number list); once = ap distinct (no_number list) }

  pub passed-next : (i : ℕ) → 2 * i + 2 ≤ length list → Passed m list i → number_fits m list i ≡ true → Passed m list (i + 1)
  unfolding number_fits
  passed-next i inside p fit =
      let n = number_at list i in
      let before = first_numbers list i in
      let b = both (is_some (lookup by_number n m)) (not (member n before)) fit in
      let e = next-number list i inside in
      record {
        found = ap (all_found m) e ∙ found-append m before (n ∷ []) ∙ rw (p.found, b.0);
        once = ap distinct e ∙ distinct_snoc n before ∙ rw (p.once, b.1);
      }

  passed-all : length list ≡ 2 * length m → Passed m list (length m) → true ≡ list_fits (part_list list) m
  unfolding list_fits
  passed-all e p =
      let r = all-numbers list (length m) e in
      sym (rw (eq-eqb _ _ r.1, ap (all_found m) (sym r.0) ∙ p.found, ap distinct (sym r.0) ∙ p.once))

-- what `number_fits` finds
there-is : {X : Type 0} (o : Option X) → is_some o ≡ is_some o
there-is none = refl
there-is (some x) = refl

module _ (s : State) (u : ℕ) (x : Upload) (list : Bytes) (i n : ℕ) (told : n ≡ number_at list i) (place : Lookup) (place_is : place ≡ part_place s u x n) where
  there : is_some (lookup by_number n x.parts) ≡ place.found
  unfolding part_place
  there = there-is (lookup by_number n x.parts) ∙ sym (ap (λ (p : Lookup). p.found) place_is)

  pub number-absent : place.found ≡ false → false ≡ number_fits x.parts list i
  unfolding number_fits
  number-absent e = rw (← told, there, e)

  pub number-there : place.found ≡ true → (r : Bool) → r ≡ member n (first_numbers list i) → not r ≡ number_fits x.parts list i
  unfolding number_fits
  number-there e r is = rw (← told, there, e, is)

pub upload-ok : (A : ℕ) (s : State) → Valid A s → (u : ℕ) (x : Upload) → lookup by_number u s.U ≡ some x → UploadOk s.N u x
upload-ok A s v u x f = every-lookup numbers (UploadOk s.N) u x s.U v.upload f

pub count-is : (s : State) (u : ℕ) (x : Upload) (parts : PassedParts) → parts ≡ passed_parts s u x → parts.count ≡ length x.parts
unfolding passed_parts
count-is s u x parts e = ap (λ (k : PassedParts). k.count) e

-- what `judge_list` finds in whole memory
module _ (t a : List ℕ) (b : AreBytes t) (w : whole t a ≡ true) (u count : ℕ) where
  abbrev s : State
  s = state_of t a

  abbrev h : Stands t a s
  h = whole-stands t a b w

  module _ (x : Upload) (f : lookup by_number u s.U ≡ some x) (counted : count ≡ length x.parts) where
    pub unfit-list : (list : Bytes) → (length list ≡ 2 * count → ⊥) → false ≡ list_fits (part_list list) x.parts
    unfit-list list other =
        let k = upload-ok (length a) s h.valid u x f in
        unfit-length x.parts list k.sorted k.each (λ e. other (e ∙ ap (λ (n : ℕ). 2 * n) (sym counted)))

    pub ordered-list : (first : RowPlace) → first ≡ parts_row_of s u → (list : Bytes) (reached : RowPlace) → reached ≡ after_listed list (rows_of s) first.row
        → (parts : PassedParts) → parts ≡ passed_parts s u x → reached.row ≡ parts.next.row → length list ≡ 2 * count → true ≡ list_fits (part_list list) x.parts
    ordered-list first e list reached is parts are far l =
        ordered-fits s u x f first e list reached is parts are far (upload-ok (length a) s h.valid u x f).sorted (l ∙ ap (λ (n : ℕ). 2 * n) counted)

    pub fit-list : (list : Bytes) → length list ≡ 2 * count → Passed x.parts list count → true ≡ list_fits (part_list list) x.parts
    fit-list list e p = passed-all x.parts list (e ∙ ap (λ (n : ℕ). 2 * n) counted) (subst (Passed x.parts list) counted p)

  pub count-few : is_some (lookup by_number u s.U) ≡ true → ((x : Upload) → lookup by_number u s.U ≡ some x → count ≡ length x.parts) → count ≤ 256
  count-few is_open counted =
      let x = is-some (lookup by_number u s.U) is_open in
      omega (arith, counted x.0 x.1, few-parts t a s h u x.0 x.1)

-- the walk of `judge_list` beside the rows from the first part's on, and its pass over the parts
module _ (t a : List ℕ) (here first : RowPlace) (first-row : first ≡ row_place_at (rows_of (state_of t a)) (here.row + 1)) (list : Bytes) (reached : RowPlace)
    (reached-is : reached ≡ after_listed list (rows_of (state_of t a)) first.row) where
  -- the first part's row, or the row where it would stand
  pub first-is : (u : ℕ) → here ≡ upload_row_of (state_of t a) u → first ≡ parts_row_of (state_of t a) u
  first-is u e = first-part-row (state_of t a) u here first e first-row

  module _ (parts : PassedParts) (passed : OfOpenBefore t a first (λ s u x. reached.row ≤ first.row + length x.parts → parts ≡ passed_parts s u x)) where
    pub parts_are : OfOpenAt t a here (λ s u x. parts ≡ passed_parts s u x)
    parts_are u x q e = passed u x (first-is u q) e (reached-within (state_of t a) u x e first (first-is u q) list reached reached-is)

    pub parts-counted : OfOpenAt t a here (λ s u x. parts.count ≡ length x.parts)
    parts-counted u x q e = count-is (state_of t a) u x parts (parts_are u x q e)
