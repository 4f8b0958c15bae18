-- The search for a path, row by row. Assumes nothing.
use Prim.Native.Nat.{ℕ, suc, ◌+◌, ◌≤◌, ◌<◌, Ordering}
use mathlib.Core.Path.{◌≡◌, refl, sym, ap, ◌∙◌}
use mathlib.Core.Bool.{Bool, true, false, false≢true}
use mathlib.Core.List.{List, [], ◌∷◌}
use mathlib.Core.Option.{none, some}
use native.Mathlib.Numerals.{add-one}
use native.Mathlib.Omega.{arith}
use lib.ListN.{length, take, drop, length-append, drop_of_length-le}
use lib.Seq.{drop-cons, take_at, length-take-le}
use Rattle.base_order.specs.Order.{by, by_bytes, is_below, same}
use Rattle.base_order.proofs.OrderLaws.{cases, bytes, below-lt}
use Rattle.machine.specs.Map.{is_some, lookup, place}
use Rattle.machine.specs.Names.{Bytes}
use Rattle.machine.specs.State.{State}
use Rattle.mem_row.specs.declared.Head.{Head}
use Rattle.mem_row.specs.Row.{Row, encode_rows, contents_of, head_at, head_length, span}
use Rattle.mem_layout.specs.Header.{header_length}
use Rattle.mem_layout.specs.Memory.{object_rows, rows_of, Stands}
use Rattle.mem_layout.proofs.ObjectLaws.{length-object-rows}
use Rattle.mem_find.specs.declared.Lookup.{Lookup}
use Rattle.mem_find.specs.RowPlaces.{row_place_at, IsRow}
use Rattle.mem_find.specs.Places.{before_object, object_place, Passed}
use Rattle.mem_find.proofs.RowsAt.{At, Read, row-at, row_read}
use Rattle.mem_find.proofs.ObjectAt.{blank, entry, row, front, rest, split, next-front}

abbrev pub placed : Bool → (i at base : ℕ) → Lookup
placed found i at base = record { found = found; row = i; at = at; base = base }

pub passed_none : (s : State) (p : Bytes) → Passed s p 0 header_length 0
unfolding encode_rows contents_of object_rows
passed_none s p = record { within = omega arith; rows = refl; contents = refl; places = omega arith; found = refl }

-- the place is here: no further path is below p
here : (s : State) (p : Bytes) (i at base : ℕ) (b : Bool) → Passed s p i at base → place by_bytes p (drop i s.O) ≡ 0 → is_some (lookup by_bytes p (drop i s.O)) ≡ b
    → placed b i at base ≡ object_place s p
unfolding object_place before_object
here s p i at base b k e f =
    let n : place by_bytes p s.O ≡ i = let q = k.places in omega arith in
    let m : i ≡ length (object_rows (take i s.O)) = sym (length-object-rows (take i s.O) ∙ length-take-le i s.O k.within) in
    rw (k.found, f, n) (λ j. placed b (m j) (k.rows j) (k.contents j))

pub passed-all : (s : State) (p : Bytes) (i at base : ℕ) → Passed s p i at base → length s.O ≤ i → placed false i at base ≡ object_place s p
passed-all s p i at base k l =
    let e : drop i s.O ≡ [] = drop_of_length-le s.O l in
    here s p i at base false k (rw e) (rw e)

-- the next row is that of object i
pub passed-row : (s : State) (p : Bytes) (i at base : ℕ) → Passed s p i at base → i < length s.O → IsRow (rows_of s) (record { row = i; at = at; base = base })
unfolding row_place_at front
passed-row s p i at base k l =
    let n : length (front s i) ≡ i = length-object-rows (take i s.O) ∙ length-take-le i s.O k.within in
    let e : take i (rows_of s) ≡ front s i = ap (take i) (split s i l) ∙ take_at (front s i) (row s i ∷ rest s i) i n in
    let r : at ≡ header_length + length (encode_rows (take i (rows_of s))) = k.rows ∙ ap (λ (rs : List Row). header_length + length (encode_rows rs)) (sym e) in
    let c : base ≡ length (contents_of (take i (rows_of s))) = k.contents ∙ ap (λ (rs : List Row). length (contents_of rs)) (sym e) in
    (λ j. record { row = i; at = r j; base = c j }, omega (arith, ap length (split s i l), length-append (front s i) (row s i ∷ rest s i)))

-- what the code knows at the row of object i, by the head that it read there and whether its path is below p
pub record Turn (t a : List ℕ) (s : State) (p : Bytes) (i at base : ℕ) (head : Head) : Type 0 where
  pub inside : at + span head ≤ length t
  pub arena-inside : base + head.size ≤ length a
  pub here : (b : Bool) → is_below (take head.pathlen (drop (at + head_length) t)) p ≡ false → b ≡ same p (take head.pathlen (drop (at + head_length) t))
      → placed b i at base ≡ object_place s p
  pub on : is_below (take head.pathlen (drop (at + head_length) t)) p ≡ true → Passed s p (i + 1) (at + span head) (base + head.size)

module _ (t a : List ℕ) (s : State) (h : Stands t a s) (p : Bytes) (i at base : ℕ) (k : Passed s p i at base) (l : i < length s.O) where
  here-at : At t a s h (front s i) (row s i) (rest s i)
  here-at = row-at t a s h (front s i) (row s i) (rest s i) (split s i l)

  module _ (head : Head) (q : head ≡ head_at (drop at t)) where
    here-read : Read t a (front s i) (row s i) at base head
    unfolding front
    here-read = row_read t a s h (front s i) (row s i) (rest s i) at base head here-at k.rows k.contents q

    answer : (o : Ordering) → by_bytes p (take head.pathlen (drop (at + head_length) t)) ≡ o
        → (lookup by_bytes p (drop i s.O) ≡ by o none (some (entry s i).1) (lookup by_bytes p (drop (suc i) s.O)))
        × (place by_bytes p (drop i s.O) ≡ by o 0 0 (suc (place by_bytes p (drop (suc i) s.O))))
    answer o e =
        let f : by_bytes p (entry s i).0 ≡ o = ap (by_bytes p) (sym here-read.path) ∙ e in
        (rw (drop-cons s.O i blank l, f), rw (drop-cons s.O i blank l, f))

    -- the path in the row
    abbrev path : Bytes
    path = take head.pathlen (drop (at + head_length) t)

    above : is_below path p ≡ true → by_bytes p path ≡ Ordering.gt
    above e = bytes.under path p (below-lt path p e)

    not-below : (b : Bool) → is_below path p ≡ false → b ≡ same p path → placed b i at base ≡ object_place s p
    not-below b e q =
        cases (by_bytes p path)
        (λ o. here s p i at base b k (answer _ o).1 (ap is_some (answer _ o).0 ∙ sym (rw o at q)))
        (λ o. here s p i at base b k (answer _ o).1 (ap is_some (answer _ o).0 ∙ sym (rw o at q)))
        (λ o. let below : is_below path p ≡ true = rw (bytes.over p path o) in absurd (false≢true (sym e ∙ below)))

    pub object-turn : Turn t a s p i at base head
    unfolding front
    object-turn =
        let r = here-read in
        record {
          inside = r.inside;
          arena-inside = r.arena-inside;
          here = λ b. not-below b;
          on = λ below.
              let e = above below in
              record {
                within = omega arith;
                rows = omega (arith, r.next, ap (λ (rs : List Row). header_length + length (encode_rows rs)) (sym (next-front s i l)));
                contents = r.arena-next ∙ ap (λ (rs : List Row). length (contents_of rs)) (sym (next-front s i l));
                places = rw add-one (let m = k.places in omega (arith, (answer _ e).1));
                found = rw add-one (k.found ∙ (answer _ e).0);
              };
        }
