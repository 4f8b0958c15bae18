-- What stands at a row of whole memory. Assumes nothing.
use Prim.Native.Nat.{ℕ, suc, ◌+◌, ◌≤◌, ◌<◌}
use mathlib.Core.Path.{◌≡◌, sym, ap, ◌∙◌}
use mathlib.Core.List.{List, [], ◌∷◌, ◌++◌}
use native.Mathlib.Numerals.{add-one}
use native.Mathlib.Omega.{arith}
use lib.ListN.{length, get_or, take, drop}
use lib.Seq.{drop-cons, take-suc, split_at}
use Rattle.machine.specs.State.{State}
use Rattle.mem_row.specs.declared.Head.{Head}
use Rattle.mem_row.specs.Row.{Row, encode_rows, contents_of, head_at, head_of, head_length, span}
use Rattle.mem_layout.specs.Header.{header_length}
use Rattle.mem_layout.specs.Memory.{rows_of, Stands}
use Rattle.mem_layout.proofs.RowCounts.{length-rows}
use Rattle.mem_find.specs.declared.RowPlace.{RowPlace}
use Rattle.mem_find.specs.RowPlaces.{row_place_at, IsRow, HeadAt}
use Rattle.mem_find.proofs.RowsAt.{At, Read, row-at, row_read}

abbrev pub row_place : ℕ → ℕ → ℕ → RowPlace
row_place row at base = record { row = row; at = at; base = base }

-- row i of the rows of s stands at `at`, its data at `base`
pub record Reached (s : State) (i at base : ℕ) : Type 0 where
  pub within : i ≤ length (rows_of s)
  pub rows : at ≡ header_length + length (encode_rows (take i (rows_of s)))
  pub contents : base ≡ length (contents_of (take i (rows_of s)))

pub reached-place : (s : State) (i at base : ℕ) → Reached s i at base → row_place i at base ≡ row_place_at (rows_of s) i
unfolding row_place_at
reached-place s i at base k = λ j. row_place i (k.rows j) (k.contents j)

pub place-reached : (s : State) (p : RowPlace) → p ≡ row_place_at (rows_of s) p.row → p.row ≤ length (rows_of s) → Reached s p.row p.at p.base
unfolding row_place_at
place-reached s p e l = record { within = l; rows = ap (λ (q : RowPlace). q.at) e; contents = ap (λ (q : RowPlace). q.base) e }

-- how many rows there can be
pub rows_few : (t a : List ℕ) (s : State) → Stands t a s → length (rows_of s) ≤ 528
rows_few t a s h =
    let o = h.valid.paths in
    let u = h.valid.opens in
    let p = h.valid.parts in
    omega (arith, length-rows s)

-- what the code knows at row i, by the head that it read there
pub record Turn (t a : List ℕ) (s : State) (i at base : ℕ) (head : Head) : Type 0 where
  pub row : Row
  pub here : drop i (rows_of s) ≡ row ∷ drop (i + 1) (rows_of s)
  pub same : head ≡ head_of row
  pub inside : at + span head ≤ length t
  pub arena-inside : base + head.size ≤ length a
  pub next : Reached s (i + 1) (at + span head) (base + head.size)

abbrev blank : Row
blank = record { number = 0; stamp = 0; kind = 0; count = 0; digest = []; path = []; pairs = 0; lengths = []; content = [] }

module _ (t a : List ℕ) (s : State) (h : Stands t a s) (i at base : ℕ) (k : Reached s i at base) (l : i < length (rows_of s)) where
  abbrev rs : List Row
  rs = rows_of s

  abbrev r : Row
  r = get_or rs i blank

  here-at : At t a s h (take i rs) r (drop (suc i) rs)
  here-at = row-at t a s h (take i rs) r (drop (suc i) rs) (split_at rs i blank l)

  pub row_inside : at + head_length ≤ length t
  row_inside = let q = k.rows in let z = here-at.inside in omega arith

  pub row-turn : (head : Head) → head ≡ head_at (drop at t) → Turn t a s i at base head
  row-turn head q =
      let g : Read t a (take i rs) r at base head = row_read t a s h (take i rs) r (drop (suc i) rs) at base head here-at k.rows k.contents q in
      let n : take (i + 1) rs ≡ take i rs ++ (r ∷ []) = ap (λ (j : ℕ). take j rs) (add-one i) ∙ take-suc rs i blank l in
      record {
        row = r;
        here = drop-cons rs i blank l ∙ ap (λ (j : ℕ). r ∷ drop j rs) (sym (add-one i));
        same = g.same;
        inside = g.inside;
        arena-inside = g.arena-inside;
        next =
            record {
              within = omega arith;
              rows = g.next ∙ ap (λ (xs : List Row). header_length + length (encode_rows xs)) (sym n);
              contents = g.arena-next ∙ ap (λ (xs : List Row). length (contents_of xs)) (sym n);
            };
      }

pub turn-at : (t a : List ℕ) (s : State) → Stands t a s → (p : RowPlace) → IsRow (rows_of s) p → (head : Head) → head ≡ head_at (drop p.at t)
    → Turn t a s p.row p.at p.base head
turn-at t a s h p k head q = row-turn t a s h p.row p.at p.base (place-reached s p k.0 (let l = k.1 in omega arith)) k.1 head q

pub head-at : (t a : List ℕ) (s : State) → Stands t a s → (p : RowPlace) → IsRow (rows_of s) p → (head : Head) → head ≡ head_at (drop p.at t)
    → HeadAt (rows_of s) p head
head-at t a s h p k head q =
    let turn = turn-at t a s h p k head q in
    record { row = turn.row; here = turn.here; same = turn.same; next = reached-place s _ _ _ turn.next }
