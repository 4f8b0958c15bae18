-- The lengths of a row's pairs, where they stand, and how many bytes they say. Assumes nothing.
use Prim.Native.Nat.{ℕ, ◌+◌, ◌-◌, ◌*◌, ◌≤◌}
use mathlib.Core.Path.{◌≡◌, sym, ap, ◌∙◌}
use mathlib.Core.List.{List}
use native.Mathlib.Omega.{arith}
use lib.ListN.{length, take, drop, length-take}
use lib.Seq.{drop-drop}
use Rattle.base_number.specs.Number.{AreBytes}
use Rattle.base_number.proofs.NumberLaws.{bytes_drop}
use Rattle.machine.specs.Names.{Bytes}
use Rattle.machine.specs.Pairs.{pairs_held}
use Rattle.machine.specs.State.{Object, State}
use Rattle.pairs_stored.specs.Stored.{sum_of}
use Rattle.pairs_stored.proofs.StoredLaws.{sum-lengths}
use Rattle.mem_row.specs.declared.Head.{Head}
use Rattle.mem_row.specs.Fields.{numbers_at}
use Rattle.mem_row.specs.Row.{Row, widths, encode_rows, head_at, head_length, lengths_at, span, span_at, head_of}
use Rattle.mem_row.proofs.FieldLaws.{numbers_fit}
use Rattle.mem_layout.specs.Header.{header_length}
use Rattle.mem_layout.specs.Memory.{object_row, Stands}
use Rattle.mem_find.proofs.RowsAt.{At}

-- what `lengths` answers, by the head that it read
module _ (t : List ℕ) (at : ℕ) (h : Head) (e : h ≡ head_at (drop at t)) where
  pub span-is : span_at (drop at t) ≡ span h
  unfolding span_at
  span-is = ap span (sym e)

  pub lengths-is : (from to : ℕ) → from ≡ at + head_length + h.pathlen → to ≡ at + span h → take (to - from) (drop from t) ≡ lengths_at (drop at t)
  unfolding lengths_at
  lengths-is from to f g =
      let n : to - from ≡ 2 * h.pairs = omega arith in
      let m : from ≡ at + (head_length + h.pathlen) = omega arith in
      rw (n, m, ← (drop-drop (head_length + h.pathlen) at t), e)

-- two lengths for each pair, of which a byte counts at most 63
pub lengths-few : (t : List ℕ) (at : ℕ) → AreBytes t → head_length ≤ length (drop at t) → length (lengths_at (drop at t)) ≤ 126
unfolding lengths_at head_at numbers_at
lengths-few t at b room =
    let u = drop at t in
    let f = (numbers_fit widths u (bytes_drop at t b) (omega arith)).1.1.1.0 in
    omega (arith, length-take (2 * (head_at u).pairs) (drop (head_length + (head_at u).pathlen) u))

-- a row of a state: it stands inside the tables, by the place that the code has of it
module _ (t a : List ℕ) (s : State) (h : Stands t a s) (xs : List Row) (r : Row) (ys : List Row) (k : At t a s h xs r ys) (at : ℕ)
    (e : at ≡ header_length + length (encode_rows xs)) where
  pub row-span : at + span_at (drop at t) ≤ length t
  unfolding span_at
  row-span =
      let n : head_at (drop at t) ≡ head_of r = ap (λ (i : ℕ). head_at (drop i t)) e ∙ k.head in
      let i = k.inside in
      omega (arith, ap span n)

  pub row-lengths : lengths_at (drop at t) ≡ r.lengths
  row-lengths = ap (λ (i : ℕ). lengths_at (drop i t)) e ∙ k.lengths

-- the pairs of an object
pub object-pairs-size : (t a : List ℕ) (s : State) (h : Stands t a s) (xs ys : List Row) (at : ℕ) (e : at ≡ header_length + length (encode_rows xs))
    → (p : Bytes) (x : Object) → At t a s h xs (object_row p x) ys → sum_of (lengths_at (drop at t)) ≡ pairs_held x.pairs
object-pairs-size t a s h xs ys at e p x k = ap sum_of (row-lengths t a s h xs (object_row p x) ys k at e) ∙ sum-lengths x.pairs
