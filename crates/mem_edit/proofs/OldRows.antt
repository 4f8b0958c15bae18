-- The row that gives way at a place that was looked up, none or one, and the rows after it. Assumes nothing.
use Prim.Native.Nat.{ℕ, ◌+◌}
use mathlib.Core.Path.{◌≡◌, refl, ap, ◌∙◌}
use mathlib.Core.Bool.{Bool, true}
use mathlib.Core.List.{List, [], ◌∷◌, ◌++◌}
use mathlib.Core.Option.{Option, none, some}
use native.Mathlib.Omega.{arith}
use lib.ListN.{length, drop, length-append}
use Rattle.machine.specs.Map.{is_some}
use Rattle.machine.specs.State.{State}
use Rattle.mem_row.specs.declared.Head.{Head}
use Rattle.mem_row.specs.Row.{Row, encode_row, encode_rows, contents_of, head_at, head_of, span}
use Rattle.mem_row.proofs.RowLaws.{length-row}
use Rattle.mem_layout.specs.Header.{header_length}
use Rattle.mem_layout.specs.Memory.{Stands}
use Rattle.mem_find.proofs.RowsAt.{At}
use Rattle.mem_edit.specs.declared.rows.OldRow.{OldRow}
use Rattle.mem_edit.specs.Rows.{old_row_at}

-- how many rows there are, and what they take in tables and arena
abbrev pub sizes_of : List Row → OldRow
sizes_of rs = record { rows = length rs; length = length (encode_rows rs); size = length (contents_of rs) }

-- the row of what was looked up, if it is there
unfoldable pub row_if : {X : Type 0} → (X → Row) → Option X → List Row
row_if row none = []
row_if row (some x) = row x ∷ []

-- the rows after it: those after one that is there, or all from its place on
unfoldable pub rest_if : {X : Type 0} → (from after : List Row) → Option X → List Row
rest_if from after none = from
rest_if from after (some x) = after

-- what holds with no row there, and with one, holds
pub by-there : {X : Type 0} (P : List Row → List Row → Type 0) (row : X → Row) (from after : List Row) (o : Option X)
    → (o ≡ none → P [] from) → ((x : X) → o ≡ some x → P (row x ∷ []) after) → P (row_if row o) (rest_if from after o)
unfolding row_if rest_if
by-there P row from after none f g = f refl
by-there P row from after (some x) f g = g x refl

-- what the code reads of it
pub read-sizes : {X : Type 0} (row : X → Row) (o : Option X) (found : Bool) (h : Head) → found ≡ is_some o
    → ((x : X) → o ≡ some x → old_row_at true h ≡ sizes_of (row x ∷ [])) → old_row_at found h ≡ sizes_of (row_if row o)
unfolding row_if encode_rows contents_of
read-sizes row none found h is told = ap (λ (b : Bool). old_row_at b h) is
read-sizes row (some x) found h is told = ap (λ (b : Bool). old_row_at b h) is ∙ told x refl

pub one-sizes : (t a : List ℕ) (s : State) (k : Stands t a s) (xs : List Row) (r : Row) (ys : List Row) → At t a s k xs r ys
    → (at : ℕ) → at ≡ header_length + length (encode_rows xs) → old_row_at true (head_at (drop at t)) ≡ sizes_of (r ∷ [])
unfolding encode_rows contents_of
one-sizes t a s k xs r ys here at at-is =
    let head : head_at (drop at t) ≡ head_of r = ap (λ (i : ℕ). head_at (drop i t)) at-is ∙ here.head in
    let l : span (head_of r) ≡ length (encode_row r ++ []) = omega (arith, length-row r here.encodable, length-append (encode_row r) []) in
    let z : length r.content ≡ length (r.content ++ []) = omega (arith, length-append r.content []) in
    ap (old_row_at true) head ∙ (λ i. record { rows = 1; length = l i; size = z i })
