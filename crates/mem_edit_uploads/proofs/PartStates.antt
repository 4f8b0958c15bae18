-- A state whose open upload has another part: its uploads, its parts, and its rows before and after. Assumes nothing.
use Prim.Native.Nat.{ℕ, ◌+◌}
use mathlib.Core.Path.{◌≡◌}
use mathlib.Core.List.{List, ◌∷◌, ◌++◌}
use mathlib.Core.Option.{Option, some}
use native.Mathlib.Omega.{arith}
use lib.ListN.{length}
use Rattle.base_order.proofs.OrderLaws.{numbers}
use Rattle.machine.specs.Map.{by_number, lookup, total}
use Rattle.machine.specs.State.{Part, Upload, State, parts_in, with_upload, with_part}
use Rattle.machine.proofs.MapSums.{length-insert}
use Rattle.machine.proofs.Counts.{parts-part}
use Rattle.mem_row.specs.Row.{Row}
use Rattle.mem_layout.specs.Memory.{part_row, rows_of}
use Rattle.mem_find.specs.Places.{before_part, from_part, after_part}
use Rattle.mem_find.proofs.Splits.{part-place, part-found}
use Rattle.mem_edit.proofs.OldRows.{row_if, rest_if, by-there}
use Rattle.mem_edit.proofs.Changes.{new-part-rows, old-part-rows}

-- an upload is found once
pub open-once : (o : Option Upload) (x y : Upload) → o ≡ some x → o ≡ some y → x ≡ y
open-once o x y e f = cc

-- the row of part n, if there is one
abbrev pub old_parts : Upload → ℕ → List Row
old_parts x n = row_if (part_row n) (lookup by_number n x.parts)

-- the rows after it
abbrev pub rest_parts : State → (u : ℕ) → Upload → (n : ℕ) → List Row
rest_parts s u x n = rest_if (from_part s u x n) (after_part s u x n) (lookup by_number n x.parts)

module _ (s : State) (u : ℕ) (x : Upload) (is_open : lookup by_number u s.U ≡ some x) (n : ℕ) where
  -- the part that is there, if any, and the rows after it, before and after a part is put
  pub was-rows : rows_of s ≡ before_part s u x n ++ (old_parts x n ++ rest_parts s u x n)
  was-rows =
      by-there (λ (old rest : List Row). rows_of s ≡ before_part s u x n ++ (old ++ rest)) (part_row n) (from_part s u x n) (after_part s u x n) (lookup by_number n x.parts)
      (λ f. part-place s u x is_open n) (λ y f. part-found s u x is_open n y f)

  module _ (y : Part) where
    abbrev s' : State
    s' = with_upload s u (with_part x n y)

    pub put-rows : rows_of s' ≡ before_part s u x n ++ (part_row n y ∷ rest_parts s u x n)
    put-rows =
        by-there (λ (old rest : List Row). rows_of s' ≡ before_part s u x n ++ (part_row n y ∷ rest)) (part_row n) (from_part s u x n) (after_part s u x n) (lookup by_number n x.parts)
        (λ f. new-part-rows s u x is_open n y f) (λ z f. old-part-rows s u x is_open n z y f)

    -- as many uploads then, and how many parts
    pub same-uploads : length s.U ≡ length s'.U
    same-uploads = omega (arith, rw is_open at (length-insert numbers u (with_part x n y) s.U))

    pub put_count : total parts_in s'.U + length (old_parts x n) ≡ total parts_in s.U + 1
    put_count =
        by-there (λ (old rest : List Row). total parts_in s'.U + length old ≡ total parts_in s.U + 1) (part_row n) (from_part s u x n) (after_part s u x n) (lookup by_number n x.parts)
        (λ f. omega (arith, rw f at (parts-part s u n x y is_open))) (λ z f. omega (arith, rw f at (parts-part s u n x y is_open)))
