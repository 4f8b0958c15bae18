-- The two laws of numbers at fixed widths: what is read was written so, and what is written is read back. Assumes nothing.
use Prim.Native.Nat.{ℕ, zero, suc, ◌+◌, ◌≤◌, ◌<◌}
use mathlib.Core.Path.{◌≡◌, refl, sym, ◌∙◌}
use mathlib.Core.List.{List, [], ◌∷◌, ◌++◌, append_assoc}
use native.Mathlib.Nat.{add-zero, add_assoc, le_of_suc-le-suc, not-suc-le-zero}
use native.Mathlib.Omega.{arith}
use lib.ListN.{length, get_or, take, drop, length-drop, length-append, take-append-drop}
use lib.Seq.{drop-drop, take_at, drop_at, length-take-le}
use Rattle.base_number.specs.Number.{le, from_le, AreBytes}
use Rattle.base_number.proofs.NumberLaws.{bytes_take, bytes_drop, length-le, from_le-le, le-from_le, from_le-lt}
use Rattle.mem_row.specs.Fields.{width, fields, numbers_at, WithinWidths}

pub length_fields : (ws vs : List ℕ) → WithinWidths ws vs → length (fields ws vs) ≡ width ws
unfolding fields
length_fields [] [] f = refl
length_fields [] (v ∷ vs) f = absurd f
length_fields (w ∷ ws) [] f = absurd f
length_fields (w ∷ ws) (v ∷ vs) f = rw (length-append, length-le w v, length_fields ws vs f.1)

-- what is read was written so
pub fields-numbers : (ws s : List ℕ) → AreBytes s → width ws ≤ length s → fields ws (numbers_at ws s) ++ drop (width ws) s ≡ s
unfolding fields numbers_at
fields-numbers [] s b h = refl
fields-numbers (w ∷ ws) s b h =
    let hw : w ≤ length s = omega arith in
    let hr : width ws ≤ length (drop w s) = rw length-drop (omega arith) in
    rw (
      append_assoc,
      ← (drop-drop (width ws) w s),
      fields-numbers ws (drop w s) (bytes_drop w s b) hr,
      le-from_le w (take w s) (bytes_take w s b) (length-take-le w s hw),
    )
    (take-append-drop w s)

pub numbers_fit : (ws s : List ℕ) → AreBytes s → width ws ≤ length s → WithinWidths ws (numbers_at ws s)
unfolding numbers_at
numbers_fit [] s b h = tt
numbers_fit (w ∷ ws) s b h =
    let hw : w ≤ length s = omega arith in
    let hr : width ws ≤ length (drop w s) = rw length-drop (omega arith) in
    (from_le-lt w (take w s) (bytes_take w s b) (length-take-le w s hw), numbers_fit ws (drop w s) (bytes_drop w s b) hr)

-- what is written is read back
pub numbers-fields : (ws vs s : List ℕ) → WithinWidths ws vs → numbers_at ws (fields ws vs ++ s) ≡ vs
unfolding fields numbers_at
numbers-fields [] [] s f = refl
numbers-fields [] (v ∷ vs) s f = absurd f
numbers-fields (w ∷ ws) [] s f = absurd f
numbers-fields (w ∷ ws) (v ∷ vs) s f =
    rw (
      append_assoc,
      take_at (le w v) (fields ws vs ++ s) w (length-le w v),
      from_le-le w v f.0,
      drop_at (le w v) (fields ws vs ++ s) w (length-le w v),
      numbers-fields ws vs s f.1,
    )

-- one number of several, at its place
pub number_at : (ws : List ℕ) (k at place : ℕ) (t : List ℕ) → k < length ws → place ≡ at + width (take k ws)
    → from_le (take (get_or ws k 0) (drop place t)) ≡ get_or (numbers_at ws (drop at t)) k 0
unfolding numbers_at
number_at [] k at place t h e = absurd (not-suc-le-zero h)
number_at (w ∷ ws) zero at place t h e = rw (e, add-zero)
number_at (w ∷ ws) (suc k) at place t h e = rw (drop-drop w at t) (number_at ws k (at + w) place t (le_of_suc-le-suc h) (e ∙ sym (add_assoc at w (width (take k ws)))))
