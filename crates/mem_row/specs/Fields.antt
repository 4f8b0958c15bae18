-- Several numbers end to end, each in as many bytes as a list of widths says, low byte first. Assumes nothing.
use Rattle.std.specs.Prelude.{ℕ, ◌+◌, ◌<◌, ◌^◌, List, [], ◌∷◌, ◌++◌, take, drop}
use Rattle.base_number.specs.Number.{le, from_le}

abbrev pub width : List ℕ → ℕ
width [] = 0
width (w ∷ ws) = w + width ws

-- the numbers, written
unfoldable pub fields : (widths numbers : List ℕ) → List ℕ
fields [] vs = []
fields (w ∷ ws) [] = []
fields (w ∷ ws) (v ∷ vs) = le w v ++ fields ws vs

-- the numbers at the front of s
unfoldable pub numbers_at : (widths s : List ℕ) → List ℕ
numbers_at [] s = []
numbers_at (w ∷ ws) s = from_le (take w s) ∷ numbers_at ws (drop w s)

-- each number fits its width
abbrev pub WithinWidths : (widths numbers : List ℕ) → Type 0
WithinWidths [] [] = Unit {0}
WithinWidths [] (v ∷ vs) = ⊥
WithinWidths (w ∷ ws) [] = ⊥
WithinWidths (w ∷ ws) (v ∷ vs) = (v < 256 ^ w) × WithinWidths ws vs
