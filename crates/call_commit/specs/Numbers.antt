-- The numbers of a part list, one by one. Assumes nothing.
use Rattle.std.specs.Prelude.{ℕ, suc, ◌+◌, ◌*◌, Bool, ◌&&◌, not, cond, List, [], ◌∷◌, eqb, take, drop}
use Rattle.base_number.specs.Number.{from_le}
use Rattle.machine.specs.Map.{is_some, Map, by_number, lookup}
use Rattle.machine.specs.Names.{Bytes}
use Rattle.machine.specs.State.{Part}
use Rattle.machine.specs.ListFits.{member}
use Rattle.mem_row.specs.declared.Head.{Head}
use Rattle.mem_row.specs.Row.{Row, head_of}
use Rattle.mem_layout.specs.Rules.{part_kind}
use Rattle.mem_find.specs.declared.RowPlace.{RowPlace}
use Rattle.mem_find.specs.RowPlaces.{row_place_at}
use Rattle.machine.specs.PartLists.{part_list}

-- the number at i, counted from 0
abbrev pub number_at : (list : Bytes) (i : ℕ) → ℕ
number_at list i = from_le (take 2 (drop (2 * i) list))

-- the first i numbers
abbrev pub first_numbers : (list : Bytes) (i : ℕ) → List ℕ
first_numbers list i = part_list (take (2 * i) list)

-- the number at i is a part's, and none of those before it
unfoldable pub number_fits : Map ℕ Part → (list : Bytes) (i : ℕ) → Bool
number_fits m list i = is_some (lookup by_number (number_at list i) m) && not (member (number_at list i) (first_numbers list i))

-- a row with this head is the part with number n
abbrev pub is_part : (n : ℕ) → Head → Bool
is_part n h = eqb h.kind part_kind && eqb n h.number

-- how many of the first rows are the parts that the list names, in this order
unfoldable pub listed_first : (list : Bytes) → List Row → ℕ
listed_first [] rs = 0
listed_first (x ∷ []) rs = 0
listed_first (x ∷ (y ∷ list)) [] = 0
listed_first (x ∷ (y ∷ list)) (r ∷ rs) = cond (is_part (x + 256 * y) (head_of r)) (suc (listed_first list rs)) 0

-- the place of the row after those that are such parts from row i on
abbrev pub after_listed : (list : Bytes) → List Row → ℕ → RowPlace
after_listed list rs i = row_place_at rs (i + listed_first list (drop i rs))
