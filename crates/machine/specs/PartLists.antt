-- COMMIT's part list as bytes. Assumes nothing.
use Rattle.std.specs.Prelude.{ℕ, ◌+◌, ◌*◌, List, [], ◌∷◌}
use Rattle.machine.specs.Names.{Bytes}

-- "a part list goes as 16-bit numbers, low byte first, and an odd byte left over makes it unfit": 0 is no part's number
unfoldable pub part_list : Bytes → List ℕ
part_list [] = []
part_list (x ∷ []) = 0 ∷ []
part_list (x ∷ (y ∷ bs)) = (x + 256 * y) ∷ part_list bs
