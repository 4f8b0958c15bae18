-- Numbers in bytes, high byte first: they compare as the bytes do. Assumes nothing.
use Rattle.std.specs.Prelude.{ℕ, ◌+◌, ◌*◌, ◌^◌, List, [], ◌∷◌, length}

-- the number that the bytes stand for, high byte first (big-endian)
unfoldable pub from_be : List ℕ → ℕ
from_be [] = 0
from_be (x ∷ xs) = 256 ^ length xs * x + from_be xs
