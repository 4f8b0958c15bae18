-- Numbers in bytes, low byte first, and bytes over others. Assumes nothing.
use Rattle.std.specs.Prelude.{ℕ, zero, suc, ◌+◌, ◌*◌, ◌/◌, ◌%◌, ◌<◌, List, [], ◌∷◌, ◌++◌, get_or, length, take, drop}

-- the number n in `width` bytes, low byte first (little-endian)
unfoldable pub le : (width : ℕ) → ℕ → List ℕ
le zero n = []
le (suc width) n = n % 256 ∷ le width (n / 256)

-- the number that the bytes stand for, low byte first
unfoldable pub from_le : List ℕ → ℕ
from_le [] = 0
from_le (x ∷ xs) = x + 256 * from_le xs

-- each element is a byte
abbrev pub AreBytes : List ℕ → Type 0
AreBytes xs = (i : ℕ) → get_or xs i 0 < 256

-- b with s over its n bytes from `at` on
abbrev pub replaced_at : (b : List ℕ) (at : ℕ) (s : List ℕ) (n : ℕ) → List ℕ
replaced_at b at s n = take at b ++ s ++ drop (at + n) b

-- b with s over as many bytes from `at` on
abbrev pub written : (b : List ℕ) (at : ℕ) (s : List ℕ) → List ℕ
written b at s = replaced_at b at s (length s)

-- b with s over as many bytes at its front
abbrev pub fronted : (b s : List ℕ) → List ℕ
fronted b s = s ++ drop (length s) b
