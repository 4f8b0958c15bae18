-- The bytes in which the store takes lists. Assumes nothing.
use Rattle.std.specs.Prelude.{ℕ, min, List, [], ◌∷◌, ◌++◌, length, take}
use Rattle.base_number.specs.Number.{le}
use Rattle.machine.specs.Names.{Bytes}
use Rattle.machine.specs.Pairs.{Pair}
use Rattle.recording.specs.Read.{Reader, map_read, read_string, read_pair}

-- 16 bits for each number, low byte first; 65,535, which no part has, for one that is wider
abbrev pub narrowed : ℕ → ℕ
narrowed n = min n 65535

unfoldable pub packed : List ℕ → Bytes
packed [] = []
packed (n ∷ ns) = le 2 (narrowed n) ++ packed ns

-- a byte of length, and the bytes; of more than 255, which no key or value has, the first 255
abbrev pub cut : Bytes → Bytes
cut bs = take 255 bs

unfoldable pub counted : Bytes → Bytes
counted bs = length (cut bs) ∷ cut bs

unfoldable pub counted_pair : Pair → Bytes
counted_pair e = counted e.0 ++ counted e.1

unfoldable pub packed_pairs : List Pair → Bytes
packed_pairs [] = []
packed_pairs (e ∷ es) = counted_pair e ++ packed_pairs es

-- a string or a pair in these bytes, after those of `bs`
abbrev pub string_after : (bs : Bytes) → Reader Bytes
string_after bs = map_read (λ xs. bs ++ counted xs) read_string

abbrev pub pair_after : (bs : Bytes) → Reader Bytes
pair_after bs = map_read (λ e. bs ++ counted_pair e) read_pair
