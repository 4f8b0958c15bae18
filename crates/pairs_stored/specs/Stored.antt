-- Pairs in memory: two length bytes for each, and the bytes of keys and values. Assumes nothing.
use Rattle.std.specs.Prelude.{ℕ, ◌+◌, Bool, ◌&&◌, [], ◌∷◌, ◌++◌, eqb, length, take, drop}
use Rattle.machine.specs.Map.{Map, records}
use Rattle.machine.specs.Names.{Bytes}
use Rattle.machine.specs.Pairs.{bad_pair, kept_ok}

-- the lengths of each key and value
abbrev pub lengths_of : Bytes → Bytes → Bytes
lengths_of k v = length k ∷ length v ∷ []

unfoldable pub pair_lengths : Map Bytes Bytes → Bytes
pair_lengths m = records lengths_of m

-- each key with its value
abbrev pub bytes_of : Bytes → Bytes → Bytes
bytes_of k v = k ++ v

unfoldable pub pair_bytes : Map Bytes Bytes → Bytes
pair_bytes m = records bytes_of m

-- how many bytes the lengths say
abbrev pub sum_of : Bytes → ℕ
sum_of [] = 0
sum_of (x ∷ l) = x + sum_of l

-- the pairs that lengths and bytes stand for; a length without its other is a pair that breaks the rule
unfoldable pub pairs_at : (lengths bytes : Bytes) → Map Bytes Bytes
pairs_at [] bs = []
pairs_at (k ∷ []) bs = bad_pair ∷ []
pairs_at (k ∷ (v ∷ ls)) bs = (take k bs, take v (drop k bs)) ∷ pairs_at ls (drop (k + v) bs)

-- lengths and bytes are the pairs of an object or an upload
unfoldable pub stored_ok : (lengths bytes : Bytes) → Bool
stored_ok ls bs = eqb (sum_of ls) (length bs) && kept_ok (pairs_at ls bs)

-- a block of the arena: the bytes of pairs with these lengths, then data
unfoldable pub block_ok : (lengths block : Bytes) → Bool
block_ok ls bs = stored_ok ls (take (sum_of ls) bs)
