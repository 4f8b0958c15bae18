-- Document 02, E6: pairs of key and value: which a request may bring, what is kept of them, and how they go in and out as bytes. Assumes nothing.
use Rattle.std.specs.Prelude.{ℕ, zero, suc, ◌+◌, Bool, true, false, not, ◌&&◌, ◌||◌, cond, List, [], ◌∷◌, ◌++◌, leb, ltb, eqb, length, take, drop, get_or}
use Rattle.base_order.specs.Order.{by_bytes, is_below, same}
use Rattle.machine.specs.Map.{Map, insert, keep, records}
use Rattle.machine.specs.Names.{Bytes}

-- "pairs of key and value"
abbrev pub Pair : Type 0
Pair = Bytes × Bytes

-- The form of a pair -------------------------------------------------------------------------------------------------------

-- "lower-case letters, digits and hyphen": 97 to 122, 48 to 57, and 45
unfoldable pub key_byte : ℕ → Bool
key_byte b = (leb 97 b && leb b 122) || ((leb 48 b && leb b 57) || eqb b 45)

-- "from 32 to 126"
unfoldable pub value_byte : ℕ → Bool
value_byte b = leb 32 b && leb b 126

-- each of a list passes a test
module _ {X : Type 0} (f : X → Bool) where
  abbrev pub every : List X → Bool
  every [] = true
  every (x ∷ l) = f x && every l

-- "A key is 1 to 32 bytes of lower-case letters, digits and hyphen"
unfoldable pub key_ok : Bytes → Bool
key_ok k = leb 1 (length k) && (leb (length k) 32 && every key_byte k)

-- "a value is 0 to 64 bytes from 32 to 126"
unfoldable pub value_ok : Bytes → Bool
value_ok v = leb (length v) 64 && every value_byte v

unfoldable pub pair_ok : Pair → Bool
pair_ok e = key_ok e.0 && value_ok e.1

-- The pairs of a request ---------------------------------------------------------------------------------------------------

-- "The keys size, created and etag"
abbrev pub size_key : Bytes
size_key = 115 ∷ 105 ∷ 122 ∷ 101 ∷ []

abbrev pub created_key : Bytes
created_key = 99 ∷ 114 ∷ 101 ∷ 97 ∷ 116 ∷ 101 ∷ 100 ∷ []

abbrev pub etag_key : Bytes
etag_key = 101 ∷ 116 ∷ 97 ∷ 103 ∷ []

unfoldable pub system_key : Bytes → Bool
system_key k = same k size_key || (same k created_key || same k etag_key)

-- "are dropped silently"
abbrev pub kept : List Pair → List Pair
kept = keep (λ k v. not (system_key k))

-- "Equal keys are a bad request."
abbrev pub has_key : Bytes → List Pair → Bool
has_key k [] = false
has_key k (e ∷ l) = same k e.0 || has_key k l

abbrev pub distinct_keys : List Pair → Bool
distinct_keys [] = true
distinct_keys (e ∷ l) = not (has_key e.0 l) && distinct_keys l

-- "up to 8 pairs"
abbrev pub pairs_most : ℕ
pairs_most = 8

-- "after each pair's form is judged and before the pairs are counted or compared"
unfoldable pub pairs_ok : List Pair → Bool
pairs_ok l = every pair_ok l && (leb (length (kept l)) pairs_most && distinct_keys (kept l))

-- "Pairs are kept ascending by key": put one by one into a map
abbrev pub arranged : Map Bytes Bytes → List Pair → Map Bytes Bytes
arranged m [] = m
arranged m (e ∷ l) = arranged (insert by_bytes e.0 e.1 m) l

-- what is kept of a request's pairs
unfoldable pub pair_map : List Pair → Map Bytes Bytes
pair_map l = arranged [] (kept l)

-- The pairs of an object or an upload --------------------------------------------------------------------------------------

-- the pair may stand after one with the key `last`: a store holds no pair of another form, and no system key
unfoldable pub kept_after : (last : Bytes) → Pair → Bool
kept_after last e = pair_ok e && (not (system_key e.0) && is_below last e.0)

-- each may stand after the one before it
abbrev pub kept_from : (last : Bytes) → Map Bytes Bytes → Bool
kept_from last [] = true
kept_from last (e ∷ m) = kept_after last e && kept_from e.0 m

-- the pairs that an object or an upload may have; no key is empty, so the first stands after the empty key
unfoldable pub kept_ok : Map Bytes Bytes → Bool
kept_ok m = leb (length m) pairs_most && kept_from [] m

-- "Key and value bytes count as held."
abbrev pub pairs_held : Map Bytes Bytes → ℕ
pairs_held [] = 0
pairs_held (e ∷ m) = length e.0 + length e.1 + pairs_held m

-- Pairs as bytes -----------------------------------------------------------------------------------------------------------

-- "each is key length, key, value length, value (lengths of 1 byte)"
abbrev pub pair_record : Bytes → Bytes → Bytes
pair_record k v = length k ∷ k ++ (length v ∷ v)

unfoldable pub encode_pairs : Map Bytes Bytes → Bytes
encode_pairs m = records pair_record m

-- the pair that the bytes begin with: where its value's length stands, how many bytes it has, its key and its value
abbrev pub front_middle : Bytes → ℕ
front_middle bs = 1 + get_or bs 0 0

unfoldable pub front_size : Bytes → ℕ
front_size bs = front_middle bs + 1 + get_or bs (front_middle bs) 0

unfoldable pub front_key : Bytes → Bytes
front_key bs = take (get_or bs 0 0) (drop 1 bs)

unfoldable pub front_value : Bytes → Bytes
front_value bs = take (get_or bs (front_middle bs) 0) (drop (front_middle bs + 1) bs)

abbrev pub front_pair : Bytes → Pair
front_pair bs = (front_key bs, front_value bs)

-- it is not cut off
unfoldable pub front_fits : Bytes → Bool
front_fits bs = ltb (front_middle bs) (length bs) && leb (front_size bs) (length bs)

-- "Malformed pairs": an empty key breaks the rule
abbrev pub bad_pair : Pair
bad_pair = ([], [])

-- at most n pairs; bytes that are cut off or left over are a pair that breaks the rule
unfoldable pub read_pairs : (n : ℕ) → Bytes → List Pair
read_pairs zero bs = []
read_pairs (suc n) [] = []
read_pairs (suc n) (b ∷ bs) = cond (front_fits (b ∷ bs)) (front_pair (b ∷ bs) ∷ read_pairs n (drop (front_size (b ∷ bs)) (b ∷ bs))) (bad_pair ∷ [])

-- all pairs that the bytes stand for: a pair has two bytes or more
unfoldable pub pair_list : Bytes → List Pair
pair_list bs = read_pairs (length bs) bs
