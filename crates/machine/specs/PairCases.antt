-- Cases of document 02's E6: which pairs pass and what is kept of them, by computation. Assumes nothing.
use Rattle.std.specs.Prelude.{◌≡◌, refl, true, false, List, [], ◌∷◌, map, replicate}
use Rattle.machine.specs.Pairs.{Pair, key_byte, value_byte, key_ok, value_ok, pair_ok, system_key, size_key, created_key, etag_key, pairs_ok, pair_map, front_size, front_key, front_value, front_fits, encode_pairs, read_pairs, pair_list}

-- keys "a" to "h", each with the value " "
abbrev eight : List Pair
eight = map (λ letter. (letter ∷ [], 32 ∷ [])) (97 ∷ 98 ∷ 99 ∷ 100 ∷ 101 ∷ 102 ∷ 103 ∷ 104 ∷ [])

-- eight pairs pass and nine do not; nine of which one has a system key do, so do two with the same system key, but not one that is malformed
pub counted-after-dropped : map pairs_ok
    (eight
    ∷ ((105 ∷ [], []) ∷ eight)
    ∷ ((size_key, []) ∷ eight)
    ∷ ((created_key, []) ∷ (created_key, []) ∷ [])
    ∷ ((etag_key, 31 ∷ []) ∷ [])
    ∷ [])
    ≡ true ∷ false ∷ true ∷ true ∷ false ∷ []
unfolding pairs_ok pair_ok key_ok value_ok key_byte value_byte system_key
counted-after-dropped = refl

-- a key has 1 to 32 bytes, a value 0 to 64; bytes at and past each edge; equal keys
pub at-the-edges : map pairs_ok
    (((replicate 32 97, replicate 64 126) ∷ [])
    ∷ ((replicate 33 97, []) ∷ [])
    ∷ ((97 ∷ [], replicate 65 97) ∷ [])
    ∷ (([], []) ∷ [])
    ∷ ((97 ∷ 122 ∷ 48 ∷ 57 ∷ 45 ∷ [], 32 ∷ 126 ∷ []) ∷ [])
    ∷ ((96 ∷ [], []) ∷ [])
    ∷ ((123 ∷ [], []) ∷ [])
    ∷ ((47 ∷ [], []) ∷ [])
    ∷ ((58 ∷ [], []) ∷ [])
    ∷ ((65 ∷ [], []) ∷ [])
    ∷ ((97 ∷ [], 31 ∷ []) ∷ [])
    ∷ ((97 ∷ [], 127 ∷ []) ∷ [])
    ∷ ((97 ∷ [], []) ∷ (97 ∷ [], 98 ∷ []) ∷ [])
    ∷ [])
    ≡ true ∷ false ∷ false ∷ false ∷ true ∷ false ∷ false ∷ false ∷ false ∷ false ∷ false ∷ false ∷ false ∷ []
unfolding pairs_ok pair_ok key_ok value_ok key_byte value_byte system_key
at-the-edges = refl

-- kept in order, a shorter key before its extensions, without "etag"
pub in_order : pair_map ((98 ∷ [], 49 ∷ []) ∷ (etag_key, []) ∷ (97 ∷ 45 ∷ [], []) ∷ (97 ∷ [], []) ∷ [])
    ≡ (97 ∷ [], []) ∷ (97 ∷ 45 ∷ [], []) ∷ (98 ∷ [], 49 ∷ []) ∷ []
unfolding pair_map system_key
in_order = refl

-- as bytes: a pair, and the same written; cut off after its key; a byte left over
pub as_bytes : pair_list (1 ∷ 97 ∷ 2 ∷ 120 ∷ 121 ∷ []) ≡ (97 ∷ [], 120 ∷ 121 ∷ []) ∷ []
unfolding pair_list read_pairs front_fits front_size front_key front_value
as_bytes = refl

pub written : encode_pairs ((97 ∷ [], 120 ∷ 121 ∷ []) ∷ []) ≡ 1 ∷ 97 ∷ 2 ∷ 120 ∷ 121 ∷ []
unfolding encode_pairs
written = refl

pub malformed : map (λ bytes. pairs_ok (pair_list bytes)) ((1 ∷ 97 ∷ []) ∷ (1 ∷ 97 ∷ 0 ∷ 1 ∷ []) ∷ (0 ∷ 0 ∷ []) ∷ (1 ∷ 97 ∷ 0 ∷ []) ∷ [] ∷ [])
    ≡ false ∷ false ∷ false ∷ true ∷ true ∷ []
unfolding pair_list read_pairs front_fits front_size front_key front_value pairs_ok pair_ok key_ok value_ok key_byte value_byte system_key
malformed = refl
