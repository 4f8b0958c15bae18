-- Document 02, E6: calls with pairs of key and value, by computation. Assumes nothing.
use Rattle.std.specs.Prelude.{ℕ, ◌≡◌, refl, List, [], ◌∷◌, ◌++◌, replicate}
use Rattle.machine.specs.Names.{Bytes, path_ok, request_path_ok, new_path_ok, stamp_ok, request_part_ok}
use Rattle.machine.specs.Pairs.{Pair, key_byte, value_byte, key_ok, value_ok, pair_ok, system_key, pairs_ok, pair_map, encode_pairs}
use Rattle.machine.specs.Digest.{md5}
use Rattle.machine.specs.Etags.{absent, plain, joined}
use Rattle.machine.specs.State.{held, counted}
use Rattle.machine.specs.Calls.{PUT, GET, HEAD, COPY, INITIATE, PART, COMMIT, Answer, nothing, metadata, number, buffers, Reply, given, ◌else◌then◌}
use Rattle.machine.specs.Steps.{put_at, object_at, act}
use Rattle.machine.specs.Marked.{says, a, b, r, xyz, A, replies}
use Rattle.machine.specs.Unmarked.{results, put_many, full_shelf, last_results}

-- "b" is "2" and "a" is "1", and both as GET and HEAD write them
abbrev pub two : List Pair
two = (98 ∷ [], 50 ∷ []) ∷ (97 ∷ [], 49 ∷ []) ∷ []

abbrev pub two-written : Bytes
two-written = 1 ∷ 97 ∷ 1 ∷ 49 ∷ 1 ∷ 98 ∷ 1 ∷ 50 ∷ []

-- "c" is "3", of two bytes that count as held; and a pair that breaks the rule
abbrev pub one : List Pair
one = (99 ∷ [], 51 ∷ []) ∷ []

abbrev pub malformed : List Pair
malformed = ([], []) ∷ []

-- what HEAD says of "xyz" with `two`, created at a stamp
abbrev pub xyz-two : (stamp : ℕ) → Answer
xyz-two t = metadata 3 t (plain (md5 xyz)) 2 8

-- success with an answer, and both buffers afterwards
abbrev pub reads : Answer → (answer pairs : Bytes) → Reply
reads x d m = record { result = 0; answer = x; buffers = buffers d m }

-- refusal 7, and both buffers afterwards
abbrev pub short : (answer pairs : Bytes) → Reply
short d m = record { result = 7; answer = nothing; buffers = buffers d m }

-- pairs come out ascending, to the front of the second buffer; bytes past those written keep, in both; the root has no pairs
pub pairs-read : replies 64 (PUT 5 a xyz two ∷ GET a (replicate 4 9) (replicate 10 9) ∷ HEAD a (replicate 9 9) ∷ GET [] [] (9 ∷ []) ∷ HEAD [] (9 ∷ []) ∷ [])
    ≡ says nothing
    ∷ reads (xyz-two 5) (xyz ++ 9 ∷ []) (two-written ++ 9 ∷ 9 ∷ [])
    ∷ reads (xyz-two 5) [] (two-written ++ 9 ∷ [])
    ∷ reads (metadata 0 0 absent 0 0) [] (9 ∷ [])
    ∷ reads (metadata 0 0 absent 0 0) [] (9 ∷ [])
    ∷ []
unfolding ◌else◌then◌ given act put_at object_at counted held path_ok request_path_ok new_path_ok stamp_ok pairs_ok pair_map encode_pairs pair_ok key_ok value_ok key_byte value_byte system_key
pairs-read = refl

-- "a short second buffer gives 7", as a short first one does: both stay as they were; those that just suffice are written
pub buffers-short : replies 64 (PUT 5 a xyz two ∷ GET a (replicate 3 9) (replicate 7 9) ∷ GET a (replicate 2 9) (replicate 8 9) ∷ HEAD a (replicate 7 9) ∷ GET a (replicate 3 9) (replicate 8 9) ∷ HEAD a (replicate 8 9) ∷ [])
    ≡ says nothing
    ∷ short (replicate 3 9) (replicate 7 9)
    ∷ short (replicate 2 9) (replicate 8 9)
    ∷ short [] (replicate 7 9)
    ∷ reads (xyz-two 5) xyz two-written
    ∷ reads (xyz-two 5) [] two-written
    ∷ []
unfolding ◌else◌then◌ given act put_at object_at counted held path_ok request_path_ok new_path_ok stamp_ok pairs_ok pair_map encode_pairs pair_ok key_ok value_ok key_byte value_byte system_key
buffers-short = refl

-- "COPY carries the source's": not those that its destination had; a PUT without pairs leaves none
pub copied-pairs : replies 64 (PUT 5 a xyz two ∷ PUT 5 b A one ∷ COPY 9 a b ∷ HEAD b (replicate 8 9) ∷ PUT 9 b xyz [] ∷ HEAD b (9 ∷ []) ∷ [])
    ≡ says nothing ∷ says nothing ∷ says nothing ∷ reads (xyz-two 9) [] two-written ∷ says nothing ∷ reads (metadata 3 9 (plain (md5 xyz)) 0 0) [] (9 ∷ []) ∷ []
unfolding ◌else◌then◌ given act put_at object_at counted held path_ok request_path_ok new_path_ok stamp_ok pairs_ok pair_map encode_pairs pair_ok key_ok value_ok key_byte value_byte system_key
copied-pairs = refl

-- "COMMIT the upload's": not those of the object that it replaces
pub joined-pairs : replies 64 (PUT 5 r xyz one ∷ INITIATE 7 r two ∷ COMMIT 1 [] ∷ HEAD r (replicate 8 9) ∷ [])
    ≡ says nothing ∷ says (number 1) ∷ says nothing ∷ reads (metadata 0 7 (joined (md5 []) 0) 2 8) [] two-written ∷ []
unfolding ◌else◌then◌ given act put_at object_at counted held path_ok request_path_ok new_path_ok stamp_ok pairs_ok pair_map encode_pairs pair_ok key_ok value_ok key_byte value_byte system_key
joined-pairs = refl

-- "Key and value bytes count as held": a data byte and `one` are three bytes, also of a COPY; those that are replaced are free
pub pairs-held : (results 2 (PUT 5 a A one ∷ []) ≡ 5 ∷ [])
    × (results 3 (PUT 5 a A one ∷ PUT 6 a A one ∷ PUT 6 b A [] ∷ COPY 7 a a ∷ COPY 7 a b ∷ []) ≡ 0 ∷ 0 ∷ 5 ∷ 0 ∷ 5 ∷ [])
unfolding ◌else◌then◌ given act put_at counted held path_ok request_path_ok new_path_ok stamp_ok pairs_ok pair_map pair_ok key_ok value_ok key_byte value_byte system_key
pairs-held = (refl, refl)

-- "INITIATE can now meet 5"; an upload's pairs are held while it is open, and COMMIT takes no more
pub initiate-held : (results 1 (INITIATE 7 r one ∷ INITIATE 7 r [] ∷ []) ≡ 5 ∷ 0 ∷ [])
    × (results 3 (INITIATE 7 r one ∷ PART 1 1 A ∷ PART 1 2 A ∷ PUT 7 a A [] ∷ COMMIT 1 (1 ∷ []) ∷ PUT 8 a A [] ∷ []) ≡ 0 ∷ 0 ∷ 5 ∷ 5 ∷ 0 ∷ 5 ∷ [])
unfolding ◌else◌then◌ given act put_at counted held path_ok request_path_ok new_path_ok stamp_ok pairs_ok pair_map pair_ok key_ok value_ok key_byte value_byte system_key request_part_ok
initiate-held = (refl, refl)

-- "Malformed pairs .. give 2", where without them it is 5, and with 256 objects 4
pub malformed-first : (results 0 (PUT 5 a A malformed ∷ PUT 5 a A [] ∷ INITIATE 5 a malformed ∷ INITIATE 5 a one ∷ []) ≡ 2 ∷ 5 ∷ 2 ∷ 5 ∷ [])
    × (last_results full_shelf (PUT 5 a A malformed ∷ PUT 5 a A [] ∷ []) ≡ 2 ∷ 4 ∷ [])
unfolding put_many ◌else◌then◌ given act put_at counted held path_ok new_path_ok stamp_ok pairs_ok pair_map pair_ok key_ok value_ok key_byte value_byte system_key
malformed-first = (refl, refl)
