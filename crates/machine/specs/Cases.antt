-- Cases of document 02's requests, by computation. Assumes nothing.
use Rattle.std.specs.Prelude.{ℕ, ◌≡◌, refl, true, false, List, [], ◌∷◌, map, replicate}
use Rattle.machine.specs.Names.{Bytes, path_ok, request_path_ok, new_path_ok, stamp_ok}
use Rattle.machine.specs.Pairs.{pairs_ok, pair_map, encode_pairs}
use Rattle.machine.specs.State.{Upload, fresh, held, counted}
use Rattle.machine.specs.Calls.{Call, PUT, HEAD, INITIATE, DELETE-OBJECTS, SWEEP, NamePlace, Answer, nothing, swept, Reply, given, ◌else◌then◌}
use Rattle.machine.specs.Steps.{put_at, object_at, delete_at, delete_place, abort_at, due, act, reply, next}
use Rattle.machine.specs.Lists.{final}
use Rattle.machine.specs.Marked.{a, replies}

-- E1 -------------------------------------------------------------------------------------------------------------------

-- a place
abbrev pub at : (start length : ℕ) → NamePlace
at i n = record { start = i; length = n }

-- the names "ab" and their places, one after the other: "a", "ab", "a" again, "b", none, past the end, far outside
abbrev pub ab : Bytes
ab = 97 ∷ 98 ∷ []

abbrev pub places : List NamePlace
places = at 0 1 ∷ at 0 2 ∷ at 0 1 ∷ at 1 1 ∷ at 2 0 ∷ at 1 2 ∷ at 4294967295 4294967295 ∷ []

-- the results of "a" and "ab" deleted so: "a valid name listed twice has 3 the second time"; a name that ends where the buffer does is inside;
-- bytes past the results keep
pub results-in-order : map (λ (x : Reply). x.buffers.answer) (replies 64 (PUT 5 a [] [] ∷ PUT 5 ab [] [] ∷ DELETE-OBJECTS ab places 0 (replicate 9 9) ∷ []))
    ≡ [] ∷ [] ∷ (0 ∷ 0 ∷ 3 ∷ 3 ∷ 2 ∷ 2 ∷ 2 ∷ 9 ∷ 9 ∷ []) ∷ []
unfolding ◌else◌then◌ given act put_at delete_at delete_place counted held path_ok request_path_ok new_path_ok stamp_ok pairs_ok pair_map
results-in-order = refl

-- a list of n places of "a", with bytes left over, and a buffer for so many results; then whether "a" is there
abbrev pub many_deleted : (n left_over room : ℕ) → List ℕ
many_deleted n left_over room =
    map (λ (x : Reply). x.result) (replies 64 (PUT 5 a [] [] ∷ DELETE-OBJECTS a (replicate n (at 0 1)) left_over (replicate room 9) ∷ HEAD a [] ∷ []))

-- "A list over 1,000 is refused by 8, right after 1, and a result buffer shorter than the list by 7"; "bytes left over give 2"
pub checks-in-order : many_deleted 1000 0 1000 ∷ many_deleted 1001 0 1001 ∷ many_deleted 1001 1 0 ∷ many_deleted 1000 1 0 ∷ many_deleted 1000 0 999 ∷ many_deleted 0 0 0 ∷ []
    ≡ (0 ∷ 0 ∷ 3 ∷ []) ∷ (0 ∷ 8 ∷ 0 ∷ []) ∷ (0 ∷ 8 ∷ 0 ∷ []) ∷ (0 ∷ 2 ∷ 0 ∷ []) ∷ (0 ∷ 7 ∷ 0 ∷ []) ∷ (0 ∷ 0 ∷ 0 ∷ []) ∷ []
unfolding ◌else◌then◌ given act put_at object_at delete_at delete_place counted held path_ok request_path_ok new_path_ok stamp_ok pairs_ok pair_map encode_pairs
checks-in-order = refl

-- E3 -------------------------------------------------------------------------------------------------------------------

-- uploads 1, 2 and 3 to "a", started at 5, 9 and 7
abbrev pub three_open : List Call
three_open = INITIATE 5 a [] ∷ INITIATE 9 a [] ∷ INITIATE 7 a [] ∷ []

-- a sweep over them: its result, its answer, and the numbers of the uploads that are then open
abbrev pub sweeping : (stamp most : ℕ) → ℕ × Answer × List ℕ
sweeping t n =
    let s = final 64 fresh three_open in
    let r = reply 64 s (SWEEP t n) in
    (r.result, r.answer, map (λ (e : ℕ × Upload). e.0) (next 64 s (SWEEP t n)).U)

-- "started before the stamp": the stamp at a start, one below and one above, for each
pub started-before : sweeping 4 9 ∷ sweeping 5 9 ∷ sweeping 6 9 ∷ sweeping 7 9 ∷ sweeping 8 9 ∷ sweeping 9 9 ∷ sweeping 10 9 ∷ []
    ≡ (0, swept 0 false, 1 ∷ 2 ∷ 3 ∷ [])
    ∷ (0, swept 0 false, 1 ∷ 2 ∷ 3 ∷ [])
    ∷ (0, swept 1 false, 2 ∷ 3 ∷ [])
    ∷ (0, swept 1 false, 2 ∷ 3 ∷ [])
    ∷ (0, swept 2 false, 2 ∷ [])
    ∷ (0, swept 2 false, 2 ∷ [])
    ∷ (0, swept 3 false, [])
    ∷ []
unfolding ◌else◌then◌ given act abort_at due counted held path_ok new_path_ok stamp_ok pairs_ok pair_map
started-before = refl

-- "The count is the smaller of n and the number due", "n = 0 aborts nothing", "by ascending number": two are due at 8, and upload 2, which is
-- younger than 3, is none of them
pub at-most-n : sweeping 8 0 ∷ sweeping 8 1 ∷ sweeping 8 2 ∷ sweeping 8 3 ∷ sweeping 8 4294967295 ∷ []
    ≡ (0, swept 0 true, 1 ∷ 2 ∷ 3 ∷ [])
    ∷ (0, swept 1 true, 2 ∷ 3 ∷ [])
    ∷ (0, swept 2 false, 2 ∷ [])
    ∷ (0, swept 2 false, 2 ∷ [])
    ∷ (0, swept 2 false, 2 ∷ [])
    ∷ []
unfolding ◌else◌then◌ given act abort_at due counted held path_ok new_path_ok stamp_ok pairs_ok pair_map
at-most-n = refl

-- "A stamp of 0 is a bad request"; the highest stamp is none
pub stamps-swept : sweeping 0 9 ∷ sweeping 0 0 ∷ sweeping 18446744073709551615 2 ∷ []
    ≡ (2, nothing, 1 ∷ 2 ∷ 3 ∷ []) ∷ (2, nothing, 1 ∷ 2 ∷ 3 ∷ []) ∷ (0, swept 2 true, 3 ∷ []) ∷ []
unfolding ◌else◌then◌ given act abort_at due counted held path_ok new_path_ok stamp_ok pairs_ok pair_map
stamps-swept = refl
