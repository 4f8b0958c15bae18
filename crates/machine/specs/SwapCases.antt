-- Document 02, E4: calls that may not change places, and calls that may, by computation. Each condition of E4 is needed. Assumes nothing.
use Rattle.std.specs.Prelude.{◌≡◌, refl, [], ◌∷◌, ◌++◌}
use Rattle.machine.specs.Names.{path_ok, request_path_ok, new_path_ok, stamp_ok}
use Rattle.machine.specs.Pairs.{pairs_ok, pair_map}
use Rattle.machine.specs.State.{fresh, held, counted}
use Rattle.machine.specs.Calls.{PUT, DELETE, COPY, given, ◌else◌then◌}
use Rattle.machine.specs.Steps.{put_at, delete_at, act}
use Rattle.machine.specs.Lists.{final}
use Rattle.machine.specs.Marked.{a, b, xyz, A, B}
use Rattle.machine.specs.Unmarked.{results, put_many, full_shelf, last_results}

-- "neither writes a path that the other reads": a COPY before its source's PUT finds nothing
pub source-written : (results 64 (PUT 5 a xyz [] ∷ COPY 9 a b ∷ []) ≡ 0 ∷ 0 ∷ []) × (results 64 (COPY 9 a b ∷ PUT 5 a xyz [] ∷ []) ≡ 3 ∷ 0 ∷ [])
unfolding ◌else◌then◌ given act put_at delete_at counted held path_ok request_path_ok new_path_ok stamp_ok pairs_ok pair_map
source-written = (refl, refl)

-- "or writes (DELETE writes its path)"
pub both-written : (results 64 (PUT 5 a xyz [] ∷ DELETE a ∷ []) ≡ 0 ∷ 0 ∷ []) × (results 64 (DELETE a ∷ PUT 5 a xyz [] ∷ []) ≡ 3 ∷ 0 ∷ [])
unfolding ◌else◌then◌ given act put_at delete_at counted held path_ok request_path_ok new_path_ok stamp_ok pairs_ok pair_map
both-written = (refl, refl)

-- "if no call in either order is refused by 4": with 256 objects, a new path has room after the DELETE alone
pub table-met : (last_results full_shelf (DELETE (A ++ A) ∷ PUT 1 a [] [] ∷ []) ≡ 0 ∷ 0 ∷ []) × (last_results full_shelf (PUT 1 a [] [] ∷ DELETE (A ++ A) ∷ []) ≡ 4 ∷ 0 ∷ [])
unfolding put_many ◌else◌then◌ given act put_at delete_at counted held path_ok request_path_ok new_path_ok stamp_ok pairs_ok pair_map
table-met = (refl, refl)

-- "or 5": three bytes of four are held, so two more have room after the DELETE alone
pub arena-met : (results 4 (PUT 5 a xyz [] ∷ DELETE a ∷ PUT 6 b (A ++ B) [] ∷ []) ≡ 0 ∷ 0 ∷ 0 ∷ []) × (results 4 (PUT 5 a xyz [] ∷ PUT 6 b (A ++ B) [] ∷ DELETE a ∷ []) ≡ 0 ∷ 5 ∷ 0 ∷ [])
unfolding ◌else◌then◌ given act put_at delete_at counted held path_ok request_path_ok new_path_ok stamp_ok pairs_ok pair_map
arena-met = (refl, refl)

-- the same two calls over five bytes: neither is refused by 5, so they may change places
pub arena-enough : (results 5 (PUT 5 a xyz [] ∷ DELETE a ∷ PUT 6 b (A ++ B) [] ∷ []) ≡ 0 ∷ 0 ∷ 0 ∷ []) × (results 5 (PUT 5 a xyz [] ∷ PUT 6 b (A ++ B) [] ∷ DELETE a ∷ []) ≡ 0 ∷ 0 ∷ 0 ∷ [])
    × (final 5 fresh (PUT 5 a xyz [] ∷ DELETE a ∷ PUT 6 b (A ++ B) [] ∷ []) ≡ final 5 fresh (PUT 5 a xyz [] ∷ PUT 6 b (A ++ B) [] ∷ DELETE a ∷ []))
unfolding ◌else◌then◌ given act put_at delete_at counted held path_ok request_path_ok new_path_ok stamp_ok pairs_ok pair_map
arena-enough = (refl, refl, refl)
