-- Document 01, "Marked orders of the day": M1 to M12 as one table, and the theorem that the machine answers it. Assumes nothing.
use Rattle.std.specs.Prelude.{ℕ, ◌≡◌, refl, List, [], ◌∷◌, ◌++◌, map}
use Rattle.machine.specs.Names.{Bytes, path_ok, request_path_ok, new_path_ok, stamp_ok, request_part_ok}
use Rattle.machine.specs.Pairs.{pairs_ok, pair_map, encode_pairs}
use Rattle.machine.specs.Digest.{md5}
use Rattle.machine.specs.Etags.{absent, plain, joined}
use Rattle.machine.specs.State.{fresh, held, counted}
use Rattle.machine.specs.Calls.{Call, PUT, GET, HEAD, DELETE, COPY, INITIATE, PART, COMMIT, ABORT, Answer, nothing, metadata, etag, number, buffers, no_buffers, Reply, given, ◌else◌then◌}
use Rattle.machine.specs.Steps.{put_at, object_at, delete_at, abort_at, act}
use Rattle.machine.specs.Lists.{trace}

-- an order: calls from FRESH over an arena, and what each answers
pub record MarkedOrder : Type 0 where
  pub arena : ℕ
  pub calls : List Call
  pub replies : List Reply

-- success with an answer and no answer buffers
abbrev pub says : Answer → Reply
says a = record { result = 0; answer = a; buffers = no_buffers }

-- success with an answer, and the answer buffer afterwards
abbrev pub writes : Answer → Bytes → Reply
writes a b = record { result = 0; answer = a; buffers = buffers b [] }

-- a refusal by its number
abbrev pub refused : ℕ → Reply
refused n = record { result = n; answer = nothing; buffers = no_buffers }

-- "a", "b", "r", "xyz", "A", "B"
abbrev pub a : Bytes
a = 97 ∷ []

abbrev pub b : Bytes
b = 98 ∷ []

abbrev pub r : Bytes
r = 114 ∷ []

abbrev pub xyz : Bytes
xyz = 120 ∷ 121 ∷ 122 ∷ []

abbrev pub A : Bytes
A = 65 ∷ []

abbrev pub B : Bytes
B = 66 ∷ []

-- M5, and M7 up to its COMMIT
abbrev pub m5 : List Call
m5 = PUT 5 a xyz [] ∷ HEAD a [] ∷ []

abbrev pub m5-replies : List Reply
m5-replies = says nothing ∷ says (metadata 3 5 (plain (md5 xyz)) 0 0) ∷ []

abbrev pub m7 : List Call
m7 = INITIATE 7 r [] ∷ PART 1 2 B ∷ PART 1 1 A ∷ []

abbrev pub m7-replies : List Reply
m7-replies = says (number 1) ∷ says (etag (plain (md5 B))) ∷ says (etag (plain (md5 A))) ∷ []

abbrev pub marked : List MarkedOrder
marked =
    -- M1 GET "a": 3
    record { arena = 64; calls = GET a [] [] ∷ []; replies = refused 3 ∷ [] } ∷
    -- M2 GET root: 0, length 0, created 0, etag absent
    record { arena = 64; calls = GET [] [] [] ∷ []; replies = says (metadata 0 0 absent 0 0) ∷ [] } ∷
    -- M3 DELETE root: 2
    record { arena = 64; calls = DELETE [] ∷ []; replies = refused 2 ∷ [] } ∷
    -- M4 PUT at stamp 0: 2
    record { arena = 64; calls = PUT 0 a xyz [] ∷ []; replies = refused 2 ∷ [] } ∷
    -- M5 PUT "a" "xyz" at 5, HEAD "a": length 3, created 5
    record { arena = 64; calls = m5; replies = m5-replies } ∷
    -- M6 after M5, COPY "a" to "a" at 9: "xyz", created 9. The buffer's fourth byte keeps.
    record {
      arena = 64;
      calls = m5 ++ COPY 9 a a ∷ GET a (0 ∷ 0 ∷ 0 ∷ 7 ∷ []) [] ∷ [];
      replies = m5-replies ++ says nothing ∷ writes (metadata 3 9 (plain (md5 xyz)) 0 0) (xyz ++ 7 ∷ []) ∷ [];
    } ∷
    -- M7 INITIATE "r" at 7 gives 1; part 2 "B", part 1 "A"; COMMIT (2, 1): "BA", created 7, count 2
    record {
      arena = 64;
      calls = m7 ++ COMMIT 1 (2 ∷ 1 ∷ []) ∷ GET r (0 ∷ 0 ∷ []) [] ∷ [];
      replies = m7-replies ++ says nothing ∷ writes (metadata 2 7 (joined (md5 (md5 B ++ (md5 A ++ []))) 2) 0 0) (B ++ A) ∷ [];
    } ∷
    -- M8 as M7 with COMMIT (1), or (1, 1, 2): 2, upload still open, so that ABORT finds it
    record { arena = 64; calls = m7 ++ COMMIT 1 (1 ∷ []) ∷ ABORT 1 ∷ []; replies = m7-replies ++ refused 2 ∷ says nothing ∷ [] } ∷
    record { arena = 64; calls = m7 ++ COMMIT 1 (1 ∷ 1 ∷ 2 ∷ []) ∷ ABORT 1 ∷ []; replies = m7-replies ++ refused 2 ∷ says nothing ∷ [] } ∷
    -- M9 INITIATE, COMMIT (): empty object, count 0
    record {
      arena = 64;
      calls = INITIATE 7 r [] ∷ COMMIT 1 [] ∷ HEAD r [] ∷ [];
      replies = says (number 1) ∷ says nothing ∷ says (metadata 0 7 (joined (md5 []) 0) 0 0) ∷ [];
    } ∷
    -- M10 INITIATE, ABORT 1, INITIATE gives 2; PART to 1: 2
    record {
      arena = 64;
      calls = INITIATE 7 r [] ∷ ABORT 1 ∷ INITIATE 7 r [] ∷ PART 1 1 A ∷ [];
      replies = says (number 1) ∷ says nothing ∷ says (number 2) ∷ refused 2 ∷ [];
    } ∷
    -- M11 A = 4: PUT "a" 3 bytes, PUT "b" 2 bytes: 5; PUT "a" 4 bytes: 0
    record {
      arena = 4;
      calls = PUT 5 a xyz [] ∷ PUT 5 b (B ++ A) [] ∷ PUT 5 a (xyz ++ A) [] ∷ [];
      replies = says nothing ∷ refused 5 ∷ says nothing ∷ [];
    } ∷
    -- M12 A = 4: parts of 2 and 2 bytes, COMMIT: 0
    record {
      arena = 4;
      calls = INITIATE 7 r [] ∷ PART 1 1 (A ++ A) ∷ PART 1 2 (B ++ B) ∷ COMMIT 1 (1 ∷ 2 ∷ []) ∷ [];
      replies = says (number 1) ∷ says (etag (plain (md5 (A ++ A)))) ∷ says (etag (plain (md5 (B ++ B)))) ∷ says nothing ∷ [];
    } ∷
    []

-- what the machine replies to calls from FRESH
abbrev pub replies : (arena : ℕ) → List Call → List Reply
replies arena cs = map (λ (e : Call × Reply). e.1) (trace arena fresh cs)

pub marked-answered : map (λ (w : MarkedOrder). replies w.arena w.calls) marked ≡ map (λ (w : MarkedOrder). w.replies) marked
unfolding ◌else◌then◌ given act put_at object_at delete_at abort_at counted held path_ok request_path_ok new_path_ok stamp_ok pairs_ok pair_map encode_pairs request_part_ok
marked-answered = refl
