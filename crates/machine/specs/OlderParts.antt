-- Document 02, E7: parts above 10,000, which PART took before. Assumes nothing.
use Rattle.std.specs.Prelude.{ℕ, ◌≡◌, refl, true, List, [], ◌∷◌, ◌++◌, map, replicate}
use Rattle.base_number.specs.Number.{le}
use Rattle.base_order.specs.Order.{begins}
use Rattle.machine.specs.Map.{Map, by_number}
use Rattle.machine.specs.Names.{Bytes, path_ok, request_path_ok, new_path_ok, stamp_ok, number_ok, request_part_ok}
use Rattle.machine.specs.Pairs.{pairs_ok, pair_map, encode_pairs}
use Rattle.machine.specs.Digest.{md5}
use Rattle.machine.specs.Etags.{joined}
use Rattle.machine.specs.State.{Part, Upload, State, fresh, with_upload, held, counted}
use Rattle.machine.specs.Calls.{Call, GET, INITIATE, PART, COMMIT, ABORT, UPLOADS, nothing, metadata, counts, Reply, badRequest, Outcome, given, ◌else◌then◌}
use Rattle.machine.specs.Steps.{part_at, object_at, abort_at, open_under, upload_record, act, after, reply, next}
use Rattle.machine.specs.Lists.{trace, final}
use Rattle.machine.specs.Demand3.{accepted}
use Rattle.machine.specs.Marked.{says, writes, refused, r, A, B}

-- PART before E7: its number was judged by document 01's rule
abbrev pub former_part : (A : ℕ) → State → (upload number : ℕ) (content : Bytes) → Outcome
former_part A s u n d = number_ok n else badRequest then part_at A s u n d

-- the states of "an older store": what calls of before E7 leave from FRESH, and calls of today after them
pub data Older (A : ℕ) : State → Type 0 where
  start : Older A fresh
  part : {s : State} (u n : ℕ) (d : Bytes) → Older A s → Older A (after s (former_part A s u n d))
  call : {s : State} (c : Call) → Older A s → Older A (next A s c)

-- As any other part --------------------------------------------------------------------------------------------------------

-- parts with other numbers
abbrev pub renumber : (ℕ → ℕ) → Map ℕ Part → Map ℕ Part
renumber f [] = []
renumber f (e ∷ m) = (f e.0, e.1) ∷ renumber f m

abbrev pub renumbered : (ℕ → ℕ) → Upload → Upload
renumbered f x = record { path = x.path; started = x.started; pairs = x.pairs; parts = renumber f x.parts }

-- numbers stay in their order
abbrev pub Rising : (ℕ → ℕ) → Type 0
Rising f = (m n : ℕ) → by_number (f m) (f n) ≡ by_number m n

-- "A higher part .. can be counted, committed and aborted": upload u of s is x, and with other numbers for its parts, however high, UPLOADS,
-- COMMIT (of the list with these) and ABORT answer the same and leave the same
pub record AsAnyOther (A : ℕ) (s : State) (u : ℕ) (x : Upload) (f : ℕ → ℕ) : Type 0 where
  pub is-counted : (prefix buffer : Bytes) → reply A (with_upload s u (renumbered f x)) (UPLOADS prefix buffer) ≡ reply A s (UPLOADS prefix buffer)
  pub is-committed : (ns : List ℕ) → reply A (with_upload s u (renumbered f x)) (COMMIT u (map f ns)) ≡ reply A s (COMMIT u ns)
  pub as-committed : (ns : List ℕ) → accepted (reply A s (COMMIT u ns)) ≡ true →
      next A (with_upload s u (renumbered f x)) (COMMIT u (map f ns)) ≡ next A s (COMMIT u ns)
  pub is-aborted : reply A (with_upload s u (renumbered f x)) (ABORT u) ≡ reply A s (ABORT u)
  pub as-aborted : next A (with_upload s u (renumbered f x)) (ABORT u) ≡ next A s (ABORT u)

-- Cases --------------------------------------------------------------------------------------------------------------------

-- upload 1 to "r", started at 7, with parts 11,000 and 10,001, which PART took before E7
abbrev pub older : State
older =
    let s = final 64 fresh (INITIATE 7 r [] ∷ []) in
    let s' = after s (former_part 64 s 1 11000 B) in
    after s' (former_part 64 s' 1 10001 A)

abbrev pub answered : List Call → List Reply
answered cs = map (λ (e : Call × Reply). e.1) (trace 64 older cs)

-- UPLOADS counts both; PART takes neither any more, also where it is there; COMMIT joins them in listed order
pub older-committed : answered (UPLOADS r (replicate 16 9) ∷ PART 1 11000 A ∷ COMMIT 1 (11000 ∷ []) ∷ COMMIT 1 (11000 ∷ 10001 ∷ []) ∷ GET r (0 ∷ 0 ∷ []) [] ∷ [])
    ≡ writes (counts 1 16) (1 ∷ 0 ∷ 0 ∷ 0 ∷ 1 ∷ 114 ∷ 7 ∷ 0 ∷ 0 ∷ 0 ∷ 0 ∷ 0 ∷ 0 ∷ 0 ∷ 2 ∷ 0 ∷ [])
    ∷ refused 2
    ∷ refused 2
    ∷ says nothing
    ∷ writes (metadata 2 7 (joined (md5 (md5 B ++ (md5 A ++ []))) 2) 0 0) (B ++ A)
    ∷ []
unfolding ◌else◌then◌ given act object_at counted held path_ok request_path_ok new_path_ok stamp_ok pairs_ok pair_map encode_pairs number_ok request_part_ok open_under begins upload_record le
older-committed = refl

-- ABORT removes them; a part that PART takes may stand beside them, and all three are committed
pub older-aborted : map (λ (x : Reply). x.result) (answered (PART 1 10000 A ∷ ABORT 1 ∷ ABORT 1 ∷ [])) ≡ 0 ∷ 0 ∷ 2 ∷ []
unfolding ◌else◌then◌ given act abort_at counted held path_ok new_path_ok stamp_ok pairs_ok pair_map number_ok request_part_ok
older-aborted = refl

pub older-beside : map (λ (x : Reply). x.result) (answered (PART 1 10000 A ∷ COMMIT 1 (10000 ∷ 10001 ∷ 11000 ∷ []) ∷ [])) ≡ 0 ∷ 0 ∷ []
unfolding ◌else◌then◌ given act counted held path_ok new_path_ok stamp_ok pairs_ok pair_map number_ok request_part_ok
older-beside = refl
