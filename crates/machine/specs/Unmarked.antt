-- Document 01's unmarked cases, and its slips that the marked table lets through, by computation. Assumes nothing.
-- `proofs/Records.antt` has the case that rests on the digest's length: the 47 bytes of LIST.
use Rattle.std.specs.Prelude.{ℕ, zero, suc, ◌+◌, ◌/◌, ◌%◌, ◌≡◌, refl, List, [], ◌∷◌, ◌++◌, map, replicate}
use Rattle.base_number.specs.Number.{le}
use Rattle.base_order.specs.Order.{begins, ends}
use Rattle.base_text.specs.Text.{hex, hex_digit, digits, decimal}
use Rattle.machine.specs.Names.{Bytes, path_ok, request_path_ok, new_path_ok, stamp_ok, request_part_ok}
use Rattle.machine.specs.Pairs.{pairs_ok, pair_map, encode_pairs}
use Rattle.machine.specs.Digest.{md5}
use Rattle.machine.specs.Etags.{absent, plain, joined, text}
use Rattle.machine.specs.State.{Object, State, fresh, held, counted}
use Rattle.machine.specs.Calls.{Call, PUT, GET, HEAD, COPY, LIST, INITIATE, PART, COMMIT, ABORT, UPLOADS, nothing, metadata, etag, number, counts, no_buffers, Reply, badRequest, refuse, accept, given, ◌else◌then◌}
use Rattle.machine.specs.Steps.{put_at, object_at, abort_at, is_listed, listed, list_record, open_under, upload_record, FRESH, act, reply}
use Rattle.machine.specs.Lists.{trace, final}
use Rattle.machine.specs.Marked.{says, writes, refused, a, r, xyz, A, B, m7, m7-replies, replies}

-- the result numbers of calls from FRESH
abbrev pub results : (arena : ℕ) → List Call → List ℕ
results arena cs = map (λ (x : Reply). x.result) (replies arena cs)

-- "path of 128 bytes passes, 129 gives 2; "a/" passes, "/a" and "a//b" give 2"; so do bytes 32 and 127, and the root
abbrev pub named : List Call
named =
    PUT 5 (replicate 128 97) [] [] ∷
    PUT 5 (replicate 129 97) [] [] ∷
    PUT 5 (97 ∷ 47 ∷ []) [] [] ∷
    PUT 5 (47 ∷ 97 ∷ []) [] [] ∷
    PUT 5 (97 ∷ 47 ∷ 47 ∷ 98 ∷ []) [] [] ∷
    PUT 5 (33 ∷ 126 ∷ []) [] [] ∷
    PUT 5 (32 ∷ []) [] [] ∷
    PUT 5 (127 ∷ []) [] [] ∷
    PUT 5 [] [] [] ∷
    []

pub names-judged : results 64 named ≡ 0 ∷ 2 ∷ 0 ∷ 2 ∷ 2 ∷ 0 ∷ 2 ∷ 2 ∷ 2 ∷ []
unfolding ◌else◌then◌ given act put_at counted held path_ok new_path_ok stamp_ok pairs_ok pair_map
names-judged = refl

-- a stamp has 64 bits and is at least 1
pub stamps-judged : results 64 (PUT 1 a [] [] ∷ PUT 18446744073709551615 a [] [] ∷ PUT 18446744073709551616 a [] [] ∷ PUT 0 a [] [] ∷ []) ≡ 0 ∷ 0 ∷ 2 ∷ 2 ∷ []
unfolding ◌else◌then◌ given act put_at counted held path_ok new_path_ok stamp_ok pairs_ok pair_map
stamps-judged = refl

-- E7: "01's case becomes: part 10,000 passes, 0 and 10,001 give 2"
pub parts-judged : results 64 (INITIATE 7 r [] ∷ PART 1 10000 A ∷ PART 1 0 A ∷ PART 1 10001 A ∷ []) ≡ 0 ∷ 0 ∷ 2 ∷ 2 ∷ []
unfolding ◌else◌then◌ given act counted held path_ok new_path_ok stamp_ok pairs_ok pair_map request_part_ok
parts-judged = refl

-- "Prefix "ab" with suffix "bc" lists "abbc", not "abc"", and the list ascends by bytes, a shorter path before its extensions
abbrev pub shelf : State
shelf = final 64 fresh (PUT 5 (97 ∷ 98 ∷ 98 ∷ 99 ∷ []) [] [] ∷ PUT 5 (97 ∷ 98 ∷ 99 ∷ []) [] [] ∷ PUT 5 (97 ∷ 98 ∷ []) [] [] ∷ [])

abbrev pub listing : (prefix suffix : Bytes) → List Bytes
listing prefix suffix = map (λ (e : Bytes × Object). e.0) (listed prefix suffix shelf.O)

pub listings : map (λ (e : Bytes × Bytes). listing e.0 e.1) ((97 ∷ 98 ∷ [], 98 ∷ 99 ∷ []) ∷ ([], []) ∷ [])
    ≡ ((97 ∷ 98 ∷ 98 ∷ 99 ∷ []) ∷ []) ∷ ((97 ∷ 98 ∷ []) ∷ (97 ∷ 98 ∷ 98 ∷ 99 ∷ []) ∷ (97 ∷ 98 ∷ 99 ∷ []) ∷ []) ∷ []
unfolding ◌else◌then◌ given act put_at counted held path_ok new_path_ok stamp_ok pairs_ok pair_map listed is_listed begins ends
listings = refl

-- a record of LIST with a joined etag, byte for byte: "-256" after the digest's digits, here of two bytes
pub list-record : list_record a (record { content = xyz; created = 258; etag = joined (171 ∷ 9 ∷ []) 256; pairs = [] })
    ≡ 1 ∷ 97 ∷ 3 ∷ 0 ∷ 0 ∷ 0 ∷ 2 ∷ 1 ∷ 0 ∷ 0 ∷ 0 ∷ 0 ∷ 0 ∷ 0 ∷ 8 ∷ 97 ∷ 98 ∷ 48 ∷ 57 ∷ 45 ∷ 50 ∷ 53 ∷ 54 ∷ []
unfolding list_record le text hex hex_digit decimal digits
list-record = refl

-- etags as text: "-0" for no parts, and "an absent one is no bytes"
pub etag-texts : map text (joined [] 0 ∷ joined [] 10 ∷ absent ∷ []) ≡ (45 ∷ 48 ∷ []) ∷ (45 ∷ 49 ∷ 48 ∷ []) ∷ [] ∷ []
unfolding text hex decimal digits
etag-texts = refl

-- "parts seen by LIST": none is, nor by GET or HEAD; UPLOADS counts them
pub parts-unlisted : replies 64 (m7 ++ LIST [] [] [] ∷ GET r [] [] ∷ HEAD r [] ∷ UPLOADS r (replicate 17 9) ∷ UPLOADS a [] ∷ [])
    ≡ m7-replies ++ says (counts 0 0) ∷ refused 3 ∷ refused 3 ∷ writes (counts 1 16) (1 ∷ 0 ∷ 0 ∷ 0 ∷ 1 ∷ 114 ∷ 7 ∷ 0 ∷ 0 ∷ 0 ∷ 0 ∷ 0 ∷ 0 ∷ 0 ∷ 2 ∷ 0 ∷ 9 ∷ []) ∷ says (counts 0 0) ∷ []
unfolding ◌else◌then◌ given act object_at counted held path_ok request_path_ok new_path_ok stamp_ok pairs_ok pair_map encode_pairs request_part_ok listed is_listed open_under begins upload_record le
parts-unlisted = refl

-- "COPY carrying a joined etag over": it is plain
pub copied-plain : replies 64 (m7 ++ COMMIT 1 (2 ∷ 1 ∷ []) ∷ COPY 9 r a ∷ HEAD a [] ∷ []) ≡ m7-replies ++ says nothing ∷ says nothing ∷ says (metadata 2 9 (plain (md5 (B ++ A))) 0 0) ∷ []
unfolding ◌else◌then◌ given act put_at object_at counted held path_ok request_path_ok new_path_ok stamp_ok pairs_ok pair_map encode_pairs request_part_ok
copied-plain = refl

-- "old bytes counted against their own replacement": a part and a copy find their own bytes free
pub old-bytes-free : results 2 (INITIATE 7 r [] ∷ PART 1 1 (A ++ A) ∷ PART 1 1 (B ++ B) ∷ PART 1 2 A ∷ COMMIT 1 (1 ∷ []) ∷ COPY 9 r r ∷ COPY 9 r a ∷ PUT 9 r (A ++ B) [] ∷ [])
    ≡ 0 ∷ 0 ∷ 0 ∷ 5 ∷ 0 ∷ 0 ∷ 5 ∷ 0 ∷ []
unfolding ◌else◌then◌ given act put_at counted held path_ok request_path_ok new_path_ok stamp_ok pairs_ok pair_map request_part_ok
old-bytes-free = refl

-- "With 256 objects, COMMIT to a new path gives 4 and the upload stays open"; PUT to a new path gives 4, COPY over an old one 0
unfoldable pub put_many : ℕ → List Call
put_many zero = []
put_many (suc n) = PUT 1 ((65 + n / 16) ∷ (65 + n % 16) ∷ []) [] [] ∷ put_many n

abbrev pub full_shelf : State
full_shelf = final 0 fresh (put_many 256)

pub paths-ceiling : map (λ (e : Call × Reply). e.1.result)
    (trace 0 full_shelf (PUT 1 a [] [] ∷ INITIATE 1 a [] ∷ COMMIT 1 [] ∷ COPY 2 (65 ∷ 65 ∷ []) a ∷ COPY 2 (65 ∷ 65 ∷ []) (66 ∷ 65 ∷ []) ∷ ABORT 1 ∷ []))
    ≡ 4 ∷ 0 ∷ 4 ∷ 4 ∷ 0 ∷ 0 ∷ []
unfolding put_many ◌else◌then◌ given act put_at counted held path_ok request_path_ok new_path_ok stamp_ok pairs_ok pair_map abort_at
paths-ceiling = refl

-- 16 uploads, and 256 parts over all uploads
unfoldable pub initiate_many : ℕ → List Call
initiate_many zero = []
initiate_many (suc n) = INITIATE 1 r [] ∷ initiate_many n

unfoldable pub part_many : (upload : ℕ) → ℕ → List Call
part_many u zero = []
part_many u (suc n) = PART u (suc n) [] ∷ part_many u n

abbrev pub last_results : State → List Call → List ℕ
last_results s cs = map (λ (e : Call × Reply). e.1.result) (trace 0 s cs)

pub uploads-ceiling : last_results (final 0 fresh (initiate_many 16)) (INITIATE 1 r [] ∷ ABORT 3 ∷ INITIATE 1 r [] ∷ []) ≡ 4 ∷ 0 ∷ 0 ∷ []
unfolding initiate_many ◌else◌then◌ given act counted held path_ok new_path_ok stamp_ok pairs_ok pair_map abort_at
uploads-ceiling = refl

pub parts-ceiling : last_results (final 0 fresh (initiate_many 2 ++ part_many 1 200 ++ part_many 2 56)) (PART 2 57 [] ∷ PART 2 56 [] ∷ ABORT 1 ∷ PART 2 57 [] ∷ []) ≡ 4 ∷ 0 ∷ 0 ∷ 0 ∷ []
unfolding initiate_many part_many ◌else◌then◌ given act counted held path_ok new_path_ok stamp_ok pairs_ok pair_map request_part_ok abort_at
parts-ceiling = refl

-- "Numbers used up: INITIATE when 4,294,967,295 has been given out"; with 16 open it is 4
abbrev pub late : ℕ → State
late n = record { O = []; U = []; N = n }

pub numbers-given-out : (reply 0 (late 4294967295) (INITIATE 1 r [])).answer ≡ number 4294967295
unfolding ◌else◌then◌ act counted held path_ok new_path_ok stamp_ok pairs_ok pair_map
numbers-given-out = refl

pub numbers-used-up : last_results (late 4294967295) (INITIATE 1 r [] ∷ INITIATE 1 r [] ∷ []) ≡ 0 ∷ 6 ∷ []
unfolding ◌else◌then◌ act counted held path_ok new_path_ok stamp_ok pairs_ok pair_map
numbers-used-up = refl

pub full-first : last_results (final 0 (late 4294967280) (initiate_many 16)) (INITIATE 1 r [] ∷ ABORT 4294967280 ∷ INITIATE 1 r [] ∷ []) ≡ 4 ∷ 0 ∷ 6 ∷ []
unfolding initiate_many ◌else◌then◌ given act counted held path_ok new_path_ok stamp_ok pairs_ok pair_map abort_at
full-first = refl

-- FRESH: "an arena over 1,048,576" is refused by 2
pub fresh-arena : map FRESH (0 ∷ 1048576 ∷ 1048577 ∷ []) ≡ accept nothing no_buffers fresh ∷ accept nothing no_buffers fresh ∷ refuse badRequest ∷ []
unfolding FRESH ◌else◌then◌
fresh-arena = refl
