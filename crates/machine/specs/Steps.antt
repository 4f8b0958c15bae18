-- Document 01's steps and document 02's: what each call answers and does, its checks in checking order. Assumes nothing.
use Rattle.std.specs.Prelude.{ℕ, ◌+◌, min, Bool, ◌&&◌, List, [], ◌∷◌, ◌++◌, map, leb, ltb, eqb, length, take, drop}
use Rattle.std.proofs.Math.Option.{Option, none, some}
use Rattle.base_number.specs.Number.{le}
use Rattle.base_order.specs.Order.{by_bytes, begins, ends}
use Rattle.machine.specs.Map.{Map, by_number, lookup, remove, mapped, also, keep, records}
use Rattle.machine.specs.Pairs.{pairs_ok, pair_map, encode_pairs}
use Rattle.machine.specs.Names.{Bytes, request_path_ok, new_path_ok, stamp_ok, request_part_ok, last_upload_number}
use Rattle.machine.specs.Digest.{md5}
use Rattle.machine.specs.Etags.{absent, plain, joined, text}
use Rattle.machine.specs.State.{Object, Part, Upload, State, fresh, with_object, without_object, with_upload, without_upload, with_next, with_part, held, counted}
use Rattle.machine.specs.Calls.{Call, PUT, GET, HEAD, DELETE, COPY, LIST, INITIATE, PART, COMMIT, ABORT, UPLOADS, DELETE-OBJECTS, SWEEP, NamePlace, Answer, nothing, metadata, etag, number, counts, swept, Buffers, buffers, no_buffers, Reply, badRequest, notFound, tableFull, arenaFull, numbersUsedUp, bufferShort, tooMany, code, Outcome, refuse, accept, ◌else◌then◌, given, lent}

-- "Bytes of the answer buffer past those written do not change"
abbrev pub over : (out buffer : Bytes) → Bytes
over out b = out ++ drop (length out) b

abbrev pub written : (out lent : Buffers) → Buffers
written out b = buffers (over out.answer b.answer) (over out.pairs b.pairs)

-- a refusal answers nothing but its number; "Success is 0."
abbrev pub reply_of : Buffers → Outcome → Reply
reply_of b (refuse n) = record { result = code n; answer = nothing; buffers = b }
reply_of b (accept a out s) = record { result = 0; answer = a; buffers = written out b }

-- "where a call is refused, it .. keeps O, U and N"
abbrev pub after : State → Outcome → State
after s (refuse n) = s
after s (accept a out s') = s'

-- "(data, stamp, plain etag)", with pairs
abbrev pub plain_object : (stamp : ℕ) (content : Bytes) → Map Bytes Bytes → Object
plain_object t d m = record { content = d; created = t; etag = plain (md5 d); pairs = m }

-- an upload "with no parts", and a part: "(data, plain etag)"
abbrev pub new_upload : (stamp : ℕ) (path : Bytes) → Map Bytes Bytes → Upload
new_upload t p m = record { path = p; started = t; pairs = m; parts = [] }

abbrev pub new_part : (content : Bytes) → Part
new_part d = record { content = d; digest = md5 d }

-- PUT's step, COPY's too: the checks of the state after, then "O at path becomes (data, stamp, plain etag)"
unfoldable pub put_at : (A : ℕ) → State → (stamp : ℕ) (path content : Bytes) → Map Bytes Bytes → Outcome
put_at A s t p d m =
    let s' : State = with_object s p (plain_object t d m) in
    counted s' else tableFull then leb (held s') A else arenaFull then accept nothing no_buffers s'

-- what GET and HEAD find: "The empty path is the root; only GET and HEAD take it."
unfoldable pub object_at : State → (path : Bytes) → (Object → Outcome) → Outcome
object_at s [] k = k (record { content = []; created = 0; etag = absent; pairs = [] })
object_at s (b ∷ p) k = request_path_ok (b ∷ p) else badRequest then given (lookup by_bytes (b ∷ p) s.O) notFound k

-- "the metadata is length, created, etag"; E6: "how many pairs and bytes they wrote there"
abbrev pub about : Object → Answer
about x = metadata (length x.content) x.created x.etag (length x.pairs) (length (encode_pairs x.pairs))

-- E6, GET and HEAD: "a short second buffer gives 7", else the object's pairs go to its front
abbrev pub with_pairs : Object → (out pairsBuffer : Bytes) → State → Outcome
with_pairs x out b s =
    let pairs = encode_pairs x.pairs in
    leb (length pairs) (length b) else bufferShort then accept (about x) (buffers out pairs) s

-- LIST and UPLOADS: "the bytes to write .. exceed the answer buffer", or go to its front
abbrev pub write : Answer → (out buffer : Bytes) → State → Outcome
write a out b s = leb (length out) (length b) else bufferShort then accept a (buffers out []) s

-- DELETE's step: "removes it from O"
unfoldable pub delete_at : State → (path : Bytes) → Outcome
delete_at s p =
    request_path_ok p else badRequest then
    given (lookup by_bytes p s.O) notFound λ x.
    accept nothing no_buffers (without_object s p)

-- E1, the DELETE of one place: "A place outside the name buffer has result 2"
unfoldable pub delete_place : State → (names : Bytes) → NamePlace → Outcome
delete_place s names p =
    leb (p.start + p.length) (length names) else badRequest then
    delete_at s (take p.length (drop p.start names))

-- E1: "One result number per place, a byte each": each place's, over the state that the places before it leave
abbrev pub place_results : State → (names : Bytes) → List NamePlace → Bytes
place_results s names [] = []
place_results s names (p ∷ ps) = let o = delete_place s names p in (reply_of no_buffers o).result ∷ place_results (after s o) names ps

-- E1: "the store ends as that many DELETE calls in that sequence would leave it"
abbrev pub after_places : State → (names : Bytes) → List NamePlace → State
after_places s names [] = s
after_places s names (p ∷ ps) = after_places (after s (delete_place s names p)) names ps

-- PART's step, once its number keeps its rule: "sets that part, answers its etag"
abbrev pub part_at : (A : ℕ) → State → (upload number : ℕ) (content : Bytes) → Outcome
part_at A s u n d =
    given (lookup by_number u s.U) badRequest λ x.
    let s' : State = with_upload s u (with_part x n (new_part d)) in
    counted s' else tableFull then
    leb (held s') A else arenaFull then
    accept (etag (plain (md5 d))) no_buffers s'

-- "the list must name every part of the upload exactly one time": the parts in listed order, each picked out of those that remain
abbrev pub take_listed : (numbers : List ℕ) → Map ℕ Part → Option (List Part)
take_listed [] [] = some []
take_listed [] (e ∷ m) = none
take_listed (n ∷ ns) m = also (lookup by_number n m) (λ x. mapped (λ (xs : List Part). x ∷ xs) (take_listed ns (remove by_number n m)))

-- "the parts joined in listed order"
abbrev pub contents : List Part → Bytes
contents [] = []
contents (x ∷ xs) = x.content ++ contents xs

-- "the 16-byte digests stored with the parts, set end to end in listed order"
abbrev pub digests : List Part → Bytes
digests [] = []
digests (x ∷ xs) = x.digest ++ digests xs

-- "(the parts joined in listed order, the upload's start stamp, joined etag)"; E6: COMMIT carries the upload's pairs
abbrev pub joined_object : Upload → List Part → Object
joined_object x xs = record { content = contents xs; created = x.started; etag = joined (md5 (digests xs)) (length xs); pairs = x.pairs }

-- LIST: "every path of O that begins with the prefix and whose rest after the prefix ends with the suffix"
unfoldable pub is_listed : (prefix suffix path : Bytes) → Bool
is_listed prefix suffix p = begins prefix p && ends suffix (drop (length prefix) p)

unfoldable pub listed : (prefix suffix : Bytes) → Map Bytes Object → Map Bytes Object
listed prefix suffix o = keep (λ p x. is_listed prefix suffix p) o

-- "LIST writes for each path: its length (1 byte), the path, data length (4), created (8), etag text length (1), etag text."
unfoldable pub list_record : Bytes → Object → Bytes
list_record p x = length p ∷ p ++ (le 4 (length x.content) ++ (le 8 x.created ++ length (text x.etag) ∷ text x.etag))

-- UPLOADS: "the open uploads whose path begins with the prefix"
unfoldable pub open_under : (prefix : Bytes) → Map ℕ Upload → Map ℕ Upload
open_under prefix m = keep (λ u x. begins prefix x.path) m

-- "UPLOADS writes: number (4), path length (1), path, started (8), count of parts (2)."
unfoldable pub upload_record : ℕ → Upload → Bytes
upload_record u x = le 4 u ++ (length x.path ∷ x.path ++ (le 8 x.started ++ le 2 (length x.parts)))

-- ABORT's step: "removes it from U"
unfoldable pub abort_at : State → (upload : ℕ) → Outcome
abort_at s u =
    given (lookup by_number u s.U) badRequest λ x.
    accept nothing no_buffers (without_upload s u)

-- E3: "open uploads started before the stamp"
abbrev pub is_due : (stamp : ℕ) → Upload → Bool
is_due t x = ltb x.started t

-- E3: those that are due, by ascending number
unfoldable pub due : (stamp : ℕ) → Map ℕ Upload → Map ℕ Upload
due t m = keep (λ u x. is_due t x) m

-- E3: those that a sweep aborts, "by ascending number, at most n of them"
abbrev pub to_sweep : (stamp most : ℕ) → Map ℕ Upload → List ℕ
to_sweep t n m = map (λ (e : ℕ × Upload). e.0) (take n (due t m))

-- E3: "The store afterwards is as after those single ABORT calls"
abbrev pub after_aborts : State → (uploads : List ℕ) → State
after_aborts s [] = s
after_aborts s (u ∷ us) = after_aborts (after s (abort_at s u)) us

-- the step of each call, over an arena of length A
unfoldable pub act : (A : ℕ) → State → Call → Outcome
-- E6: "Malformed pairs, or more than 8, give 2"
act A s (PUT t p d ps) = stamp_ok t && new_path_ok p && pairs_ok ps else badRequest then put_at A s t p d (pair_map ps)
-- "the bytes to write by GET .. exceed the answer buffer"
act A s (GET p b m) = object_at s p (λ x. leb (length x.content) (length b) else bufferShort then with_pairs x x.content m s)
act A s (HEAD p m) = object_at s p (λ x. with_pairs x [] m s)
act A s (DELETE p) = delete_at s p
-- E6: "COPY carries the source's"
act A s (COPY t p q) =
    stamp_ok t && request_path_ok p && new_path_ok q else badRequest then
    given (lookup by_bytes p s.O) notFound λ x.
    put_at A s t q x.content x.pairs
act A s (LIST prefix suffix b) =
    let l = listed prefix suffix s.O in
    let out = records list_record l in
    write (counts (length l) (length out)) out b s
-- E6: "INITIATE can now meet 5"
act A s (INITIATE t p ps) =
    let s' : State = with_next (with_upload s s.N (new_upload t p (pair_map ps))) in
    stamp_ok t && new_path_ok p && pairs_ok ps else badRequest then
    counted s' else tableFull then
    leb (held s') A else arenaFull then
    leb s.N last_upload_number else numbersUsedUp then
    accept (number s.N) no_buffers s'
act A s (PART u n d) = request_part_ok n else badRequest then part_at A s u n d
act A s (COMMIT u ns) =
    given (lookup by_number u s.U) badRequest λ x.
    given (take_listed ns x.parts) badRequest λ xs.
    let s' : State = without_upload (with_object s x.path (joined_object x xs)) u in
    counted s' else tableFull then
    accept nothing no_buffers s'
act A s (ABORT u) = abort_at s u
act A s (UPLOADS prefix b) =
    let l = open_under prefix s.U in
    let out = records upload_record l in
    write (counts (length l) (length out)) out b s
-- E1: "A list over 1,000 is refused by 8, right after 1"; "bytes left over give 2"; "a result buffer shorter than the list by 7"
act A s (DELETE-OBJECTS names ps left_over b) =
    leb (length ps) 1000 else tooMany then
    eqb left_over 0 else badRequest then
    leb (length ps) (length b) else bufferShort then
    accept nothing (buffers (place_results s names ps) []) (after_places s names ps)
-- E3: "A stamp of 0 is a bad request"; "The count is the smaller of n and the number due", and more are due where that is more than n
act A s (SWEEP t n) =
    let d = length (due t s.U) in
    stamp_ok t else badRequest then
    accept (swept (min n d) (ltb n d)) no_buffers (after_aborts s (to_sweep t n s.U))

-- FRESH over an arena of length A: "Bad request: .. FRESH got an arena over 1,048,576"
unfoldable pub FRESH : (A : ℕ) → Outcome
FRESH A = leb A 1048576 else badRequest then accept nothing no_buffers fresh

-- what a call answers, and the state it leaves
abbrev pub reply : (A : ℕ) → State → Call → Reply
reply A s c = reply_of (lent c) (act A s c)

abbrev pub next : (A : ℕ) → State → Call → State
next A s c = after s (act A s c)
