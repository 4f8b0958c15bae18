-- The length of LIST's record, and document 01's LIST after M5.
-- Assumes nothing.
use Prim.Native.Nat.{◌+◌, ◌≤◌, ◌<◌}
use mathlib.Core.Path.{◌≡◌, refl, ◌∙◌}
use mathlib.Core.List.{[], ◌∷◌, ◌++◌, append-nil}
use native.Mathlib.Omega.{arith}
use borrow.Author.Tests.{le-leb, lt-leb}
use lib.ListN.{length, drop, length-append, drop_of_length-le}
use Rattle.base_number.specs.Number.{le}
use Rattle.base_number.proofs.NumberLaws.{length-le}
use Rattle.base_order.specs.Order.{begins, ends}
use Rattle.base_text.specs.Text.{hex}
use Rattle.base_text.proofs.TextLaws.{length-hex}
use Rattle.machine.specs.Names.{Bytes, path_ok, request_path_ok, new_path_ok, stamp_ok}
use Rattle.machine.specs.Pairs.{pairs_ok, pair_map, encode_pairs}
use Rattle.machine.specs.Digest.{md5, length-md5}
use Rattle.machine.specs.Etags.{text}
use Rattle.machine.specs.State.{Object, State, fresh, held, counted}
use Rattle.machine.specs.Calls.{LIST, Answer, counts, nothing, buffers, given, ◌else◌then◌}
use Rattle.machine.specs.Steps.{plain_object, put_at, object_at, is_listed, listed, list_record, over, write, act, reply_of, reply}
use Rattle.machine.specs.Lists.{final}
use Rattle.machine.specs.Marked.{a, xyz, m5}

pub length-list_record : (p : Bytes) (x : Object) → length (list_record p x) ≡ 14 + length p + length (text x.etag)
unfolding list_record
length-list_record p x = simp (length-append, length-le) (omega arith)

-- the reply where the bytes fit the buffer, and where they do not
pub write-fits : (x : Answer) (out b : Bytes) (s : State) → length out ≤ length b → reply_of (buffers b []) (write x out b s) ≡ record { result = 0; answer = x; buffers = buffers (over out b) [] }
unfolding ◌else◌then◌
write-fits x out b s h = rw (le-leb (length out) (length b) h)

pub write-short : (x : Answer) (out b : Bytes) (s : State) → length b < length out → reply_of (buffers b []) (write x out b s) ≡ record { result = 7; answer = nothing; buffers = buffers b [] }
unfolding ◌else◌then◌
write-short x out b s h = rw (lt-leb (length out) (length b) h)

-- "After M5 LIST of empty strings writes 47 bytes: 1, 97, 3 0 0 0, 5 and seven 0, 32, then 32 digits."
m5-record : Bytes
m5-record = list_record a (plain_object 5 xyz []) ++ []

m5-length : length m5-record ≡ 47
unfolding m5-record text
m5-length = omega (arith, length-append (list_record a (plain_object 5 xyz [])) [], length-list_record a (plain_object 5 xyz []), length-hex (md5 xyz), length-md5 xyz)

m5-bytes : m5-record ≡ 1 ∷ 97 ∷ 3 ∷ 0 ∷ 0 ∷ 0 ∷ 5 ∷ 0 ∷ 0 ∷ 0 ∷ 0 ∷ 0 ∷ 0 ∷ 0 ∷ 32 ∷ hex (md5 xyz)
unfolding m5-record list_record le text
m5-bytes = rw (append-nil, length-hex (md5 xyz), length-md5 xyz)

pub list-digits : length (hex (md5 xyz)) ≡ 32
list-digits = omega (arith, length-hex (md5 xyz), length-md5 xyz)

m5-list : (b : Bytes) → reply 64 (final 64 fresh m5) (LIST [] [] b) ≡ reply_of (buffers b []) (write (counts 1 (length m5-record)) m5-record b (final 64 fresh m5))
unfolding ◌else◌then◌ given act put_at object_at counted held path_ok request_path_ok new_path_ok stamp_ok pairs_ok pair_map encode_pairs listed is_listed begins ends m5-record
m5-list b = refl

-- "47 bytes of buffer suffice"
pub list-47 : (b : Bytes) → length b ≡ 47 → reply 64 (final 64 fresh m5) (LIST [] [] b)
    ≡ record { result = 0; answer = counts 1 47; buffers = buffers (1 ∷ 97 ∷ 3 ∷ 0 ∷ 0 ∷ 0 ∷ 5 ∷ 0 ∷ 0 ∷ 0 ∷ 0 ∷ 0 ∷ 0 ∷ 0 ∷ 32 ∷ hex (md5 xyz)) [] }
list-47 b h =
    let l : length m5-record ≤ length b = omega (arith, m5-length) in
    let k : length b ≤ length m5-record = omega (arith, m5-length) in
    let e : drop (length m5-record) b ≡ [] = drop_of_length-le b k in
    m5-list b ∙ write-fits _ m5-record b _ l ∙ rw (e, append-nil, m5-length, m5-bytes)

-- "46 give 7"
pub list-46 : (b : Bytes) → length b ≡ 46 → reply 64 (final 64 fresh m5) (LIST [] [] b) ≡ record { result = 7; answer = nothing; buffers = buffers b [] }
list-46 b h = let l : length b < length m5-record = omega (arith, m5-length) in m5-list b ∙ write-short _ m5-record b _ l
