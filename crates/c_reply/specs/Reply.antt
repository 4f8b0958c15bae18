-- The reply: 48 bytes in which C gets metadata, numbers and counts. Assumes nothing.
use Rattle.std.specs.Prelude.{ℕ, Bool, cond, ◌++◌, eqb}
use Rattle.base_number.specs.Number.{le}
use Rattle.machine.specs.Names.{Bytes}
use Rattle.machine.specs.Etags.{Etag, absent, plain, joined, count_of, digest_of}
use Rattle.machine.specs.Calls.{Reply, Answer, nothing, metadata, etag, number, counts, swept}

-- "one more lent slice of a fixed length"
abbrev pub reply_length : ℕ
reply_length = 48

-- an etag's kind: 0 absent, 1 plain, 2 joined
abbrev pub kind_of : Etag → ℕ
kind_of absent = 0
kind_of (plain digest) = 1
kind_of (joined digest count) = 2

-- the fields end to end, each with its offset; numbers are low byte first
unfoldable pub field_bytes : (created length upload records bytes kind more count : ℕ) (digest : Bytes) (pairs pairsBytes : ℕ) → Bytes
field_bytes created length upload records bytes kind more count digest pairs pairsBytes =
    le 8 created  -- 0
    ++ le 4 length  -- 8
    ++ le 4 upload  -- 12
    ++ le 4 records  -- 16
    ++ le 4 bytes  -- 20
    ++ le 1 kind  -- 24
    ++ le 1 more  -- 25
    ++ le 2 count  -- 26
    ++ digest  -- 28
    ++ (le 2 pairs  -- 44
    ++ le 2 pairsBytes)  -- 46

abbrev pub fields_with : (created length upload records bytes : ℕ) → Etag → (pairs pairsBytes : ℕ) → Bytes
fields_with created length upload records bytes e = field_bytes created length upload records bytes (kind_of e) 0 (count_of e) (digest_of e)

-- E3, whether more uploads are due: 1 or 0
abbrev pub more_of : Bool → ℕ
more_of more = cond more 1 0

-- E3, a sweep's count in the records' place, and whether more are due
abbrev pub swept_fields : (count : ℕ) (more : Bool) → Bytes
swept_fields count more = field_bytes 0 0 0 count 0 0 (more_of more) 0 (digest_of absent) 0 0

-- the reply of an answer: fields that are not the call's own are 0
unfoldable pub reply_bytes : Answer → Bytes
reply_bytes nothing = fields_with 0 0 0 0 0 absent 0 0
reply_bytes (metadata length created e pairs pairsBytes) = fields_with created length 0 0 0 e pairs pairsBytes
reply_bytes (etag e) = fields_with 0 0 0 0 0 e 0 0
reply_bytes (number n) = fields_with 0 0 n 0 0 absent 0 0
reply_bytes (counts records bytes) = fields_with 0 0 0 records bytes absent 0 0
reply_bytes (swept count more) = swept_fields count more

-- what a reply slice that held o holds after an answer: a refusal answers nothing and leaves it
abbrev pub reply_over : Answer → Bytes → Bytes
reply_over nothing o = o
reply_over (metadata length created e pairs pairsBytes) o = reply_bytes (metadata length created e pairs pairsBytes)
reply_over (etag e) o = reply_bytes (etag e)
reply_over (number n) o = reply_bytes (number n)
reply_over (counts records bytes) o = reply_bytes (counts records bytes)
reply_over (swept count more) o = reply_bytes (swept count more)

-- the reply slice afterwards: written whole on success; "a refusal leaves its bytes"
unfoldable pub reply_after : Reply → (o : Bytes) → Bytes
reply_after r o = cond (eqb r.result 0) (reply_bytes r.answer) o
