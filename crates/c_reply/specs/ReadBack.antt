-- A reply of 48 bytes read back: the machine's answer that it tells. Assumes nothing.
use Rattle.std.specs.Prelude.{ℕ, cond, eqb, take, drop}
use Rattle.base_number.specs.Number.{from_le}
use Rattle.machine.specs.Names.{Bytes}
use Rattle.machine.specs.Etags.{Etag, absent, plain, joined}
use Rattle.machine.specs.Calls.{Call, PUT, GET, HEAD, DELETE, COPY, LIST, INITIATE, PART, COMMIT, ABORT, UPLOADS, DELETE-OBJECTS, SWEEP, Answer, nothing, metadata, etag, number, counts, swept}

-- the number of so many bytes at an offset, low byte first
abbrev pub number_at : (offset width : ℕ) → Bytes → ℕ
number_at offset width o = from_le (take width (drop offset o))

-- an etag by its kind: 0 absent, 1 plain, 2 joined
abbrev pub etag_from : (kind count : ℕ) (digest : Bytes) → Etag
etag_from kind count digest = cond (eqb kind 0) absent (cond (eqb kind 1) (plain digest) (joined digest count))

-- the etag of GET, HEAD and PART
unfoldable pub etag_in : Bytes → Etag
etag_in o = etag_from (number_at 24 1 o) (number_at 26 2 o) (take 16 (drop 28 o))

-- the metadata of GET and HEAD: length, created, etag; E6: how many pairs and bytes of them were written
unfoldable pub metadata_in : Bytes → Answer
metadata_in o = metadata (number_at 8 4 o) (number_at 0 8 o) (etag_in o) (number_at 44 2 o) (number_at 46 2 o)

-- the number of INITIATE
unfoldable pub number_in : Bytes → Answer
number_in o = number (number_at 12 4 o)

-- the counts of LIST and UPLOADS: records, bytes
unfoldable pub counts_in : Bytes → Answer
counts_in o = counts (number_at 16 4 o) (number_at 20 4 o)

-- how many uploads SWEEP aborted, and whether more are due
unfoldable pub swept_in : Bytes → Answer
swept_in o = swept (number_at 16 4 o) (eqb (number_at 25 1 o) 1)

-- what call k answered, as a reply with bytes o tells it
abbrev pub answer_in : Call → (o : Bytes) → Answer
answer_in (PUT t p d ps) o = nothing
answer_in (GET p b m) o = metadata_in o
answer_in (HEAD p m) o = metadata_in o
answer_in (DELETE p) o = nothing
answer_in (COPY t p q) o = nothing
answer_in (LIST prefix suffix b) o = counts_in o
answer_in (INITIATE t p ps) o = number_in o
answer_in (PART u n d) o = etag (etag_in o)
answer_in (COMMIT u ns) o = nothing
answer_in (ABORT u) o = nothing
answer_in (UPLOADS prefix b) o = counts_in o
answer_in (DELETE-OBJECTS names ps left_over b) o = nothing
answer_in (SWEEP t n) o = swept_in o
