-- Document 01's and document 02's number and values for each answer of the code, and name places of slices. Assumes nothing.
use Rattle.std.specs.Prelude.{ℕ, zero, suc, ◌/◌, ◌%◌, ◌≡◌, List, [], ◌∷◌, map, length, take, drop, Result, Ok, Err}
use Rattle.base_number.specs.Number.{from_le}
use Rattle.base_md5.specs.Md5.{bytes_of}
use Rattle.call_types.specs.declared.Etag.{Etag}
use Rattle.call_types.specs.declared.Etag.TheVariants.{Absent, Plain, Joined}
use Rattle.call_types.specs.declared.Metadata.{Metadata}
use Rattle.call_types.specs.declared.Place.{Place}
use Rattle.call_types.specs.declared.UploadNumber.{UploadNumber}
use Rattle.call_types.specs.declared.Counts.{Counts}
use Rattle.call_types.specs.declared.Sweep.{Sweep}
use Rattle.call_types.specs.declared.Refusal.{Refusal}
use Rattle.call_types.specs.Numbers.{number_of}
use Rattle.machine.specs.Names.{Bytes}
use Rattle.machine.specs.Etags as machine
use Rattle.machine.specs.Calls.{NamePlace, Answer, nothing, metadata, etag, number, counts, swept, Buffers, buffers, no_buffers, Reply}

-- an etag, with its digest as sixteen bytes
abbrev pub etag_of : Etag → machine.Etag
etag_of Absent = machine.absent
etag_of (Plain d) = machine.plain (bytes_of d)
etag_of (Joined d n) = machine.joined (bytes_of d) n

abbrev pub metadata_of : Metadata → Answer
metadata_of m = metadata m.length m.created.0 (etag_of m.etag) m.pairs m.bytes

-- a refusal returns only its number, and the answer buffers as they were
abbrev pub refused : ℕ → Buffers → Reply
refused n b = record { result = n; answer = nothing; buffers = b }

abbrev pub success : Answer → Buffers → Reply
success a b = record { result = 0; answer = a; buffers = b }

-- PUT, DELETE, COPY, COMMIT and ABORT
abbrev pub done_reply : Result (Unit {0}) Refusal → Reply
done_reply (Ok _) = success nothing no_buffers
done_reply (Err r) = refused (number_of r) no_buffers

-- E1, DELETE_OBJECTS; b is what the result buffer holds
abbrev pub results_reply : Result (Unit {0}) Refusal → Bytes → Reply
results_reply (Ok _) b = success nothing (buffers b [])
results_reply (Err r) b = refused (number_of r) (buffers b [])

-- GET and HEAD; b is what the answer buffers hold
abbrev pub get_reply : Result Metadata Refusal → Buffers → Reply
get_reply (Ok m) b = success (metadata_of m) b
get_reply (Err r) b = refused (number_of r) b

-- PART
abbrev pub part_reply : Result Etag Refusal → Reply
part_reply (Ok e) = success (etag (etag_of e)) no_buffers
part_reply (Err r) = refused (number_of r) no_buffers

-- INITIATE
abbrev pub initiate_reply : Result UploadNumber Refusal → Reply
initiate_reply (Ok u) = success (number u.0) no_buffers
initiate_reply (Err r) = refused (number_of r) no_buffers

-- LIST and UPLOADS; b is what the answer buffer holds
abbrev pub list_reply : Result Counts Refusal → Bytes → Reply
list_reply (Ok c) b = success (counts c.records c.bytes) (buffers b [])
list_reply (Err r) b = refused (number_of r) (buffers b [])

-- E3, SWEEP: "how many it aborted and whether more are due"
abbrev pub sweep_reply : Result Sweep Refusal → Reply
sweep_reply (Ok x) = success (swept x.count x.more) no_buffers
sweep_reply (Err r) = refused (number_of r) no_buffers

-- E1: the name places of a slice of them
abbrev pub name_place : Place → NamePlace
name_place p = record { start = p.start; length = p.len }

abbrev pub name_places : List Place → List NamePlace
name_places ps = map name_place ps

-- E1: "From C a place comes as two 32-bit numbers, low byte first": the first n places of these bytes
abbrev pub places_from : (n : ℕ) → Bytes → List NamePlace
places_from zero bs = []
places_from (suc n) bs = record { start = from_le (take 4 bs); length = from_le (take 4 (drop 4 bs)) } ∷ places_from n (drop 8 bs)

-- E1: all places of these bytes, and how many bytes are left over
unfoldable pub places_in : Bytes → List NamePlace
places_in bs = places_from (length bs / 8) bs

abbrev pub left_over : Bytes → ℕ
left_over bs = length bs % 8
