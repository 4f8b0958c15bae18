-- The bytes of the fields of a reply, and the reply of what an answer tells. Assumes nothing.
use Rattle.std.specs.Prelude.{Result, Ok, Err}
use Rattle.call_types.specs.declared.Refusal.{Refusal}
use Rattle.call_types.specs.Numbers.{number_of}
use Rattle.machine.specs.Names.{Bytes}
use Rattle.machine.specs.Etags.{digest_of, count_of}
use Rattle.machine.specs.Calls.{Answer, no_buffers, Reply}
use Rattle.call_contract.specs.Answers.{etag_of, refused, success}
use Rattle.c_reply.specs.declared.fields.Fields.{Fields}
use Rattle.c_reply.specs.Reply.{field_bytes, kind_of, more_of}

-- each field at its place
abbrev pub bytes_of_fields : Fields → Bytes
bytes_of_fields f =
    let e = etag_of f.etag in
    field_bytes f.created f.size f.upload f.records f.bytes (kind_of e) (more_of f.more) (count_of e) (digest_of e) f.pairs f.pairsize

-- a refusal's number, or 0 and what is told
abbrev pub told_reply : {A : Type 0} → (A → Answer) → Result A Refusal → Reply
told_reply told (Ok x) = success (told x) no_buffers
told_reply told (Err r) = refused (number_of r) no_buffers
