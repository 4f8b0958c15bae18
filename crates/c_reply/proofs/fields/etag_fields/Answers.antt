-- `c_reply::fields::etag_fields` meets its contract: an absent etag has a digest of zeros. Assumes nothing.
use mathlib.Core.Path.{sym}
use Rattle.c_reply.proofs.Places.{zero-digest}
use Rattle.c_reply.proofs.fields.etag_fields.Goals as goal

pub returns-in-Absent-clause-digest : goal.returns-in-Absent-clause-digest
returns-in-Absent-clause-digest c = rw c.in-Absent.is (sym zero-digest)
