-- `call_uploads::writing::write` meets its contract. The invariant: the records of the first i notes stand at the front. Assumes nothing.
use Rattle.call_uploads.proofs.Written.{Written}
use Rattle.call_uploads.proofs.writing.write.Given as goal

abbrev pub invariant-loop-i : goal.invariant-loop-i
invariant-loop-i l = Written l.tables l.notes l.initial.answer l.answer l.i l.to
