-- `pairs_write::writing::encode` meets its contract. The invariant: the pairs passed stand at the front. Assumes nothing.
use Prim.Native.Nat.{◌*◌}
use Rattle.pairs_write.proofs.Encoding.{Encoded}
use Rattle.pairs_write.proofs.writing.encode.Given as goal

abbrev pub invariant-loop-i : goal.invariant-loop-i
invariant-loop-i l = Encoded l.lengths l.bytes l.initial.answer l.answer l.at (2 * l.i)
