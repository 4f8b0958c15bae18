-- `names_utf8::pairs` meets its contract. The invariant: from i to k stand such letters. Assumes nothing.
use Prim.Native.Nat.{◌-◌}
use lib.ListN.{length}
use Rattle.names_utf8.specs.Letters.{Run}
use Rattle.names_utf8.proofs.pairs.Given as goal

abbrev pub invariant-loop-k : goal.invariant-loop-k
invariant-loop-k l = Run l.p l.i l.k

abbrev pub decreases-loop-k : goal.decreases-loop-k
decreases-loop-k l = length l.p - l.k
