-- `pairs_stored::stored::sum_of` meets its contract. The invariant: what is summed and what is to come are all. Assumes nothing.
use Prim.Native.Nat.{◌+◌, ◌*◌, ◌≤◌}
use mathlib.Core.Path.{◌≡◌}
use lib.ListN.{drop}
use Rattle.pairs_stored.specs.Stored.{sum_of}
use Rattle.pairs_stored.proofs.stored.sum_of.Given as goal

abbrev pub invariant-loop-i : goal.invariant-loop-i
invariant-loop-i l = (l.n ≤ 255 * l.i) × (l.n + sum_of (drop l.i l.lengths) ≡ sum_of l.lengths)
