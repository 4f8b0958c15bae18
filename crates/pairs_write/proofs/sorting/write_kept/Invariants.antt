-- `pairs_write::sorting::write_kept` meets its contract. The invariant: the first pairs of the map are written, and the next is picked.
-- Assumes nothing.
use Prim.Native.Nat.{◌+◌, ◌-◌}
use lib.ListN.{length}
use Rattle.machine.specs.Pairs.{pair_map, pair_list}
use Rattle.pairs_stored.specs.Stored.{pair_lengths}
use Rattle.pairs_write.proofs.Arranging.{Arranged}
use Rattle.pairs_write.proofs.sorting.write_kept.Given as goal

abbrev pub invariant-loop-pick : goal.invariant-loop-pick
invariant-loop-pick l = Arranged l.pairs l.initial.lengths l.lengths l.initial.bytes l.bytes l.to l.at l.l l.b l.pick

abbrev pub decreases-loop-pick : goal.decreases-loop-pick
decreases-loop-pick l = l.to + length (pair_lengths (pair_map (pair_list l.pairs))) - l.l
