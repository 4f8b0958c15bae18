-- `mem_join_order::digests::gather` meets its contract. The invariant: the digests of the rows passed stand at the front. Assumes nothing.
use mathlib.Core.Path.{◌≡◌}
use lib.ListN.{length}
use Rattle.mem_join_order.specs.Digests.{OrderedAt}
use Rattle.mem_join_order.proofs.Gathering.{Gathered}
use Rattle.mem_join_order.proofs.digests.gather.Given as goal

abbrev pub invariant-loop-i : goal.invariant-loop-i
invariant-loop-i l = (length l.all ≡ length l.initial.all) × ((k : OrderedAt l.tables l.at l.count) → Gathered l.tables l.at l.count k l.all l.i)
