-- `mem_join_order::find_row` meets its contract. The invariant: the parts passed have other numbers. Assumes nothing.
use Prim.Native.Nat.{◌+◌, ◌-◌}
use lib.ListN.{length}
use Rattle.mem_join_order.specs.Region.{PartAt}
use Rattle.mem_join_order.proofs.Search.{Passed}
use Rattle.mem_join_order.proofs.find_row.Given as goal

abbrev pub invariant-loop-h : goal.invariant-loop-h
invariant-loop-h l = (k : PartAt l.tables l.arena l.at l.base l.number) → Passed l.tables l.arena l.at l.base l.number k l.rows l.bytes

abbrev pub decreases-loop-h : goal.decreases-loop-h
decreases-loop-h l = length l.tables - (l.at + l.rows)
