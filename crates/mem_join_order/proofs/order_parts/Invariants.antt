-- `mem_join_order::order_parts` meets its contract. The invariant: what is to come of the parts that remain does not change. Assumes nothing.
use Prim.Native.Nat.{◌-◌}
use mathlib.Core.Path.{◌≡◌}
use lib.ListN.{length, drop}
use Rattle.mem_join_order.specs.Region.{ListedAt}
use Rattle.mem_join_order.proofs.Ordering.{Turned}
use Rattle.mem_join_order.proofs.order_parts.Given as goal

abbrev pub invariant-loop-i : goal.invariant-loop-i
invariant-loop-i l = (length l.tables ≡ length l.initial.tables) × (length l.arena ≡ length l.initial.arena) × ((k : ListedAt l.initial.tables l.initial.arena l.at l.base l.list) → Turned l.initial.tables l.initial.arena l.at l.base l.list k l.tables l.arena l.row_at l.data_at (drop l.i l.list))

abbrev pub decreases-loop-i : goal.decreases-loop-i
decreases-loop-i l = length l.list - l.i
