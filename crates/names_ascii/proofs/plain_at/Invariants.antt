-- `names_ascii::plain_at` meets its contract. The invariant: nothing was counted where the first block and the bytes from `end` on are
-- clean. Assumes nothing.
use Prim.Native.Nat.{◌+◌, ◌-◌, ◌≤◌, ◌<◌}
use mathlib.Core.Path.{◌≡◌}
use mathlib.Core.Bool.{◌&&◌}
use lib.Dec.{eqb}
use Rattle.names_ascii.specs.Faults.{run}
use Rattle.names_ascii.proofs.plain_at.Given as goal

abbrev pub invariant-loop-end : goal.invariant-loop-end
invariant-loop-end l = (eqb l.bad 0 ≡ (run l.t (l.from - 1) (l.from + 32) && run l.t (l.end - 1) l.to)) × (l.bad ≤ 32 + (l.to - l.end)) × (l.end ≤ l.to) × (l.from < l.end)

abbrev pub decreases-loop-end : goal.decreases-loop-end
decreases-loop-end l = l.end
