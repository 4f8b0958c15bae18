-- `mem_scan::entries::scan_entries` meets its contract. The invariant: the scan of all rows is the scan of those not yet passed. Assumes nothing.
use Prim.Native.Nat.{◌-◌, ◌≤◌}
use mathlib.Core.Path.{◌≡◌}
use lib.ListN.{length}
use Rattle.mem_scan.specs.Scan.{entry_scan}
use Rattle.mem_scan.proofs.entries.scan_entries.Given as goal

abbrev pub invariant-loop-i : goal.invariant-loop-i
invariant-loop-i l =
    (entry_scan l.most l.next l.uploads l.initial.opened l.rows l.initial.m (record { at = l.initial.at; base = l.initial.base }) l.t l.arena
    ≡ entry_scan l.most l.next l.uploads l.opened (l.rows - l.i) l.m (record { at = l.at; base = l.base }) l.t l.arena)
    × (l.at ≤ length l.t)
    × (l.base ≤ length l.arena)
    × (l.i ≤ l.rows)
    × (l.opened ≤ l.i)

abbrev pub decreases-loop-i : goal.decreases-loop-i
decreases-loop-i l = l.rows - l.i
