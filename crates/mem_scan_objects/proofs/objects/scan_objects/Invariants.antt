-- `mem_scan_objects::objects::scan_objects` meets its contract. The invariant: the scan of all rows is the scan of those not yet passed. Assumes nothing.
use Prim.Native.Nat.{◌-◌, ◌≤◌}
use mathlib.Core.Path.{◌≡◌}
use mathlib.Core.List.{[]}
use lib.ListN.{length, take, drop}
use Rattle.mem_scan_objects.specs.Scan.{object_scan}
use Rattle.mem_scan_objects.proofs.objects.scan_objects.Given as goal

abbrev pub invariant-loop-i : goal.invariant-loop-i
invariant-loop-i l =
    (object_scan l.most l.rows [] (record { at = l.initial.at; base = l.initial.base }) l.t l.arena
    ≡ object_scan l.most (l.rows - l.i) (take (l.at - l.last) (drop l.last l.t)) (record { at = l.at; base = l.base }) l.t l.arena)
    × (l.last ≤ l.at)
    × (l.at ≤ length l.t)
    × (l.base ≤ length l.arena)
    × (l.i ≤ l.rows)
