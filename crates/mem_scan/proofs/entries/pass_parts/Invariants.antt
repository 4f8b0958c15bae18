-- `mem_scan::entries::pass_parts` meets its contract. The invariant: the scan of all rows is the scan of those not yet passed. Assumes nothing.
use Prim.Native.Nat.{ℕ, ◌-◌, ◌≤◌}
use mathlib.Core.Path.{◌≡◌}
use lib.ListN.{length}
use Rattle.mem_scan.specs.Scan.{entry_scan}
use Rattle.mem_scan.proofs.entries.pass_parts.Given as goal

abbrev pub invariant-loop-i : goal.invariant-loop-i
invariant-loop-i l =
    ((most next uploads opened : ℕ)
    → entry_scan most next uploads opened (l.rows - l.first) l.initial.after (record { at = l.initial.at; base = l.initial.base }) l.t l.arena
    ≡ entry_scan most next uploads opened (l.rows - l.i) l.after (record { at = l.at; base = l.base }) l.t l.arena)
    × (l.at ≤ length l.t)
    × (l.base ≤ length l.arena)
    × (l.first ≤ l.i)
    × (l.i ≤ l.rows)
