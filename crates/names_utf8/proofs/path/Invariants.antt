-- `names_utf8::path` meets its contract. The invariant: what is left, after `before`, is well formed and parted just where all is.
-- Assumes nothing.
use Prim.Native.Nat.{◌-◌, ◌≤◌}
use mathlib.Core.Path.{◌≡◌}
use mathlib.Core.Bool.{◌&&◌}
use mathlib.Core.List.{[]}
use lib.ListN.{length, drop}
use Rattle.machine.specs.Names.{characters, apart}
use Rattle.names_utf8.proofs.path.Given as goal

abbrev pub invariant-loop-i : goal.invariant-loop-i
invariant-loop-i l = ((characters [] l.p && apart 47 l.p) ≡ (characters [] (drop l.i l.p) && apart l.before (drop l.i l.p))) × (l.i ≤ length l.p)

abbrev pub decreases-loop-i : goal.decreases-loop-i
decreases-loop-i l = length l.p - l.i
