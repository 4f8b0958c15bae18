-- `names_ascii::plain` meets its contract. The invariant: the faults counted and those to come are all of the path's. Assumes nothing.
use Prim.Native.Nat.{◌+◌, ◌≤◌}
use mathlib.Core.Path.{◌≡◌}
use lib.ListN.{drop}
use Rattle.names_ascii.specs.Faults.{faults}
use Rattle.names_ascii.proofs.plain.Given as goal

abbrev pub invariant-loop-b : goal.invariant-loop-b
invariant-loop-b l = (l.bad + faults l.before (drop l.b-index l.p) ≡ faults 47 l.p) × (l.bad ≤ l.b-index)
