-- `names_ascii::faults` meets its contract. The invariant: the faults counted and those to come are all; `k` is the place. Assumes nothing.
use Prim.Native.Nat.{◌+◌, ◌-◌, ◌≤◌}
use mathlib.Core.Path.{◌≡◌}
use lib.ListN.{drop}
use Rattle.names_ascii.specs.Faults.{faults_beside}
use Rattle.names_ascii.proofs.BlockLaws.{place}
use Rattle.names_ascii.proofs.faults.Given as goal

abbrev pub invariant-loop-i : goal.invariant-loop-i
invariant-loop-i l =
    (l.bad + faults_beside (drop (place l.n l.i) l.before) (drop (place l.n l.i) l.s) ≡ faults_beside (drop (32 - l.n) l.before) (drop (32 - l.n) l.s))
    × (l.k ≡ l.n + l.i)
    × (l.bad ≤ l.i)
