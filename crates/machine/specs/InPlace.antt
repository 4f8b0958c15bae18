-- A call amid a list, and other calls in its place. Assumes nothing.
use Rattle.std.specs.Prelude.{ℕ, ◌≡◌, List, ◌∷◌, ◌++◌}
use Rattle.machine.specs.State.{fresh}
use Rattle.machine.specs.Calls.{Call, Reply}
use Rattle.machine.specs.Lists.{Trace, trace, final}
use Rattle.machine.specs.Demand3.{calls}

-- With the calls ds in the place of c the list ends in the same state, and every other call of the two lists answers the same.
pub record SameInPlace (A : ℕ) (before : List Call) (c : Call) (ds later : List Call) : Type 0 where
  pub state : final A fresh (before ++ c ∷ later) ≡ final A fresh (before ++ (ds ++ later))
  -- the calls after, with their replies; those before have the replies that they have alone
  pub last : Trace
  pub with_call : (r : Reply) × (trace A fresh (before ++ c ∷ later) ≡ trace A fresh before ++ (c, r) ∷ last)
  pub with-others : (t : Trace) × (calls t ≡ ds) × (trace A fresh (before ++ (ds ++ later)) ≡ trace A fresh before ++ (t ++ last))
