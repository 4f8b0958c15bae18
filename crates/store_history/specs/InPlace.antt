-- Two runs of the code that differ in one place: the one has a call there, the other has other calls. Assumes nothing.
use Rattle.std.specs.Prelude.{◌≡◌, List, ◌++◌}
use Rattle.machine.specs.Calls.{Call}
use Rattle.machine.specs.Lists.{Trace}
use Rattle.machine.specs.Demand3.{calls}
use Rattle.call_contract.specs.Made.{Memory, state_in}

-- The first run has calls and answers `before`, then the call, then `later`, and leaves memory m. The second, t₂, has the calls ds in its place, and
-- leaves memory m₂. Both end in the same state, and every other call answers the same.
pub record SameRuns (before later : Trace) (m : Memory) (ds : List Call) (t₂ : Trace) (m₂ : Memory) : Type 0 where
  pub state : state_in m₂ ≡ state_in m
  -- the calls in its place, with their answers
  pub made : Trace
  pub are : calls made ≡ ds
  pub answers : t₂ ≡ before ++ (made ++ later)
