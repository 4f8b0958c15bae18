-- Document 02, E1, of the code: a run with an accepted DELETE_OBJECTS, beside a run with its single deletes in its place. Assumes nothing.
use Rattle.std.specs.Prelude.{◌≡◌, List, ◌++◌, length, drop}
use Rattle.machine.specs.Names.{Bytes}
use Rattle.machine.specs.Calls.{NamePlace, Reply}
use Rattle.machine.specs.Lists.{Trace}
use Rattle.machine.specs.DeleteObjects.{single_deletes, results_of}
use Rattle.call_contract.specs.Made.{Memory}
use Rattle.store_history.specs.InPlace.{SameRuns}

-- The first run has DELETE_OBJECTS with reply r after `before`, the second, t₂, its single deletes.
pub record SameAsDeletes (before : Trace) (names : Bytes) (ps : List NamePlace) (results : Bytes) (r : Reply) (later : Trace) (m : Memory) (t₂ : Trace) (m₂ : Memory) : Type 0 where
  -- "the store ends as that many DELETE calls in that sequence would leave it"
  pub same : SameRuns before later m (single_deletes names ps) t₂ m₂
  -- "One result number per place, a byte each, goes into a lent buffer"
  pub buffer : r.buffers.answer ≡ results_of same.made ++ drop (length ps) results
