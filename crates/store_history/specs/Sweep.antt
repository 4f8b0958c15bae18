-- Document 02, E3, of the code: a run with an accepted SWEEP, beside a run with its single ABORTs in its place. Assumes nothing.
use Rattle.std.specs.Prelude.{ℕ, ◌≡◌, Bool, length}
use Rattle.machine.specs.State.{fresh}
use Rattle.machine.specs.Calls.{swept, Reply}
use Rattle.machine.specs.Steps.{to_sweep}
use Rattle.machine.specs.Lists.{Trace, final}
use Rattle.machine.specs.Demand3.{calls}
use Rattle.machine.specs.Sweep.{single_aborts, AllAccepted}
use Rattle.call_contract.specs.Made.{Memory}
use Rattle.store_history.specs.InPlace.{SameRuns}

-- The first run has SWEEP of stamp t and at most n with reply r after `before`, the second, t₂, its single ABORTs.
pub record SameAsAborts (A : ℕ) (before : Trace) (t n : ℕ) (r : Reply) (later : Trace) (m : Memory) (t₂ : Trace) (m₂ : Memory) : Type 0 where
  -- "The store afterwards is as after those single ABORT calls, also amid any list of calls"
  pub same : SameRuns before later m (single_aborts (to_sweep t n (final A fresh (calls before)).U)) t₂ m₂
  -- each of them is accepted
  pub each-accepted : AllAccepted same.made
  -- "It answers how many it aborted"
  pub count : (more : Bool) × (r.answer ≡ swept (length same.made) more)
