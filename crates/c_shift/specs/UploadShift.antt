-- What a caller knows after FRESH and the calls on an upload alone. Assumes nothing.
use Rattle.std.specs.Prelude.{ℕ, ◌≡◌, length, Result, Ok, Err}
use Rattle.machine.specs.Names.{Bytes}
use Rattle.call_contract.specs.Made.{Memory, fresh_result}
use Rattle.store_history.specs.Demand3.{Demand3}
use Rattle.c_shift.specs.declared.Weighed.{Weighed}
use Rattle.c_history.specs.Events.{heard}
use Rattle.c_shift.specs.Shift.{weigh_events}

-- FRESH refused by a number that is not 0, and nothing changed; or what C heard of the list is as demand 3 says
abbrev pub Concluded : (m : Memory) (stamp : ℕ) (path pairs content list : Bytes) → Result Weighed ℕ → (opened sent answer counts : Bytes) → (opened' sent' answer' counts' : Bytes) → (m' : Memory) → Type 0
Concluded m stamp path pairs content list (Err n) opened sent buffer counts opened' sent' buffer' counts' m' =
    (n ≡ 0 → ⊥) × (n ≡ fresh_result m) × (m' ≡ m) × (opened' ≡ opened) × (sent' ≡ sent) × (buffer' ≡ buffer) × (counts' ≡ counts)
Concluded m stamp path pairs content list (Ok n) opened sent buffer counts opened' sent' buffer' counts' m' =
    Demand3 (length m.arena) (heard (weigh_events stamp path pairs content list n opened sent buffer counts opened' sent' buffer' counts')) m'
