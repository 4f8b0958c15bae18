-- A caller's list of calls, with what they answered, and what demand 3 says of it. Assumes nothing.
use Rattle.std.specs.Prelude.{ℕ, ◌≡◌, [], ◌∷◌, length, Result, Ok, Err}
use Rattle.machine.specs.Names.{Bytes}
use Rattle.machine.specs.Pairs.{pair_list}
use Rattle.machine.specs.Calls.{GET, INITIATE, PART, COMMIT, Buffers}
use Rattle.machine.specs.Lists.{Trace}
use Rattle.call_types.specs.declared.Refusal.{Refusal}
use Rattle.call_types.specs.Numbers.{number_of}
use Rattle.call_contract.specs.Answers.{done_reply, get_reply, part_reply, initiate_reply}
use Rattle.call_contract.specs.Made.{Memory, fresh_result}
use Rattle.store_history.specs.declared.batch.Batch.{Batch}
use Rattle.store_history.specs.Demand3.{Demand3}

-- INITIATE, two PARTs, GET, COMMIT of part 2 before part 1, GET; the answer buffers of each GET before and after it
unfoldable pub batch_trace : (stamp : ℕ) (path pairs one two : Bytes) (early late : Buffers) → Batch → (early' late' : Buffers) → Trace
batch_trace stamp path pairs one two early late b early' late' =
    (INITIATE stamp path (pair_list pairs), initiate_reply b.opened)
    ∷ (PART 1 1 one, part_reply b.first)
    ∷ (PART 1 2 two, part_reply b.second)
    ∷ (GET path early.answer early.pairs, get_reply b.early early')
    ∷ (COMMIT 1 (2 ∷ 1 ∷ []), done_reply b.committed)
    ∷ (GET path late.answer late.pairs, get_reply b.late late')
    ∷ []

-- FRESH refused by a number that is not 0, and nothing changed; or the list ran as demand 3 says
abbrev pub Concluded : (m : Memory) (stamp : ℕ) (path pairs one two : Bytes) (early late : Buffers) → Result Batch Refusal → (early' late' : Buffers) → (m' : Memory) → Type 0
Concluded m stamp path pairs one two early late (Err r) early' late' m' = (number_of r ≡ 0 → ⊥) × (number_of r ≡ fresh_result m) × (m' ≡ m) × (early' ≡ early) × (late' ≡ late)
Concluded m stamp path pairs one two early late (Ok b) early' late' m' = Demand3 (length m.arena) (batch_trace stamp path pairs one two early late b early' late') m'

-- the answer is that of a list that ran
abbrev pub Ran : Result Batch Refusal → Type 0
Ran (Err r) = ⊥
Ran (Ok b) = Unit {0}
