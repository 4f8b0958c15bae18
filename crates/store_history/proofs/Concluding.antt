-- What a caller concludes once FRESH answered 0 and its calls were made. Assumes nothing.
use Prim.Native.Nat.{ℕ}
use mathlib.Core.Path.{◌≡◌, refl, ◌∙◌, subst}
use lib.ListN.{length}
use Rattle.machine.specs.Names.{Bytes}
use Rattle.machine.specs.Calls.{Buffers}
use Rattle.machine.specs.Lists.{Trace}
use Rattle.call_contract.specs.Made.{Memory, fresh_result, MadeFresh}
use Rattle.call_contract.proofs.MadeLaws.{refusal-not-zero}
use Rattle.std.specs.Prelude.{Result, Ok, Err}
use Rattle.call_types.specs.declared.Refusal.{Refusal}
use Rattle.store_history.specs.declared.batch.Batch.{Batch}
use Rattle.store_history.specs.Runs.{Run}
use Rattle.store_history.specs.Demand3.{Demand3}
use Rattle.store_history.specs.Batch.{Ran, Concluded}
use Rattle.store_history.proofs.Demand3.{demand3}

pub conclude : (m m₀ m' : Memory) (n : ℕ) (t : Trace) → MadeFresh m n m₀ → n ≡ 0 → Run t m₀ m' → Demand3 (length m.arena) t m'
conclude m m₀ m' n t made z run =
    demand3 (length m.arena) t m' (record { lent = m; start = m₀; arena = refl; fresh = subst (λ (k : ℕ). MadeFresh m k m₀) z made; run = run })

-- the list runs wherever FRESH accepts
pub accepted-runs : (m : Memory) (stamp : ℕ) (path pairs one two : Bytes) (early late : Buffers) (a : Result Batch Refusal) (early' late' : Buffers) (m' : Memory)
    → fresh_result m ≡ 0 → Concluded m stamp path pairs one two early late a early' late' m' → Ran a
accepted-runs m stamp path pairs one two early late (Err r) early' late' m' z h = absurd (refusal-not-zero r (h.1 ∙ z))
accepted-runs m stamp path pairs one two early late (Ok b) early' late' m' z h = tt
