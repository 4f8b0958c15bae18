-- What the function of one verb promises of a line. Assumes nothing.
use Rattle.std.specs.Prelude.{ℕ, ◌≡◌, cond}
use Rattle.std.proofs.Math.Option.{Option, none, some}
use Rattle.machine.specs.Names.{Bytes}
use Rattle.machine.specs.Calls.{Buffers, Reply, no_buffers}
use Rattle.call_contract.specs.Answers.{refused}
use Rattle.call_contract.specs.Made.{Memory, whole_memory, Made}
use Rattle.recording.specs.Entry.{Entry, call_of}

-- 1 for what is no store, and then n
unfoldable pub refusal_over : (n : ℕ) → Memory → ℕ
refusal_over n m = cond (whole_memory m) n 1

-- 9 for what is no line
abbrev pub not_a_line : Memory → ℕ
not_a_line = refusal_over 9

-- "Its results are those of the same calls made directly. A line that isn't such a form .. prints 9 and changes nothing."
-- `lent` are the buffers that the verb's function has.
pub record Replayed (o : Option Entry) (answer pairsAnswer : Bytes) (lent : Buffers) (m : Memory) (r : Reply) (m' : Memory) : Type 0 where
  pub form : (e : Entry) → o ≡ some e → Made (call_of answer pairsAnswer e) m r m'
  pub other : o ≡ none → (r ≡ refused (not_a_line m) lent) × (m' ≡ m)

-- of a verb that answers into no buffer, whatever the buffers are
abbrev pub ReplayedAlone : Option Entry → Memory → Reply → Memory → Type 0
ReplayedAlone o m r m' = (answer pairsAnswer : Bytes) → Replayed o answer pairsAnswer no_buffers m r m'
