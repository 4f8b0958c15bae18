-- What the replay of a line promises. Assumes nothing.
use Rattle.std.specs.Prelude.{ℕ, ◌≡◌, length}
use Rattle.std.proofs.Math.Option.{Option, none, some}
use Rattle.machine.specs.Names.{Bytes}
use Rattle.machine.specs.Calls.{Call, Buffers, Reply}
use Rattle.machine.specs.Steps.{written}
use Rattle.call_contract.specs.Made.{Memory, Made}
use Rattle.c_reply.specs.Reply.{reply_length, reply_after}
use Rattle.recording.specs.Entry.{Entry, call_of}
use Rattle.recording.specs.Parse.{entry_of}
use Rattle.recording_line.specs.Replayed.{not_a_line}

-- Call k was made, lent both answer buffers b and a reply o of 48 bytes, of which it may have none, some or all: n is its result. A buffer
-- holds what the call wrote, and past that what it held; the reply is the call's, all 0 where it has none, and a refusal leaves it.
pub record CallDone (k : Call) (b : Buffers) (m : Memory) (o : Bytes) (n : ℕ) (b' : Buffers) (o' : Bytes) (m' : Memory) : Type 0 where
  pub reply : Reply
  pub made : Made k m reply m'
  pub result : n ≡ reply.result
  pub held : b' ≡ written reply.buffers b
  pub told : o' ≡ reply_after reply o

-- The call of the entry, or no entry: "A line that isn't such a form .. prints 9 and changes nothing", after 1.
pub record LineDone (e : Option Entry) (b : Buffers) (m : Memory) (o : Bytes) (n : ℕ) (b' : Buffers) (o' : Bytes) (m' : Memory) : Type 0 where
  pub form : (x : Entry) → e ≡ some x → CallDone (call_of b.answer b.pairs x) b m o n b' o' m'
  pub other : e ≡ none → (n ≡ not_a_line m) × (b' ≡ b) × (o' ≡ o) × (m' ≡ m)

-- The line l: a reply of another length gives 1, before all else, and nothing changes.
pub record LineReplayed (l : Bytes) (b : Buffers) (m : Memory) (o : Bytes) (n : ℕ) (b' : Buffers) (o' : Bytes) (m' : Memory) : Type 0 where
  pub done : length o ≡ reply_length → LineDone (entry_of l) b m o n b' o' m'
  pub another : (length o ≡ reply_length → ⊥) → (n ≡ 1) × (b' ≡ b) × (o' ≡ o) × (m' ≡ m)
