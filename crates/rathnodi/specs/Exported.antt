-- What the functions that C calls give to it, over the calls of the store. Assumes nothing.
use Rattle.std.specs.Prelude.{ℕ, ◌≡◌, cond, eqb, length}
use Rattle.machine.specs.Names.{Bytes}
use Rattle.machine.specs.Calls.{Call, Buffers, no_buffers, Reply, nothing, lent}
use Rattle.call_contract.specs.Answers.{refused}
use Rattle.call_contract.specs.Made.{Memory, meant_reply, Made}
use Rattle.c_reply.specs.Reply.{reply_length, reply_after}

-- a call without a reply slice answers its number alone, with what its answer buffers then hold
abbrev pub numbered_with : ℕ → Buffers → Reply
numbered_with n b = record { result = n; answer = nothing; buffers = b }

-- the same of a call without answer buffers
abbrev pub numbered : ℕ → Reply
numbered n = numbered_with n no_buffers

-- a call with a reply slice that holds o: "another length there gives 1", before all else; with 48 bytes, what the call answers
unfoldable pub answer_with : Call → Memory → (o : Bytes) → Reply
answer_with k m o = cond (eqb (length o) reply_length) (meant_reply k m) (refused 1 (lent k))

-- Call k, lent memory m and a reply slice that held o, returned n and left the answer buffers b', the reply slice o' and memory m'.
pub record Exported (k : Call) (m : Memory) (o : Bytes) (n : ℕ) (b' : Buffers) (o' : Bytes) (m' : Memory) : Type 0 where
  pub number : n ≡ (answer_with k m o).result
  pub buffer : b' ≡ (answer_with k m o).buffers
  pub reply : o' ≡ reply_after (answer_with k m o) o
  -- with 48 bytes the call is made
  pub made : length o ≡ reply_length → Made k m (meant_reply k m) m'
  -- with another length every byte of memory is as it was
  pub kept : (length o ≡ reply_length → ⊥) → m' ≡ m
