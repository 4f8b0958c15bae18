-- Free bytes show in no answer and in no state. Assumes nothing.
use mathlib.Core.Path.{◌≡◌, sym, ◌∙◌}
use Rattle.machine.specs.State.{State}
use Rattle.machine.specs.Calls.{Call, Reply}
use Rattle.mem_layout.specs.Memory.{Stands}
use Rattle.mem_layout.proofs.StandsLaws.{stands-state, stands-whole}
use Rattle.mem_layout.specs.FreeBytes.{SameButFree}
use Rattle.mem_layout.proofs.FreeBytes.{free_bytes}
use Rattle.call_contract.specs.Made.{Memory, state_in, meant_reply, meant_state, Made}

module _ (k : Call) (m m' : Memory) (s : State) (h : Stands m.tables m.arena s) (f : SameButFree s m.tables m.arena m'.tables m'.arena) where
  again : Stands m'.tables m'.arena s
  again = free_bytes m.tables m.arena m'.tables m'.arena s h f

  same-reply : meant_reply k m' ≡ meant_reply k m
  unfolding meant_reply
  same-reply = rw (stands-whole _ _ s h, stands-whole _ _ s again, stands-state _ _ s h, stands-state _ _ s again, f.arena-length)

  same-state : meant_state k m' ≡ meant_state k m
  unfolding meant_state
  same-state = rw (stands-whole _ _ s h, stands-whole _ _ s again, stands-state _ _ s h, stands-state _ _ s again, f.arena-length)

  -- a call over memory that differs in free bytes alone answers the same, and leaves memory that stands for the same state
  pub free-bytes-unseen : (r r' : Reply) (n n' : Memory) → Made k m r n → Made k m' r' n' → (r' ≡ r) × (state_in n' ≡ state_in n)
  free-bytes-unseen r r' n n' made made' =
      (made'.answers ∙ same-reply ∙ sym made.answers, made'.state ∙ same-state ∙ sym made.state)
