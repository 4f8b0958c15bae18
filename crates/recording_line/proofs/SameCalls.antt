-- Two calls that come to the same: where one was made, so was the other. Assumes nothing.
use mathlib.Core.Path.{◌≡◌, subst, ◌∙◌}
use mathlib.Core.Bool.{true}
use lib.ListN.{length}
use Rattle.machine.specs.Calls.{Call, Reply, lent}
use Rattle.machine.specs.Steps.{act}
use Rattle.mem_layout.specs.Memory.{Stands}
use Rattle.call_contract.specs.Made.{Memory, whole_memory, state_in, meant_reply, meant_state, Made}
use Rattle.recording.proofs.Readers.{by-test}

module _ (k k' : Call) (m : Memory) (same-lent : lent k ≡ lent k') (same-act : whole_memory m ≡ true → act (length m.arena) (state_in m) k ≡ act (length m.arena) (state_in m) k') where
  same-reply : meant_reply k m ≡ meant_reply k' m
  unfolding meant_reply
  same-reply = by-test (whole_memory m) (λ w. rw (w, same-act w, same-lent)) (λ w. rw (w, same-lent))

  same-state : meant_state k m ≡ meant_state k' m
  unfolding meant_state
  same-state = by-test (whole_memory m) (λ w. rw (w, same-act w)) (λ w. rw w)

  pub same-made : (r : Reply) (m' : Memory) → Made k m r m' → Made k' m r m'
  same-made r m' d = record {
    answers = d.answers ∙ same-reply;
    state = d.state ∙ same-state;
    keeps-whole = d.keeps-whole;
    bytes = λ z. subst (Stands m'.tables m'.arena) same-state (d.bytes z);
    tables-length = d.tables-length;
    arena-length = d.arena-length;
    refusal = d.refusal;
  }
