-- How a call that changes nothing meets its contract. Assumes nothing.
use mathlib.Core.Path.{◌≡◌, refl}
use mathlib.Core.Bool.{Bool, true, false}
use mathlib.Core.List.{[]}
use lib.Dec.{leb}
use lib.ListN.{length}
use Rattle.machine.specs.Names.{Bytes}
use Rattle.machine.specs.State.{State}
use Rattle.machine.specs.Calls.{Call, Answer, buffers, Reply, accept, bufferShort, ◌else◌then◌, lent}
use Rattle.machine.specs.Steps.{write, reply_of, after}
use Rattle.mem_layout.specs.Memory.{Stands}
use Rattle.call_contract.specs.Made.{Memory, whole_memory, state_in, outcome, Made}
use Rattle.call_contract.proofs.MadeLaws.{over-whole}

-- it replies as the machine, whose state stays
pub reads : (k : Call) (m : Memory) (r : Reply) → whole_memory m ≡ true → Stands m.tables m.arena (state_in m) → after (state_in m) (outcome k m) ≡ state_in m
    → r ≡ reply_of (lent k) (outcome k m) → Made k m r m
reads k m r w h same e =
    over-whole w
    (record {
      answers = e;
      bytes = λ _. rw same h;
      tables-length = refl;
      arena-length = refl;
      refusal = λ _. refl;
    })

-- the state stays where bytes are written to the answer buffer
pub write_keeps : (x : Answer) (out b : Bytes) (s : State) → after s (write x out b s) ≡ s
unfolding ◌else◌then◌
write_keeps x out b s = go (leb (length out) (length b))
  where
    go : (fits : Bool) → after s (fits else bufferShort then accept x (buffers out []) s) ≡ s
    go true = refl
    go false = refl
