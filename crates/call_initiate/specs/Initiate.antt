-- INITIATE once its request is taken: the ceilings, then the number. Assumes nothing.
use Rattle.std.specs.Prelude.{ℕ, ◌≡◌, List, leb, length}
use Rattle.machine.specs.Map.{Map}
use Rattle.machine.specs.Names.{Bytes, last_upload_number}
use Rattle.machine.specs.State.{State, held, counted, with_upload, with_next}
use Rattle.machine.specs.Calls.{tableFull, arenaFull, numbersUsedUp, number, no_buffers, accept, Outcome, ◌else◌then◌}
use Rattle.machine.specs.Steps.{new_upload}
use Rattle.mem_layout.specs.Memory.{state_of}
use Rattle.call_contract.specs.Made.{result_of}

-- an upload opened with the pairs m
abbrev pub with_new : State → (stamp : ℕ) (path : Bytes) → Map Bytes Bytes → State
with_new s t p m = with_next (with_upload s s.N (new_upload t p m))

unfoldable pub open_at : (A : ℕ) → State → (stamp : ℕ) (path : Bytes) → Map Bytes Bytes → Outcome
open_at A s t p m =
    counted (with_new s t p m) else tableFull then
    leb (held (with_new s t p m)) A else arenaFull then
    leb s.N last_upload_number else numbersUsedUp then
    accept (number s.N) no_buffers (with_new s t p m)

-- r is its result, whatever the stamp and the path
abbrev pub OpenResult : (t a : List ℕ) → Map Bytes Bytes → (r : ℕ) → Type 0
OpenResult t a m r = (stamp : ℕ) (path : Bytes) → r ≡ result_of (open_at (length a) (state_of t a) stamp path m)
