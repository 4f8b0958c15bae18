-- Document 02, E3: SWEEP beside its single ABORT calls. Assumes nothing.
use Rattle.std.specs.Prelude.{ℕ, min, ◌≡◌, true, false, List, [], ◌∷◌, map, ltb, length}
use Rattle.machine.specs.State.{State, fresh}
use Rattle.machine.specs.Calls.{Call, ABORT, SWEEP, nothing, swept, no_buffers}
use Rattle.machine.specs.Steps.{due, to_sweep, reply, next}
use Rattle.machine.specs.Lists.{Trace, trace, final}
use Rattle.machine.specs.Valid.{Valid}
use Rattle.machine.specs.Demand3.{accepted}
use Rattle.machine.specs.InPlace.{SameInPlace}

-- "those single ABORT calls"
abbrev pub single_aborts : List ℕ → List Call
single_aborts us = map ABORT us

-- every call of a trace is accepted
abbrev pub AllAccepted : Trace → Type 0
AllAccepted [] = Unit {0}
AllAccepted (e ∷ t) = (accepted e.1 ≡ true) × AllAccepted t

-- SWEEP from any state, beside its single ABORTs.
pub record AsAborts (A : ℕ) (s : State) (t n : ℕ) : Type 0 where
  -- "The store afterwards is as after those single ABORT calls"
  pub state : accepted (reply A s (SWEEP t n)) ≡ true → next A s (SWEEP t n) ≡ final A s (single_aborts (to_sweep t n s.U))
  -- "It answers how many it aborted and whether more are due. The count is the smaller of n and the number due"
  pub replies : accepted (reply A s (SWEEP t n)) ≡ true
      → reply A s (SWEEP t n) ≡ record { result = 0; answer = swept (min n (length (due t s.U))) (ltb n (length (due t s.U))); buffers = no_buffers }
  -- it aborts so many: there are so many single ABORTs, and in a valid state each is accepted
  pub count : length (to_sweep t n s.U) ≡ min n (length (due t s.U))
  pub each-accepted : Valid A s → AllAccepted (trace A s (single_aborts (to_sweep t n s.U)))
  -- "a reader sees no object change"
  pub objects : (next A s (SWEEP t n)).O ≡ s.O
  -- "A stamp of 0 is a bad request": refused, it changes nothing
  pub refused : accepted (reply A s (SWEEP t n)) ≡ false → (next A s (SWEEP t n) ≡ s) × (reply A s (SWEEP t n) ≡ record { result = 2; answer = nothing; buffers = no_buffers })

-- "also amid any list of calls": where it is accepted, its single ABORTs may stand in its place
abbrev pub SweptAmidAnyList : (A : ℕ) (before : List Call) (t n : ℕ) (later : List Call) → Type 0
SweptAmidAnyList A before t n later =
    accepted (reply A (final A fresh before) (SWEEP t n)) ≡ true →
    SameInPlace A before (SWEEP t n) (single_aborts (to_sweep t n (final A fresh before).U)) later
