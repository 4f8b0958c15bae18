-- Document 02, E1: DELETE_OBJECTS beside its single DELETE calls. Assumes nothing.
use Rattle.std.specs.Prelude.{ℕ, ◌+◌, ◌≡◌, true, false, cond, List, [], ◌++◌, map, leb, length, take, drop}
use Rattle.machine.specs.Names.{Bytes}
use Rattle.machine.specs.State.{State, fresh}
use Rattle.machine.specs.Calls.{Call, DELETE, DELETE-OBJECTS, NamePlace, nothing, buffers, Reply}
use Rattle.machine.specs.Steps.{reply, next}
use Rattle.machine.specs.Lists.{Trace, trace, final}
use Rattle.machine.specs.Demand3.{accepted}
use Rattle.machine.specs.InPlace.{SameInPlace}

-- the path of a place: the name that is there; "A place outside the name buffer has result 2", as DELETE of the empty path has
abbrev pub name_at : (names : Bytes) → NamePlace → Bytes
name_at names p = cond (leb (p.start + p.length) (length names)) (take p.length (drop p.start names)) []

-- "its single deletes": "that many DELETE calls in that sequence"
abbrev pub single_deletes : (names : Bytes) → List NamePlace → List Call
single_deletes names ps = map (λ (p : NamePlace). DELETE (name_at names p)) ps

-- the result numbers of a trace
abbrev pub results_of : Trace → Bytes
results_of t = map (λ (e : Call × Reply). e.1.result) t

-- DELETE_OBJECTS from any state, beside its single deletes.
pub record AsDeletes (A : ℕ) (s : State) (names : Bytes) (ps : List NamePlace) (left_over : ℕ) (results : Bytes) : Type 0 where
  -- "accepted, it is to the machine its single deletes"
  pub state : accepted (reply A s (DELETE-OBJECTS names ps left_over results)) ≡ true → next A s (DELETE-OBJECTS names ps left_over results) ≡ final A s (single_deletes names ps)
  -- "One result number per place, a byte each, goes into a lent buffer"; bytes past them do not change
  pub replies : accepted (reply A s (DELETE-OBJECTS names ps left_over results)) ≡ true → reply A s (DELETE-OBJECTS names ps left_over results)
      ≡ record { result = 0; answer = nothing; buffers = buffers (results_of (trace A s (single_deletes names ps)) ++ drop (length ps) results) [] }
  -- "refused, it changes nothing"
  pub refused : accepted (reply A s (DELETE-OBJECTS names ps left_over results)) ≡ false →
      (next A s (DELETE-OBJECTS names ps left_over results) ≡ s) × ((reply A s (DELETE-OBJECTS names ps left_over results)).buffers ≡ buffers results [])

-- "The lists of calls that demand 3 speaks of now include this call": where it is accepted amid a list, its single deletes may stand in its
-- place.
abbrev pub AmidAnyList : (A : ℕ) (before : List Call) (names : Bytes) (ps : List NamePlace) (left_over : ℕ) (results : Bytes) (later : List Call) → Type 0
AmidAnyList A before names ps left_over results later =
    accepted (reply A (final A fresh before) (DELETE-OBJECTS names ps left_over results)) ≡ true →
    SameInPlace A before (DELETE-OBJECTS names ps left_over results) (single_deletes names ps) later
