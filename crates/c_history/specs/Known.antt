-- All that a C program knows of its list of calls from FRESH. Assumes nothing.
use Rattle.std.specs.Prelude.{ℕ, ◌≡◌, ◌&&◌, cond, List, [], ◌∷◌, eqb, length}
use Rattle.std.proofs.Math.Option.{none}
use Rattle.machine.specs.Map.{is_some}
use Rattle.machine.specs.Calls.{lent}
use Rattle.call_contract.specs.Made.{Memory}
use Rattle.store_history.specs.Demand3.{Demand3}
use Rattle.store_history.specs.LastWrites.{Consistent}
use Rattle.c_reply.specs.Reply.{reply_length}
use Rattle.recording.specs.Parse.{entry_of}
use Rattle.c_history.specs.Events.{Event, alone, replied, line, heard}
use Rattle.c_history.specs.Lists.{CFromFresh}

-- the calls of a list that are made: all but those with a reply of another length, and lines that say no call
unfoldable pub made_of : List Event → List Event
made_of [] = []
made_of (alone k n b ∷ es) = alone k n b ∷ made_of es
made_of (replied k o n b o' ∷ es) = cond (eqb (length o) reply_length) (replied k o n b o' ∷ made_of es) (made_of es)
made_of (line l b o n b' o' ∷ es) = cond (is_some (entry_of l) && eqb (length o) reply_length) (line l b o n b' o' ∷ made_of es) (made_of es)

-- each of the others returned 1, or a line that says no call 9, and left its answer buffers and its reply as they were
unfoldable pub OthersLeave : List Event → Type 0
OthersLeave [] = Unit {0}
OthersLeave (alone k n b ∷ es) = OthersLeave es
OthersLeave (replied k o n b o' ∷ es) = ((length o ≡ reply_length → ⊥) → (n ≡ 1) × (b ≡ lent k) × (o' ≡ o)) × OthersLeave es
OthersLeave (line l b o n b' o' ∷ es) =
    ((length o ≡ reply_length → ⊥) → (n ≡ 1) × (b' ≡ b) × (o' ≡ o))
    × (entry_of l ≡ none → ((n ≡ 9 → ⊥) → n ≡ 1) × (b' ≡ b) × (o' ≡ o))
    × OthersLeave es

-- The calls es after FRESH over an arena of length A, which left memory m.
pub record Known (A : ℕ) (es : List Event) (m : Memory) : Type 0 where
  -- what C heard is as demand 3 says, and what it reads at a path is what the last accepted write left there
  pub demand3 : Demand3 A (heard es) m
  pub consistent : Consistent A (heard es) m
  -- a call with a reply of another length, or a line that says none, left its slices, and every byte of memory: without these memory m is left too
  pub others : OthersLeave es
  pub without-others : CFromFresh A (made_of es) m
