-- What the code reads at a path is what the last accepted call that writes it left there. Assumes nothing.
use Rattle.std.specs.Prelude.{ℕ, ◌≡◌}
use Rattle.machine.specs.Map.{Map}
use Rattle.machine.specs.Names.{Bytes}
use Rattle.machine.specs.State.{Object}
use Rattle.machine.specs.Calls.{GET, HEAD, LIST, Reply}
use Rattle.machine.specs.Lists.{Trace}
use Rattle.machine_consistency.specs.LastWrites.{last_write}
use Rattle.machine_consistency.specs.Shown.{get_shows, head_shows, list_shows, Objects, ReadsLastWrites}
use Rattle.machine_consistency.specs.Origins.{origin}
use Rattle.call_contract.specs.Made.{Memory, state_in, Made}
use Rattle.store_history.specs.Runs.{FromFresh}

-- GET and HEAD of this path answer the same, whether they are made over the one memory or over the other
pub record SameAt (p : Bytes) (m m₂ : Memory) : Type 0 where
  pub get : (b k : Bytes) (r r₂ : Reply) (n n₂ : Memory) → Made (GET p b k) m r n → Made (GET p b k) m₂ r₂ n₂ → r₂ ≡ r
  pub head : (k : Bytes) (r r₂ : Reply) (n n₂ : Memory) → Made (HEAD p k) m r n → Made (HEAD p k) m₂ r₂ n₂ → r₂ ≡ r

-- The run from FRESH with calls and answers t, which leaves memory m.
pub record Consistent (A : ℕ) (t : Trace) (m : Memory) : Type 0 where
  -- in that memory stands at each path what its last write left there
  pub objects : Objects t (state_in m).O
  -- each GET, HEAD and LIST of the run shows the last writes before it
  pub reads : ReadsLastWrites t
  -- and so does one that is made next
  pub get : (p b k : Bytes) (r : Reply) (m' : Memory) → Made (GET p b k) m r m' → r ≡ get_shows p b k (last_write p t)
  pub head : (p k : Bytes) (r : Reply) (m' : Memory) → Made (HEAD p k) m r m' → r ≡ head_shows p k (last_write p t)
  pub list : (prefix suffix b : Bytes) (r : Reply) (m' : Memory) → Made (LIST prefix suffix b) m r m'
      → (o : Map Bytes Object) × Objects t o × (r ≡ list_shows prefix suffix b o)
  -- what is read at a path comes of its origin alone: another run from FRESH, over any arena, in which the path has the same origin, reads the
  -- same there, whatever else was called
  pub same-origin : (A₂ : ℕ) (t₂ : Trace) (m₂ : Memory) → FromFresh A₂ t₂ m₂ → (p : Bytes) → origin p t₂ ≡ origin p t → SameAt p m m₂
