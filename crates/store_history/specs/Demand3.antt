-- Demand 3, of the code: what every run from FRESH keeps to. Assumes nothing.
use Rattle.std.specs.Prelude.{ℕ, ◌≡◌, true, List, [], ◌∷◌, ◌++◌}
use Rattle.machine.specs.State.{fresh}
use Rattle.machine.specs.Calls.{COMMIT, Reply}
use Rattle.machine.specs.Lists.{Trace, trace, final}
use Rattle.machine.specs.Demand3.{accepted, Leaves, calls, without, NeverCommitted, NoCommitAccepted, NeverFull, seen}
use Rattle.mem_layout.specs.Memory.{Stands}
use Rattle.call_contract.specs.Made.{Memory, whole_memory, state_in}
use Rattle.store_history.specs.Runs.{Run, FromFresh}

-- Where the run came to this COMMIT: the memory that it left, from which the run goes on to m, and what stands at the upload's path there.
pub record Committed (A : ℕ) (before : Trace) (u : ℕ) (ns : List ℕ) (r : Reply) (later : Trace) (m : Memory) : Type 0 where
  pub left : Memory
  pub reached : FromFresh A (before ++ (COMMIT u ns, r) ∷ []) left
  pub goes_on : Run later left m
  pub leaves : Leaves A before u ns (state_in left)

-- The run from FRESH with calls and answers t, which leaves memory m.
pub record Demand3 (A : ℕ) (t : Trace) (m : Memory) : Type 0 where
  -- Demand 3: "all answers, all answer buffers and the final state equal those of document 01's machine"
  pub answers : t ≡ trace A fresh (calls t)
  pub state : state_in m ≡ final A fresh (calls t)
  -- "Memory that a list of calls from FRESH leaves is whole", and is that state's encoding, followed by free bytes
  pub is_whole : whole_memory m ≡ true
  pub bytes : Stands m.tables m.arena (final A fresh (calls t))
  -- "Every accepted COMMIT leaves at its path, joined in listed order, for each part the bytes of the last accepted PART before it with that
  -- upload and part number."
  pub commits-join : (before later : Trace) (u : ℕ) (ns : List ℕ) (r : Reply) → t ≡ before ++ (COMMIT u ns, r) ∷ later → accepted r ≡ true
      → Committed A before u ns r later m
  -- "For every upload that no COMMIT of the list names, the list without that upload's PART calls gives every GET, HEAD and LIST the same
  -- answer and buffer, if no call of either list is refused by 4 or 5": t₂ is any run of that other list.
  pub parts-unseen : (u : ℕ) (t₂ : Trace) (m₂ : Memory) → FromFresh A t₂ m₂ → calls t₂ ≡ without u (calls t)
      → NeverCommitted u (calls t) → NeverFull t → NeverFull t₂ → seen t₂ ≡ seen t
  -- the same of an upload that no accepted COMMIT of either run names
  pub parts-unseen-unless-committed : (u : ℕ) (t₂ : Trace) (m₂ : Memory) → FromFresh A t₂ m₂ → calls t₂ ≡ without u (calls t)
      → NoCommitAccepted u t → NoCommitAccepted u t₂ → NeverFull t → NeverFull t₂ → seen t₂ ≡ seen t
