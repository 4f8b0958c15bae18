-- The food auditor's two questions, in terms of runs. Assumes nothing.
use Rattle.std.specs.Prelude.{ℕ, ◌≡◌, Bool, true, false, List, [], ◌∷◌, ◌++◌, eqb}
use Rattle.std.proofs.Math.Option.{none, some}
use Rattle.machine.specs.Map.{is_some, by_number, lookup}
use Rattle.machine.specs.State.{Upload, State}
use Rattle.machine.specs.Calls.{Call, PUT, GET, HEAD, DELETE, COPY, LIST, INITIATE, PART, COMMIT, ABORT, UPLOADS, DELETE-OBJECTS, SWEEP, Reply}
use Rattle.machine.specs.Steps.{next}
use Rattle.machine.specs.Lists.{Trace}
use Rattle.machine.specs.Demand3.{kind, is_look, accepted}
use Rattle.machine_consistency.specs.LastWrites.{change}
use Rattle.call_contract.specs.Made.{Memory, Made}
use Rattle.store_history.specs.Demand3.{Committed}

-- "Can a batch record be read before its last weighing is committed?" -----------------------------------------------------

-- the calls that set or remove an object: PUT, DELETE, COPY, COMMIT and DELETE_OBJECTS; INITIATE, PART, ABORT and SWEEP do not
abbrev pub changes_objects : Call → Bool
changes_objects c = is_some (change c)

-- no call of the run sets or removes an object
abbrev pub ChangesNone : Trace → Type 0
ChangesNone [] = Unit {0}
ChangesNone (e ∷ t) = (changes_objects e.0 ≡ false) × ChangesNone t

-- whatever is read by GET, HEAD or LIST is the same, whether it is read over the one memory or over the other
unfoldable pub SameReads : Memory → Memory → Type 0
SameReads m m' = (c : Call) (r r' : Reply) (n n' : Memory) → is_look (kind c) ≡ true → Made c m r n → Made c m' r' n' → r' ≡ r

-- "Can weighings of an aborted upload turn up in a later record?" ----------------------------------------------------------

-- the call is a PART, a COMMIT or an ABORT of the upload
abbrev pub names : (upload : ℕ) → Call → Bool
names u (PUT t p d ps) = false
names u (GET p b k) = false
names u (HEAD p k) = false
names u (DELETE p) = false
names u (COPY t p q) = false
names u (LIST prefix suffix b) = false
names u (INITIATE t p ps) = false
names u (PART v n d) = eqb u v
names u (COMMIT v ns) = eqb u v
names u (ABORT v) = eqb u v
names u (UPLOADS prefix b) = false
names u (DELETE-OBJECTS ns ps left_over b) = false
names u (SWEEP t n) = false

-- every call that names the upload is refused, by 2
abbrev pub Shut : (upload : ℕ) → Trace → Type 0
Shut u [] = Unit {0}
Shut u (e ∷ t) = (names u e.0 ≡ true → e.1.result ≡ 2) × Shut u t

-- the call c ends upload u: it is open in the state s, and not after c, which is its ABORT, its COMMIT, or a SWEEP that aborts it
abbrev pub Ends : (A : ℕ) → State → Call → (upload : ℕ) → Type 0
Ends A s c u = (x : Upload) × (lookup by_number u s.U ≡ some x) × (lookup by_number u (next A s c).U ≡ none)

-- What the call c with reply r, after which upload u is gone, means for the rest of the run, which leaves memory m: the upload is shut, and every
-- COMMIT that is accepted later names another upload and joins the parts that were sent to that one.
pub record StaysOut (A : ℕ) (before : Trace) (c : Call) (u : ℕ) (r : Reply) (later : Trace) (m : Memory) : Type 0 where
  pub shut : Shut u later
  pub records : (between after : Trace) (v : ℕ) (ns : List ℕ) (q : Reply) → later ≡ between ++ (COMMIT v ns, q) ∷ after → accepted q ≡ true
      → (v ≡ u → ⊥) × Committed A (before ++ (c, r) ∷ between) v ns q after m
