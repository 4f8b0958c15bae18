-- COMMIT: its refusals in checking order, and what it leaves. Assumes nothing.
use Prim.Native.Nat.{ℕ}
use mathlib.Core.Path.{◌≡◌, refl, sym, ap, ◌∙◌, subst}
use mathlib.Core.Bool.{Bool, true, false, cond}
use mathlib.Core.List.{List}
use mathlib.Core.Option.{some}
use lib.ListN.{length}
use Rattle.base_number.specs.Number.{AreBytes}
use Rattle.machine.specs.Map.{is_some, by_number, lookup}
use Rattle.machine.specs.Names.{Bytes}
use Rattle.machine.specs.State.{Object, Part, Upload, State, counted, with_object, without_upload}
use Rattle.machine.specs.Valid.{Valid}
use Rattle.machine.specs.Calls.{COMMIT, nothing, no_buffers, accept, badRequest, tableFull, Outcome, ◌else◌then◌, given}
use Rattle.machine.specs.Steps.{take_listed, joined_object, act, after}
use Rattle.machine.specs.ListFits.{list_fits, listed_parts}
use Rattle.machine.proofs.ListFits.{given-fit}
use Rattle.machine.proofs.KeepsValid.{next-valid}
use Rattle.mem_layout.specs.Memory.{whole, state_of}
use Rattle.mem_layout.proofs.WholeLaws.{whole-stands}
use Rattle.mem_find.specs.declared.Lookup.{Lookup}
use Rattle.mem_find.specs.Places.{upload_place}
use Rattle.mem_find.proofs.Found.{is-some, is_none}
use Rattle.machine.specs.PartLists.{part_list}
use Rattle.call_contract.specs.Made.{Memory, memory, state_in, outcome, result_of}
use Rattle.call_contract.proofs.Judging.{result-pass, result-stop, result-last, passed, result-found, result-missing, was-found}
use Rattle.mem_join.specs.declared.Bounds.{Bounds}
use Rattle.mem_join.specs.Joined.{Listed, joined_state, JoinPlaced, Joinable}
use Rattle.call_commit.proofs.Fitting.{upload-ok}

-- The checks -----------------------------------------------------------------------------------------------------------

-- the state with the parts joined and the upload gone
abbrev joined_at : State → ℕ → Upload → List Part → State
joined_at s u x xs = without_upload (with_object s x.path (joined_object x xs)) u

-- what is left of COMMIT for an open upload, and for parts that fit
join_in : State → ℕ → Upload → List Part → Outcome
join_in s u x xs = counted (joined_at s u x xs) else tableFull then accept nothing no_buffers (joined_at s u x xs)

commit_in : State → ℕ → List ℕ → Upload → Outcome
commit_in s u ns x = given (take_listed ns x.parts) badRequest (join_in s u x)

module _ (m : Memory) (u : ℕ) (ns : List ℕ) where
  act-is : outcome (COMMIT u ns) m ≡ given (lookup by_number u (state_in m).U) badRequest (commit_in (state_in m) u ns)
  unfolding outcome act commit_in join_in
  act-is = refl

  not-open : is_some (lookup by_number u (state_in m).U) ≡ false → 2 ≡ result_of (outcome (COMMIT u ns) m)
  not-open e = sym (ap result_of act-is ∙ result-missing (lookup by_number u (state_in m).U) badRequest (commit_in (state_in m) u ns) (is_none _ e))

  module _ (v : Valid (length m.arena) (state_in m)) (x : Upload) (f : lookup by_number u (state_in m).U ≡ some x) where
    open_is : result_of (outcome (COMMIT u ns) m) ≡ result_of (list_fits ns x.parts else badRequest then join_in (state_in m) u x (listed_parts x.parts ns))
    unfolding commit_in
    open_is =
        ap result_of act-is
        ∙ result-found (lookup by_number u (state_in m).U) badRequest (commit_in (state_in m) u ns) x f
        ∙ ap result_of (given-fit ns x.parts badRequest (join_in (state_in m) u x) (upload-ok (length m.arena) (state_in m) v u x f).sorted)

    not-fit : list_fits ns x.parts ≡ false → 2 ≡ result_of (outcome (COMMIT u ns) m)
    not-fit e = sym (open_is ∙ result-stop (list_fits ns x.parts) badRequest (join_in (state_in m) u x (listed_parts x.parts ns)) e)

    fit-judged : list_fits ns x.parts ≡ true → (r : ℕ) → ((y : Object) → r ≡ cond (counted (without_upload (with_object (state_in m) x.path y) u)) 0 4) → r ≡ result_of (outcome (COMMIT u ns) m)
    unfolding join_in
    fit-judged e r is =
        let xs = listed_parts x.parts ns in
        is (joined_object x xs)
        ∙ sym (open_is ∙ result-pass (list_fits ns x.parts) badRequest (join_in (state_in m) u x xs) e ∙ result-last (counted (joined_at (state_in m) u x xs)) tableFull nothing no_buffers (joined_at (state_in m) u x xs))

  -- result 0: all checks were passed
  module _ (zero-result : result_of (outcome (COMMIT u ns) m) ≡ 0) where
    first : (x : Upload) × (lookup by_number u (state_in m).U ≡ some x) × (given (lookup by_number u (state_in m).U) badRequest (commit_in (state_in m) u ns) ≡ commit_in (state_in m) u ns x)
    first = was-found (lookup by_number u (state_in m).U) badRequest (commit_in (state_in m) u ns) (sym (ap result_of act-is) ∙ zero-result)

    second : (xs : List Part) × (take_listed ns first.0.parts ≡ some xs) × (commit_in (state_in m) u ns first.0 ≡ join_in (state_in m) u first.0 xs)
    unfolding commit_in
    second = was-found (take_listed ns first.0.parts) badRequest (join_in (state_in m) u first.0) (sym (ap result_of (act-is ∙ first.2)) ∙ zero-result)

    commit-listed : Listed (state_in m) u ns
    commit-listed = record { upload = first.0; found = first.1; listed = second.0; fits = second.1 }

    commit-accepted : outcome (COMMIT u ns) m ≡ accept nothing no_buffers (joined_state (state_in m) u ns commit-listed)
    unfolding join_in commit-listed
    commit-accepted =
        let s' = joined_at (state_in m) u first.0 second.0 in
        let z : result_of (join_in (state_in m) u first.0 second.0) ≡ 0 = sym (ap result_of (act-is ∙ first.2 ∙ second.2)) ∙ zero-result in
        act-is ∙ first.2 ∙ second.2 ∙ (passed (counted s') tableFull (accept nothing no_buffers s') z).1

    commit-valid : Valid (length m.arena) (state_in m) → Valid (length m.arena) (joined_state (state_in m) u ns commit-listed)
    unfolding outcome
    commit-valid v = subst (Valid (length m.arena)) (ap (after (state_in m)) commit-accepted) (next-valid (length m.arena) (state_in m) (COMMIT u ns) v)

-- What `commit_judge` finds in whole memory ------------------------------------------------------------------------------

module _ (t a : List ℕ) (u : ℕ) (list : Bytes) (place : Lookup) (place_is : place ≡ upload_place (state_of t a) u) where
  pub open-found : (e : Bool) → place.found ≡ e → is_some (lookup by_number u (state_of t a).U) ≡ e
  unfolding upload_place
  open-found e f = sym (ap (λ (p : Lookup). p.found) place_is) ∙ f

  pub missing-judged : place.found ≡ false → 2 ≡ result_of (outcome (COMMIT u (part_list list)) (memory t a))
  missing-judged e = not-open (memory t a) u (part_list list) (open-found false e)

  module _ (b : AreBytes t) (w : whole t a ≡ true) (e : place.found ≡ true) where
    valid : Valid (length a) (state_of t a)
    valid = (whole-stands t a b w).valid

    upload : (x : Upload) × (lookup by_number u (state_of t a).U ≡ some x)
    upload = is-some (lookup by_number u (state_of t a).U) (open-found true e)

    pub unfit-judged : ((x : Upload) → lookup by_number u (state_of t a).U ≡ some x → list_fits (part_list list) x.parts ≡ false) → 2 ≡ result_of (outcome (COMMIT u (part_list list)) (memory t a))
    unfit-judged unfit = not-fit (memory t a) u (part_list list) valid upload.0 upload.1 (unfit upload.0 upload.1)

    pub room-judged : ((x : Upload) → lookup by_number u (state_of t a).U ≡ some x → list_fits (part_list list) x.parts ≡ true) → (k : ℕ)
        → ((x : Upload) → lookup by_number u (state_of t a).U ≡ some x → (y : Object) → k ≡ cond (counted (without_upload (with_object (state_of t a) x.path y) u)) 0 4)
        → k ≡ result_of (outcome (COMMIT u (part_list list)) (memory t a))
    room-judged fits k is = fit-judged (memory t a) u (part_list list) valid upload.0 upload.1 (fits upload.0 upload.1) k (is upload.0 upload.1)

-- What `join` asks, and what the machine does ---------------------------------------------------------------------------

module _ (t a : List ℕ) (u : ℕ) (list : Bytes) (w : whole t a ≡ true) (zero-result : result_of (outcome (COMMIT u (part_list list)) (memory t a)) ≡ 0) (b : AreBytes t)
    (bounds : Bounds) (place : Lookup) (ascends : Bool) (placed : JoinPlaced t a u bounds place list ascends) where
  pub commit-ready : Joinable t a u bounds place list ascends
  commit-ready =
      record {
        is_whole = w;
        placed = placed;
        listed = commit-listed (memory t a) u (part_list list) zero-result;
        valid = commit-valid (memory t a) u (part_list list) zero-result (whole-stands t a b w).valid;
      }

  pub commit-done : outcome (COMMIT u (part_list list)) (memory t a) ≡ accept nothing no_buffers (joined_state (state_of t a) u (part_list list) commit-ready.listed)
  unfolding commit-ready
  commit-done = commit-accepted (memory t a) u (part_list list) zero-result
