-- DELETE: what its judge and its step meet. Assumes nothing.
use mathlib.Core.Path.{◌≡◌, refl, sym, ap, ◌∙◌}
use mathlib.Core.Bool.{true, false}
use mathlib.Core.Option.{some}
use lib.ListN.{length}
use Rattle.base_order.specs.Order.{by_bytes}
use Rattle.machine.specs.Map.{lookup}
use Rattle.machine.specs.Names.{Bytes, request_path_ok}
use Rattle.machine.specs.State.{Object, State, without_object}
use Rattle.machine.specs.Calls.{DELETE, nothing, no_buffers, Outcome, accept, badRequest, notFound, given}
use Rattle.machine.specs.Steps.{delete_at, act}
use Rattle.mem_layout.specs.Memory.{Stands}
use Rattle.mem_find.specs.declared.Lookup.{Lookup}
use Rattle.mem_find.specs.Places.{object_place}
use Rattle.mem_find.proofs.Found.{is-some, is_none, place_found}
use Rattle.call_contract.specs.Answers.{success}
use Rattle.call_contract.specs.Made.{Memory, state_in, outcome, result_of, MadeWhole}
use Rattle.call_contract.proofs.Judging.{result-pass, result-stop, result-found, result-missing, passed, was-found}
use Rattle.call_contract.proofs.MadeLaws.{done}

-- DELETE over the memory m
module _ (m : Memory) (p : Bytes) where
  abbrev s : State
  s = state_in m

  -- what follows the check of the path
  abbrev removal : Outcome
  removal = given (lookup by_bytes p s.O) notFound (λ x. accept nothing no_buffers (without_object s p))

  pub delete-bad : request_path_ok p ≡ false → 2 ≡ result_of (outcome (DELETE p) m)
  unfolding outcome act delete_at
  delete-bad e = sym (result-stop (request_path_ok p) badRequest removal e)

  module _ (ok : request_path_ok p ≡ true) (place : Lookup) (place_is : place ≡ object_place s p) where
    checked : result_of (outcome (DELETE p) m) ≡ result_of removal
    unfolding outcome act delete_at
    checked = result-pass (request_path_ok p) badRequest removal ok

    pub delete-absent : place.found ≡ false → 3 ≡ result_of (outcome (DELETE p) m)
    delete-absent e = sym (checked ∙ result-missing _ notFound _ (is_none _ (place_found s p place false place_is e)))

    pub delete-judged : place.found ≡ true → 0 ≡ result_of (outcome (DELETE p) m)
    delete-judged e =
        let k = is-some _ (place_found s p place true place_is e) in
        sym (checked ∙ result-found (lookup by_bytes p s.O) notFound (λ x. accept nothing no_buffers (without_object s p)) k.0 k.1)

  -- result 0
  module _ (zero-result : result_of (outcome (DELETE p) m) ≡ 0) where
    path-ok : (request_path_ok p ≡ true) × (outcome (DELETE p) m ≡ removal)
    unfolding outcome act delete_at
    path-ok = passed (request_path_ok p) badRequest removal zero-result

    there : (x : Object) × (lookup by_bytes p s.O ≡ some x) × (removal ≡ accept nothing no_buffers (without_object s p))
    there = was-found (lookup by_bytes p s.O) notFound (λ x. accept nothing no_buffers (without_object s p)) (sym (ap result_of path-ok.1) ∙ zero-result)

    delete-accepted : outcome (DELETE p) m ≡ accept nothing no_buffers (without_object s p)
    delete-accepted = path-ok.1 ∙ there.2

    -- memory that stands without the object is what DELETE leaves
    pub delete-made : (m' : Memory) → Stands m'.tables m'.arena (without_object s p)
        → length m'.tables ≡ length m.tables → length m'.arena ≡ length m.arena → MadeWhole (DELETE p) m (success nothing no_buffers) m'
    delete-made m' stands lt la = done nothing no_buffers _ delete-accepted refl stands lt la
