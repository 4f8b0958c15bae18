-- ABORT: its refusal, and what it leaves. Assumes nothing.
use Prim.Native.Nat.{ℕ}
use mathlib.Core.Path.{◌≡◌, sym, ap, ◌∙◌}
use mathlib.Core.Bool.{true, false}
use Rattle.machine.specs.Map.{is_some, by_number, lookup}
use Rattle.machine.specs.State.{State, without_upload}
use Rattle.machine.specs.Calls.{ABORT, nothing, no_buffers, badRequest, accept}
use Rattle.machine.specs.Steps.{abort_at, act}
use Rattle.mem_find.specs.declared.Lookup.{Lookup}
use Rattle.mem_find.specs.Places.{upload_place}
use Rattle.mem_find.proofs.Found.{is-some, is_none}
use Rattle.call_contract.specs.Made.{Memory, state_in, result_of, outcome}
use Rattle.call_contract.proofs.Judging.{result-found, result-missing, was-found}

module _ (m : Memory) (u : ℕ) where
  abbrev s : State
  s = state_in m

  module _ (place : Lookup) (is : place ≡ upload_place s u) where
    found-is : place.found ≡ is_some (lookup by_number u s.U)
    unfolding upload_place
    found-is = ap (λ (p : Lookup). p.found) is

    pub abort-open : place.found ≡ true → 0 ≡ result_of (outcome (ABORT u) m)
    unfolding outcome act abort_at
    abort-open e = let x = is-some _ (sym found-is ∙ e) in sym (result-found (lookup by_number u s.U) badRequest _ x.0 x.1)

    pub abort-closed : place.found ≡ false → 2 ≡ result_of (outcome (ABORT u) m)
    unfolding outcome act abort_at
    abort-closed e = sym (result-missing (lookup by_number u s.U) badRequest _ (is_none _ (sym found-is ∙ e)))

  -- result 0
  module _ (zero-result : result_of (outcome (ABORT u) m) ≡ 0) where
    pub abort-there : is_some (lookup by_number u s.U) ≡ true
    unfolding outcome act abort_at
    abort-there = ap is_some (was-found (lookup by_number u s.U) badRequest _ zero-result).1

    pub abort-accepted : outcome (ABORT u) m ≡ accept nothing no_buffers (without_upload s u)
    unfolding outcome act abort_at
    abort-accepted = (was-found (lookup by_number u s.U) badRequest _ zero-result).2
