-- SWEEP over whole memory: refused by 2, or swept. Assumes nothing.
use Prim.Native.Nat.{ℕ}
use mathlib.Core.Path.{◌≡◌, refl, sym, ◌∙◌}
use mathlib.Core.Bool.{true, false}
use native.Mathlib.Omega.{arith}
use lib.ListN.{length}
use Rattle.call_types.specs.declared.Sweep.{Sweep}
use Rattle.machine.specs.Names.{stamp_ok}
use Rattle.machine.specs.Calls.{SWEEP, swept, no_buffers, badRequest}
use Rattle.machine.specs.Steps.{act, to_sweep, after_aborts}
use Rattle.call_contract.specs.Answers.{refused, success}
use Rattle.call_contract.specs.Made.{Memory, state_in, outcome, MadeWhole}
use Rattle.call_contract.proofs.Judging.{pass, result-stop}
use Rattle.call_contract.proofs.MadeLaws.{judged, done}
use Rattle.call_sweep.specs.Swept.{Swept}

module _ (t n : ℕ) (m : Memory) where
  pub bad-stamp : stamp_ok t ≡ false → MadeWhole (SWEEP t n) m (refused 2 no_buffers) m
  unfolding outcome act
  bad-stamp fails = judged 2 (sym (result-stop (stamp_ok t) badRequest _ fails)) (λ z. omega arith)

  pub swept-made : stamp_ok t ≡ true → (r : Sweep) (m' : Memory) → Swept t n m r m' → length m'.tables ≡ length m.tables → length m'.arena ≡ length m.arena
      → MadeWhole (SWEEP t n) m (success (swept r.count r.more) no_buffers) m'
  unfolding outcome act
  swept-made passes r m' h lt la =
      done (swept r.count r.more) no_buffers (after_aborts (state_in m) (to_sweep t n (state_in m).U))
      (pass (stamp_ok t) badRequest _ passes ∙ rw (← h.count, ← h.more)) refl h.stands lt la
