-- What a sweep over whole memory promises. Assumes nothing.
use Rattle.std.specs.Prelude.{ℕ, min, ◌≡◌, ltb, length}
use Rattle.call_types.specs.declared.Sweep.{Sweep}
use Rattle.machine.specs.Steps.{due, to_sweep, after_aborts}
use Rattle.mem_layout.specs.Memory.{Stands}
use Rattle.call_contract.specs.Made.{Memory, state_in}

-- The sweep of at most n uploads that started before t, over whole memory m, answered r and left memory m'.
pub record Swept (t n : ℕ) (m : Memory) (r : Sweep) (m' : Memory) : Type 0 where
  pub count : r.count ≡ min n (length (due t (state_in m).U))
  pub more : r.more ≡ ltb n (length (due t (state_in m).U))
  pub stands : Stands m'.tables m'.arena (after_aborts (state_in m) (to_sweep t n (state_in m).U))
