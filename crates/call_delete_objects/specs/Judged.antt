-- DELETE_OBJECTS' refusal. Assumes nothing.
use Rattle.std.specs.Prelude.{ℕ, ◌≡◌, cond, leb, eqb}
use Rattle.mem_layout.specs.Memory.{Stands}
use Rattle.call_contract.specs.Made.{Memory, whole_memory, state_in}

-- the refusal of `count` places over whole memory, in checking order; 0 for none
unfoldable pub list_refusal : (count left_over results : ℕ) → ℕ
list_refusal count left_over results = cond (leb count 1000) (cond (eqb left_over 0) (cond (leb count results) 0 7) 2) 8

-- n is the refusal of `count` places over the memory m.
pub record Judged (count left_over results : ℕ) (m : Memory) (n : ℕ) : Type 0 where
  pub number : n ≡ cond (whole_memory m) (list_refusal count left_over results) 1
  pub stands : n ≡ 0 → Stands m.tables m.arena (state_in m)
