-- What carrying tables over promises; the former layout is in crate `mem_former`. Assumes nothing.
use Rattle.std.specs.Prelude.{ℕ, ◌≡◌, Bool, true, ◌&&◌, cond, List, ◌++◌, eqb, length, drop}
use Rattle.mem_layout.specs.Memory.{tables_length, former_tables_length, whole, state_of, Stands}
use Rattle.mem_former.specs.FormerMemory.{former_state, whole_before_e6}
use Rattle.mem_former.specs.FormerStands.{WithoutPairs}

-- the new tables have their length, and the former ones are whole over the arena
unfoldable pub carriable : (former arena tables : List ℕ) → Bool
carriable former arena tables = eqb (length tables) tables_length && whole_before_e6 former arena

-- the former tables, then the new ones' bytes after them as they were
unfoldable pub carried : (former tables : List ℕ) → List ℕ
carried former tables = former ++ drop former_tables_length tables

-- `former` carried over to `tables`, over an arena, answered n and left tables'.
pub record Carried (former arena tables : List ℕ) (n : ℕ) (tables' : List ℕ) : Type 0 where
  pub answers : n ≡ cond (carriable former arena tables) 0 1
  -- refused: every byte is as it was
  pub bytes : tables' ≡ cond (carriable former arena tables) (carried former tables) tables
  -- done: the new tables are the encoding of the state that the former ones stood for
  pub stands : n ≡ 0 → Stands tables' arena (former_state former arena)
  pub is_whole : n ≡ 0 → whole tables' arena ≡ true
  pub state : n ≡ 0 → state_of tables' arena ≡ former_state former arena
  pub no_pairs : n ≡ 0 → WithoutPairs (state_of tables' arena)
  pub tables-length : length tables' ≡ length tables
