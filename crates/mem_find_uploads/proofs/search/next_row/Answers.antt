-- `mem_find_uploads::search::next_row` meets its contract: the row's span and size lead to the next. Assumes nothing.
use native.Mathlib.Omega.{arith}
use Rattle.mem_layout.specs.Memory.{state_of}
use Rattle.mem_layout.proofs.WholeLaws.{whole-stands}
use Rattle.mem_find_uploads.proofs.Walk.{rows_few}
use Rattle.mem_find_uploads.proofs.search.next_row.Goals as goal

pub overflow_add-result : goal.overflow_add-result
overflow_add-result c =
    let m = c.args.memory in
    omega (arith, c.requires.1, rows_few _ _ (state_of m.tables.now m.arena.now) (whole-stands m.tables.now m.arena.now m.bytes m.is_whole))
