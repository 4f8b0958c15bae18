-- `mem_find_uploads::uploads::find_part_after` meets its contract: the row after the upload's, and the search from there. Assumes nothing.
use Prim.Native.Nat.{◌+◌}
use mathlib.Core.Path.{sym, subst, ◌∙◌}
use native.Mathlib.Omega.{arith}
use Rattle.mem_layout.specs.Memory.{state_of, rows_of}
use Rattle.mem_find.specs.Known.{rows_in}
use Rattle.mem_find.specs.RowPlaces.{IsRow}
use Rattle.mem_find_uploads.proofs.Answers.{is-row-place, first-part-row}
use Rattle.mem_find_uploads.proofs.uploads.find_part_after.Goals as goal

pub find_part_from-requires : goal.find_part_from-requires
find_part_from-requires c =
    let placed : IsRow (rows_in c.args.memory.tables.now c.args.memory.arena.now) c.place_of-here.result = subst (IsRow (rows_in c.args.memory.tables.now c.args.memory.arena.now)) (sym c.place_of-here.ensures) c.requires in
    let s = state_of c.args.memory.tables.now c.args.memory.arena.now in
    is-row-place (rows_of s) c.next_row-first.result (c.place_of-here.result.row + 1) c.next_row-first.ensures (let l = placed.1 in omega arith)

pub returns : goal.returns
returns c u x e f =
    let s = state_of c.args.memory.tables.now c.args.memory.arena.now in
    c.find_part_from.ensures u x (first-part-row s u c.place_of-here.result c.next_row-first.result (c.place_of-here.ensures ∙ e) c.next_row-first.ensures) f
