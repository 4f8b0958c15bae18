-- `call_delete::delete_known` meets its contract: refused, or the object removed. Assumes nothing.
use mathlib.Core.Path.{sym}
use Rattle.mem_layout.specs.Memory.{state_of}
use Rattle.mem_find_uploads.proofs.Answers.{object-row-place}
use Rattle.call_contract.specs.Made.{memory}
use Rattle.call_delete.proofs.Deleting.{delete-made}
use Rattle.call_delete.proofs.delete_known.Goals as goal

pub rows_end_from-end-requires : goal.rows_end_from-end-requires
rows_end_from-end-requires c =
    let m = c.of-memory.result in
    object-row-place (state_of m.tables.now m.arena.now) c.args.path.now c.in_ok-place.place c.in_ok-place.ensures.placed.1

pub returns : goal.returns
returns c =
    let a = c.args in
    let m = c.of-memory.ensures in
    let judged = rw (m.tables, m.arena) at c.in_ok-place.ensures.judged in
    let placed = rw (m.tables, m.arena) at c.in_ok-place.ensures.placed.1 in
    delete-made (memory a.tables.now a.arena.now) a.path.now (sym judged) _
    (c.remove_object.ensures a.path.now placed) c.remove_object.auto.tables c.remove_object.auto.arena
