-- `call_abort::abort_whole` meets its contract: refused, or the upload removed. Assumes nothing.
use mathlib.Core.Path.{refl, sym}
use Rattle.machine.specs.Calls.{nothing, no_buffers}
use Rattle.mem_find.proofs.Found.{is-some}
use Rattle.call_contract.specs.Made.{memory}
use Rattle.call_contract.proofs.MadeLaws.{done}
use Rattle.call_abort.proofs.Aborting.{abort-there, abort-accepted}
use Rattle.call_abort.proofs.abort_whole.Goals as goal

pub remove_upload-requires : goal.remove_upload-requires
remove_upload-requires c =
    let a = c.args in
    let o = c.of-memory.ensures in
    let judged = rw (o.tables, o.arena) at c.in_ok-here.ensures.judged in
    let placed = rw (o.tables, o.arena) at c.in_ok-here.ensures.placed in
    let last = rw (o.tables, o.arena) at c.rows_end-end.ensures in
    ((c.requires.0, (a.upload.0, placed, abort-there (memory a.tables.now a.arena.now) a.upload.0 (sym judged))), last)

pub returns : goal.returns
returns c =
    let a = c.args in
    let m = memory a.tables.now a.arena.now in
    let o = c.of-memory.ensures in
    let judged = rw (o.tables, o.arena) at c.in_ok-here.ensures.judged in
    let placed = rw (o.tables, o.arena) at c.in_ok-here.ensures.placed in
    let r = c.remove_upload in
    let x = is-some _ (abort-there m a.upload.0 (sym judged)) in
    done nothing no_buffers _ (abort-accepted m a.upload.0 (sym judged)) refl (r.ensures.0 a.upload.0 x.0 placed x.1) r.auto.tables r.auto.arena
