-- `call_uploads::rows::read_upload` meets its contract: the row's head, and the search after the parts. Assumes nothing.
use native.Mathlib.Omega.{arith}
use Rattle.mem_layout.specs.Memory.{state_of}
use Rattle.mem_layout.proofs.WholeLaws.{whole-stands}
use Rattle.mem_find_uploads.proofs.Answers.{open-row-place}
use Rattle.call_uploads.specs.Rows.{number_at}
use Rattle.call_uploads.proofs.UploadRows.{parts-fit, row_read}
use Rattle.call_uploads.proofs.rows.read_upload.Goals as goal

pub row_head-h-requires : goal.row_head-h-requires
row_head-h-requires c = let m = c.args.memory in open-row-place (state_of m.tables.now m.arena.now) (number_at m.tables.now c.args.here) c.args.here c.requires.1 c.requires.0

pub pass_parts-parts-requires : goal.pass_parts-parts-requires
pass_parts-parts-requires c = let m = c.args.memory in open-row-place (state_of m.tables.now m.arena.now) (number_at m.tables.now c.args.here) c.args.here c.requires.1 c.requires.0

pub overflow_cast-result-2 : goal.overflow_cast-result-2
overflow_cast-result-2 c =
    let m = c.args.memory in
    let number = number_at m.tables.now c.args.here in
    let stands = whole-stands m.tables.now m.arena.now m.bytes m.is_whole in
    omega (arith, parts-fit m.tables.now m.arena.now _ stands number c.requires.0 c.pass_parts-parts.result (λ x. c.pass_parts-parts.ensures number x c.requires.1))

pub returns-clause-read : goal.returns-clause-read
returns-clause-read c x f =
    let m = c.args.memory in
    let number = number_at m.tables.now c.args.here in
    row_read m.tables.now (state_of m.tables.now m.arena.now) c.args.here x c.row_head-h.result c.pass_parts-parts.result c.row_head-h.ensures.read (c.pass_parts-parts.ensures number x c.requires.1 f)
