-- `call_uploads::writing::write_row` meets its contract: the path is a part of the tables. Assumes nothing.
use mathlib.Core.Path.{ap, ◌∙◌}
use native.Mathlib.Omega.{arith}
use lib.ListN.{length}
use Rattle.call_uploads.proofs.RecordBytes.{row-path, length-path, length-row, row_written}
use Rattle.call_uploads.proofs.writing.write_row.Goals as goal

pub write_record-requires : goal.write_record-requires
write_record-requires c =
    let t = c.args.tables.now in
    let at = c.args.at in
    let parts = c.args.parts in
    let r = c.read_head-h.result in
    let e = c.read_head-h.ensures in
    let n = ap length (row-path t at parts r e c.requires.0) ∙ length-path t at parts r e c.requires.0 in
    let p = c.requires.1 in
    let byte = c.struct_known-1.given.1.1.1.1.1.0 in
    (omega arith, omega (arith, length-row t at parts r e c.requires.0))

pub returns : goal.returns
returns c =
    let t = c.args.tables.now in
    let at = c.args.at in
    let parts = c.args.parts in
    let r = c.read_head-h.result in
    let e = c.read_head-h.ensures in (
      omega (arith, length-row t at parts r e c.requires.0),
      row_written t at parts r e c.requires.0 c.args.answer.now _ _ c.args.to (row-path t at parts r e c.requires.0) c.write_record.ensures,
    )
