-- `mem_edit_copy::restamp` meets its contract: the front of the row is written to a local array, then over the old one. Assumes nothing.
use mathlib.Core.Path.{ap, ◌∙◌}
use mathlib.Core.List.{[], append-nil}
use native.Mathlib.Omega.{arith}
use Rattle.base_number.specs.Number.{written}
use Rattle.base_md5.specs.Md5.{bytes_of}
use Rattle.mem_row.specs.declared.Head.{Head}
use Rattle.mem_row.specs.Row.{row_bytes}
use Rattle.mem_edit_copy.specs.Copy.{restamped_head}
use Rattle.mem_edit_copy.proofs.Restamping.{pairs-fit}
use Rattle.mem_edit_copy.proofs.restamp.Goals as goal

pub write_row-requires : goal.write_row-requires
write_row-requires c =
    let h = c.read_head-old in
    (omega arith, omega (arith, ap (λ (x : Head). x.pairs) h.ensures, pairs-fit c.args.tables.now c.args.at (λ j. (c.slice_known-1.given j).fits) c.requires))

pub returns : goal.returns
returns c =
    let h = c.read_head-old in
    let w = c.write_row in
    let f = c.copy_at in
    f.ensures
    ∙ ap (written c.args.tables.now c.args.at) (w.ensures ∙ append-nil _ ∙ ap (λ (x : Head). row_bytes (restamped_head c.args.stamp x) (bytes_of c.args.digest) [] []) h.ensures)
