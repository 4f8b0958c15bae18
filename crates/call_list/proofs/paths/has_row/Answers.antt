-- `call_list::paths::has_row` meets its contract: the path of the row is tested. Assumes nothing.
use mathlib.Core.Path.{ap, ◌∙◌}
use Rattle.mem_row.specs.declared.Head.{Head}
use Rattle.machine.specs.Steps.{is_listed}
use Rattle.call_list.proofs.RowLengths.{path-read}
use Rattle.call_list.proofs.paths.has_row.Goals as goal

pub returns : goal.returns
returns c =
    let a = c.args in
    let h = c.read_head-h in
    c.has_path.ensures ∙ ap (is_listed a.prefix.now a.suffix.now) (path-read a.tables.now a.at c.requires h.result.pathlen (ap (λ (x : Head). x.pathlen) h.ensures))
