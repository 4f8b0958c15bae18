-- `call_list::measuring::record_length` meets its contract: the numbers, the path and the text of the etag. Assumes nothing.
use mathlib.Core.Path.{ap, ◌∙◌}
use lib.ListN.{length, drop}
use Rattle.machine.specs.Etags.{text}
use Rattle.mem_row.specs.declared.Head.{Head}
use Rattle.mem_row.specs.Row.{digest_at}
use Rattle.mem_layout.specs.Memory.{row_etag}
use Rattle.call_list.proofs.RowLengths.{digest-length, measured-length}
use Rattle.call_list.proofs.measuring.record_length.Goals as goal

pub returns-clause-long : goal.returns-clause-long
returns-clause-long c =
    let a = c.args in
    let h = c.read_head-h in
    let x = c.text_length.ensures.1 (digest_at (drop a.at a.tables.now)) (digest-length a.tables.now a.at c.requires) in
    let y = ap (λ (q : Head). length (text (row_etag q.kind (digest_at (drop a.at a.tables.now)) q.count))) h.ensures in
    measured-length a.tables.now a.at c.requires h.result.pathlen c.wide.result c.text_length.result (ap (λ (q : Head). q.pathlen) h.ensures) c.wide.ensures.0 (x ∙ y)
