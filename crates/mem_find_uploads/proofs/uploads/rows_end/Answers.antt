-- `mem_find_uploads::uploads::rows_end` meets its contract: the test "whole" has passed every row. Assumes nothing.
use mathlib.Core.Path.{ap}
use Rattle.mem_scan.specs.declared.Offsets.{Offsets}
use Rattle.mem_layout.proofs.WholeLaws.{whole-stands}
use Rattle.mem_find_uploads.proofs.UploadsFrom.{rows-end-place}
use Rattle.mem_find_uploads.proofs.uploads.rows_end.Goals as goal

pub returns : goal.returns
returns c =
    let stands = whole-stands c.args.memory.whole.tables.now c.args.memory.whole.arena.now c.args.memory.whole.bytes c.args.memory.whole.is_whole in
    rows-end-place _ _ _ stands c.args.memory.offsets.end c.counts-counts.result.rows (ap (λ (o : Offsets). o.end) c.args.memory.scanned) c.counts-counts.ensures.rows
