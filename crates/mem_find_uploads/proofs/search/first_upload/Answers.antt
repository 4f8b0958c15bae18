-- `mem_find_uploads::search::first_upload` meets its contract: uploads begin after the objects. Assumes nothing.
use mathlib.Core.Path.{ap}
use Rattle.mem_scan.specs.declared.Offsets.{Offsets}
use Rattle.mem_layout.proofs.WholeLaws.{whole-stands}
use Rattle.mem_find_uploads.proofs.UploadsFrom.{first-upload-row}
use Rattle.mem_find_uploads.proofs.search.first_upload.Goals as goal

pub returns : goal.returns
returns c =
    let stands = whole-stands c.args.memory.whole.tables.now c.args.memory.whole.arena.now c.args.memory.whole.bytes c.args.memory.whole.is_whole in
    first-upload-row _ _ _ stands c.args.memory.offsets.uploads c.counts-counts.result.objects (ap (λ (o : Offsets). o.uploads) c.args.memory.scanned) c.counts-counts.ensures.objects
