-- `mem_find_uploads::uploads::find_upload` meets its contract: what stands there tells whether it is the upload. Assumes nothing.
use mathlib.Core.Path.{◌∙◌}
use Rattle.std.proofs.Common.{rules}
use Rattle.machine.proofs.Tests.{tests}
use Rattle.mem_layout.specs.Memory.{state_of, rows_of}
use Rattle.mem_find_uploads.specs.Search.{Upload, stops_at}
use Rattle.mem_find_uploads.proofs.Answers.{sought-row-place, uploads-within, upload-answer, found-upload}
use Rattle.mem_find_uploads.proofs.uploads.find_upload.Goals as goal

pub stands-found-requires : goal.stands-found-requires
unfolding stops_at
stands-found-requires c =
    let s = state_of c.args.memory.whole.tables.now c.args.memory.whole.arena.now in
    sought-row-place (Upload c.args.upload) (rows_of s) c.seek_uploads-here.result _ (c.seek_uploads-here.ensures (Upload c.args.upload) (λ h r told. search (rules, tests))) (uploads-within s)

pub returns : goal.returns
unfolding stops_at
returns c =
    let d = c.stands-found in
    let s = state_of c.args.memory.whole.tables.now c.args.memory.whole.arena.now in
    let here = c.seek_uploads-here.result in
    c.lookup_at.ensures ∙ found-upload s c.args.upload here d.result (upload-answer s c.args.upload here (c.seek_uploads-here.ensures (Upload c.args.upload) (λ h r told. search (rules, tests)))) d.ensures
