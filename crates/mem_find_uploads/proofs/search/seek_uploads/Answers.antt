-- `mem_find_uploads::search::seek_uploads` meets its contract: the first upload's row is a place of the rows. Assumes nothing.
use mathlib.Core.Path.{ap, ◌∙◌}
use Rattle.mem_layout.specs.Memory.{state_of, rows_of}
use Rattle.mem_find_uploads.specs.Search.{sought}
use Rattle.mem_find_uploads.proofs.Answers.{is-row-place, place-row, uploads-within}
use Rattle.mem_find_uploads.proofs.search.seek_uploads.Goals as goal

pub seek-requires-clause-place : goal.seek-requires-clause-place
seek-requires-clause-place g c =
    let s = state_of c.args.memory.whole.tables.now c.args.memory.whole.arena.now in
    is-row-place (rows_of s) c.first_upload-first.result _ c.first_upload-first.ensures (uploads-within s)

pub returns : goal.returns
returns g c x told =
    let rs = rows_of (state_of c.args.memory.whole.tables.now c.args.memory.whole.arena.now) in
    let f = c.first_upload-first in
    c.seek.ensures x told ∙ ap (sought x rs) (place-row rs f.result _ f.ensures)
