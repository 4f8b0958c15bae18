-- `mem_find_uploads::uploads::find_part_from` meets its contract: the search among the parts of an open upload. Assumes nothing.
use mathlib.Core.Path.{◌∙◌}
use Rattle.std.proofs.Common.{rules}
use Rattle.machine.proofs.Tests.{tests}
use Rattle.mem_layout.specs.Memory.{state_of, rows_of}
use Rattle.mem_find_uploads.specs.Search.{Part, stops_at}
use Rattle.mem_find_uploads.proofs.Answers.{sought-row-place, found_part}
use Rattle.mem_find_uploads.proofs.uploads.find_part_from.Goals as goal

pub stands-found-requires : goal.stands-found-requires
unfolding stops_at
stands-found-requires c =
    let s = state_of c.args.memory.tables.now c.args.memory.arena.now in
    sought-row-place (Part c.args.number) (rows_of s) c.seek-here.result c.args.first.row (c.seek-here.ensures (Part c.args.number) (λ h r told. search (rules, tests))) c.requires.1

pub returns : goal.returns
unfolding stops_at
returns c u x e f =
    let s = state_of c.args.memory.tables.now c.args.memory.arena.now in
    let d = c.stands-found in
    c.lookup_at.ensures ∙ found_part s u x f c.args.first e c.args.number c.seek-here.result d.result (c.seek-here.ensures (Part c.args.number) (λ h r told. search (rules, tests))) d.ensures
