-- `mem_find_uploads::uploads::rows_end_from` meets its contract: the search passes every row that is left. Assumes nothing.
use mathlib.Core.Path.{sym, subst}
use Rattle.std.proofs.Common.{rules}
use Rattle.machine.proofs.Tests.{tests}
use Rattle.mem_find.specs.Known.{rows_in}
use Rattle.mem_find.specs.RowPlaces.{IsRowPlace}
use Rattle.mem_find_uploads.specs.Search.{End, stops_at}
use Rattle.mem_find_uploads.proofs.Answers.{end-answer}
use Rattle.mem_find_uploads.proofs.uploads.rows_end_from.Goals as goal

pub returns : goal.returns
unfolding stops_at
returns c =
    let placed : IsRowPlace (rows_in c.args.memory.tables.now c.args.memory.arena.now) c.place_of-from.result = subst (IsRowPlace (rows_in c.args.memory.tables.now c.args.memory.arena.now)) (sym c.place_of-from.ensures) c.requires in
    end-answer _ c.seek.result c.place_of-from.result.row placed.1 (c.seek.ensures End (λ h r told. search (rules, tests)))
