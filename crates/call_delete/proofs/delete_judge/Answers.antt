-- `call_delete::delete_judge` meets its contract: the path, then whether it is there. Assumes nothing.
use mathlib.Core.Path.{ap}
use mathlib.Core.Bool.{not}
use Rattle.machine.proofs.Tests.{said-no, said-yes}
use borrow.Author.Tests.{not-true, not-false}
use Rattle.call_contract.specs.Made.{memory}
use Rattle.call_delete.proofs.Deleting.{delete-bad, delete-absent, delete-judged}
use Rattle.call_delete.proofs.delete_judge.Goals as goal

pub returns-then-not-request_path_ok-clause-judged : goal.returns-then-not-request_path_ok-clause-judged
returns-then-not-request_path_ok-clause-judged c =
    let a = c.args in
    delete-bad (memory a.memory.tables.now a.memory.arena.now) a.path.now (said-no c.request_path_ok.ensures (ap not c.if-not-request_path_ok.true))

pub returns-then-not-place-clause-judged : goal.returns-then-not-place-clause-judged
returns-then-not-place-clause-judged c =
    let a = c.args in
    let f = c.find_object-place in
    let yes = said-yes c.request_path_ok.ensures (ap not c.if-not-request_path_ok.false) in
    delete-absent (memory a.memory.tables.now a.memory.arena.now) a.path.now yes f.result f.ensures (not-true f.result.found c.if-not-place.true)

pub returns-clause-judged : goal.returns-clause-judged
returns-clause-judged c =
    let a = c.args in
    let f = c.find_object-place in
    let yes = said-yes c.request_path_ok.ensures (ap not c.if-not-request_path_ok.false) in
    delete-judged (memory a.memory.tables.now a.memory.arena.now) a.path.now yes f.result f.ensures (not-false f.result.found c.if-not-place.false)
