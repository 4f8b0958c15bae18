-- `call_part::part_judge` meets its contract: one law for each check. Assumes nothing.
use mathlib.Core.Path.{ap}
use mathlib.Core.Bool.{not}
use borrow.Author.Tests.{not-true, not-false}
use Rattle.machine.proofs.Tests.{said-no, said-yes}
use Rattle.call_contract.specs.Made.{memory}
use Rattle.call_part.proofs.Parting.{bad-number, not-open, open-found, part-judged}
use Rattle.call_part.proofs.part_judge.Goals as goal

pub returns-then-not-request_part_ok-clause-judged : goal.returns-then-not-request_part_ok-clause-judged
returns-then-not-request_part_ok-clause-judged c =
    let a = c.args in
    bad-number (memory a.memory.whole.tables.now a.memory.whole.arena.now) a.upload.0 a.number.0 a.content.now (said-no c.request_part_ok.ensures (ap not c.if-not-request_part_ok.true))

pub returns-then-not-place-clause-judged : goal.returns-then-not-place-clause-judged
returns-then-not-place-clause-judged c =
    let a = c.args in
    let f = c.find_upload-place in
    not-open (memory a.memory.whole.tables.now a.memory.whole.arena.now) a.upload.0 a.number.0 a.content.now (said-yes c.request_part_ok.ensures (ap not c.if-not-request_part_ok.false)) f.result f.ensures (not-true _ c.if-not-place.true)

pub part_room-requires-clause-is_open : goal.part_room-requires-clause-is_open
part_room-requires-clause-is_open c =
    let a = c.args in
    let f = c.find_upload-place in
    open-found (memory a.memory.whole.tables.now a.memory.whole.arena.now) a.upload.0 a.number.0 a.content.now f.result f.ensures (not-false _ c.if-not-place.false)

pub returns-clause-judged : goal.returns-clause-judged
returns-clause-judged c =
    let a = c.args in
    part-judged (memory a.memory.whole.tables.now a.memory.whole.arena.now) a.upload.0 a.number.0 a.content.now (said-yes c.request_part_ok.ensures (ap not c.if-not-request_part_ok.false)) _ c.part_room.ensures.judged
