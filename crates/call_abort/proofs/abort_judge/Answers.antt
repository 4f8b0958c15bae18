-- `call_abort::abort_judge` meets its contract. Assumes nothing.
use mathlib.Core.Path.{◌∙◌}
use Rattle.mem_find_uploads.proofs.Answers.{upload-lookup}
use Rattle.call_contract.specs.Made.{memory, state_in}
use Rattle.call_abort.proofs.Aborting.{abort-open, abort-closed}
use Rattle.call_abort.proofs.abort_judge.Goals as goal

pub returns-then-place-clause-judged : goal.returns-then-place-clause-judged
returns-then-place-clause-judged c =
    let a = c.args in
    let f = c.find_upload-place in
    abort-open (memory a.memory.whole.tables.now a.memory.whole.arena.now) a.upload.0 f.result f.ensures c.if-place.true

pub returns-then-place-clause-placed : goal.returns-then-place-clause-placed
returns-then-place-clause-placed c =
    let a = c.args in
    let f = c.find_upload-place in
    c.place_of.ensures ∙ upload-lookup (state_in (memory a.memory.whole.tables.now a.memory.whole.arena.now)) a.upload.0 f.result f.ensures

pub returns-clause-judged : goal.returns-clause-judged
returns-clause-judged c =
    let a = c.args in
    let f = c.find_upload-place in
    abort-closed (memory a.memory.whole.tables.now a.memory.whole.arena.now) a.upload.0 f.result f.ensures c.if-place.false
