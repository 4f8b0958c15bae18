-- `call_commit::commit_judge` meets its contract: one law for each check, and the places that an accepted one hands on. Assumes nothing.
use mathlib.Core.Path.{◌≡◌, ◌∙◌}
use mathlib.Core.Bool.{true}
use borrow.Author.Tests.{not-true, not-false}
use Rattle.std.proofs.Common.{rules, Err}
use Rattle.machine.specs.Map.{is_some, by_number, lookup}
use Rattle.mem_layout.specs.Memory.{state_of}
use Rattle.mem_find.specs.Places.{upload_row_of}
use Rattle.mem_find_uploads.proofs.Answers.{upload-lookup}
use Rattle.call_types.specs.Numbers.{number_of}
use Rattle.call_commit.proofs.Committing.{open-found, missing-judged, unfit-judged, room-judged}
use Rattle.call_commit.proofs.commit_judge.Goals as goal

pub returns-then-not-opened-clause-judged : goal.returns-then-not-opened-clause-judged
returns-then-not-opened-clause-judged c =
    let a = c.args in
    missing-judged a.memory.whole.tables.now a.memory.whole.arena.now a.upload.0 a.list.now c.find_upload-opened.result c.find_upload-opened.ensures (not-true _ c.if-not-opened.true)

pub judge_list-requires : goal.judge_list-requires
judge_list-requires c =
    let a = c.args in
    let s = state_of a.memory.whole.tables.now a.memory.whole.arena.now in
    let u = a.upload.0 in
    let f = c.find_upload-opened in
    let here-is : c.place_of-here.result ≡ upload_row_of s u = c.place_of-here.ensures ∙ upload-lookup s u f.result f.ensures in
    let is_open : is_some (lookup by_number u s.U) ≡ true = open-found a.memory.whole.tables.now a.memory.whole.arena.now u a.list.now f.result f.ensures true (not-false _ c.if-not-opened.false) in
    (a.memory.whole.is_whole, (u, here-is, is_open))

pub returns-in_default-clause-judged : goal.returns-in_default-clause-judged
returns-in_default-clause-judged c =
    let a = c.args in
    let s = state_of a.memory.whole.tables.now a.memory.whole.arena.now in
    let u = a.upload.0 in
    let f = c.find_upload-opened in
    let here-is : c.place_of-here.result ≡ upload_row_of s u = c.place_of-here.ensures ∙ upload-lookup s u f.result f.ensures in
    unfit-judged a.memory.whole.tables.now a.memory.whole.arena.now u a.list.now f.result f.ensures a.memory.whole.bytes a.memory.whole.is_whole (not-false _ c.if-not-opened.false) (λ x e. c.in_default.ensures.unfit u x here-is e)

pub commit_room-requires : goal.commit_room-requires
commit_room-requires c =
    let a = c.args in
    let s = state_of a.memory.whole.tables.now a.memory.whole.arena.now in
    let u = a.upload.0 in
    let f = c.find_upload-opened in
    let here-is : c.place_of-here.result ≡ upload_row_of s u = c.place_of-here.ensures ∙ upload-lookup s u f.result f.ensures in
    let is_open : is_some (lookup by_number u s.U) ≡ true = open-found a.memory.whole.tables.now a.memory.whole.arena.now u a.list.now f.result f.ensures true (not-false _ c.if-not-opened.false) in
    (a.memory.whole.is_whole, (u, here-is, is_open))

pub returns-in_err-target-clause-judged : goal.returns-in_err-target-clause-judged
returns-in_err-target-clause-judged c =
    let a = c.args in
    let s = state_of a.memory.whole.tables.now a.memory.whole.arena.now in
    let u = a.upload.0 in
    let f = c.find_upload-opened in
    let here-is : c.place_of-here.result ≡ upload_row_of s u = c.place_of-here.ensures ∙ upload-lookup s u f.result f.ensures in
    let x = c.in_err-target.field-0.0 in
    let told : c.from_residual.result ≡ Err x = search rules in
    rw told (room-judged a.memory.whole.tables.now a.memory.whole.arena.now u a.list.now f.result f.ensures a.memory.whole.bytes a.memory.whole.is_whole (not-false _ c.if-not-opened.false) (λ x e. c.in-Some.ensures.fits u x here-is e) (number_of x) (λ x e. c.in_err-target.ensures.judged u x here-is e))

pub upload_bounds-bounds-requires : goal.upload_bounds-bounds-requires
upload_bounds-bounds-requires c =
    let a = c.args in
    let s = state_of a.memory.whole.tables.now a.memory.whole.arena.now in
    let u = a.upload.0 in
    let f = c.find_upload-opened in
    let here-is : c.place_of-here.result ≡ upload_row_of s u = c.place_of-here.ensures ∙ upload-lookup s u f.result f.ensures in
    let is_open : is_some (lookup by_number u s.U) ≡ true = open-found a.memory.whole.tables.now a.memory.whole.arena.now u a.list.now f.result f.ensures true (not-false _ c.if-not-opened.false) in
    ((a.memory.whole.is_whole, (u, here-is, is_open)), λ v x q e. c.in-Some.ensures.passed v x q e, c.rows_end-end.ensures)

pub returns-clause-judged : goal.returns-clause-judged
returns-clause-judged c =
    let a = c.args in
    let s = state_of a.memory.whole.tables.now a.memory.whole.arena.now in
    let u = a.upload.0 in
    let f = c.find_upload-opened in
    let here-is : c.place_of-here.result ≡ upload_row_of s u = c.place_of-here.ensures ∙ upload-lookup s u f.result f.ensures in
    room-judged a.memory.whole.tables.now a.memory.whole.arena.now u a.list.now f.result f.ensures a.memory.whole.bytes a.memory.whole.is_whole (not-false _ c.if-not-opened.false) (λ x e. c.in-Some.ensures.fits u x here-is e) 0 (λ x e. c.in_ok-target.ensures.judged u x here-is e)

pub returns-clause-placed : goal.returns-clause-placed
returns-clause-placed c x e =
    let a = c.args in
    let s = state_of a.memory.whole.tables.now a.memory.whole.arena.now in
    let u = a.upload.0 in
    let f = c.find_upload-opened in
    let here-is : c.place_of-here.result ≡ upload_row_of s u = c.place_of-here.ensures ∙ upload-lookup s u f.result f.ensures in
    (c.upload_bounds-bounds.ensures u x here-is e, c.in_ok-target.ensures.placed u x here-is e, c.in-Some.ensures.ordered u x here-is e)
