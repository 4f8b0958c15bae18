-- `call_part::part_room` meets its contract: the readers say what the checks ask. Assumes nothing.
use mathlib.Core.Path.{◌≡◌}
use native.Mathlib.Omega.{arith}
use Rattle.std.proofs.Common.{rules, Err}
use Rattle.mem_layout.specs.Memory.{state_of}
use Rattle.mem_find.specs.Places.{place_of}
use Rattle.mem_find_uploads.proofs.Answers.{upload-lookup, open-row-place}
use Rattle.call_types.specs.Numbers.{number_of}
use Rattle.call_part.proofs.Parting.{place_is, held-inside, old-inside, old-held, judged-old, judged-full, judged-new}
use Rattle.call_part.proofs.part_room.Goals as goal

pub find_part_after-place-requires : goal.find_part_after-place-requires
find_part_after-place-requires c =
    let s = state_of c.args.memory.whole.tables.now c.args.memory.whole.arena.now in
    let u = c.args.upload.0 in
    open-row-place s u (place_of c.args.opened) (upload-lookup s u c.args.opened c.requires.opened) c.requires.is_open

pub read_head-h-requires : goal.read_head-h-requires
read_head-h-requires c =
    let a = c.args in
    let m = a.memory.whole in
    old-inside m.tables.now m.arena.now a.content.now m.bytes m.is_whole a.upload.0 a.number.0 c.requires.is_open a.opened c.requires.opened c.find_part_after-place.result c.find_part_after-place.ensures c.rows_end-end.result c.rows_end-end.ensures c.if-place.true

pub overflow_sub-held : goal.overflow_sub-held
overflow_sub-held c =
    let a = c.args in
    let m = a.memory.whole in
    let h = c.read_head-h in
    omega (arith, old-held m.tables.now m.arena.now a.content.now m.bytes m.is_whole a.upload.0 a.number.0 c.requires.is_open a.opened c.requires.opened c.find_part_after-place.result c.find_part_after-place.ensures c.rows_end-end.result c.rows_end-end.ensures c.if-place.true h.result h.ensures)

pub arena_judge-requires : goal.arena_judge-requires
arena_judge-requires c =
    let a = c.args in
    let m = a.memory.whole in
    omega (arith, held-inside m.tables.now m.arena.now a.content.now m.bytes m.is_whole a.upload.0 a.number.0 c.requires.is_open a.opened c.requires.opened c.find_part_after-place.result c.find_part_after-place.ensures c.rows_end-end.result c.rows_end-end.ensures)

pub returns-in_err-arena_judge-clause-judged : goal.returns-in_err-arena_judge-clause-judged
returns-in_err-arena_judge-clause-judged c =
    let a = c.args in
    let m = a.memory.whole in
    let h = c.read_head-h in
    let x = c.in_err-arena_judge.field-0.0 in
    let is : c.from_residual.result ≡ Err x = search rules in
    rw is (judged-old m.tables.now m.arena.now a.content.now m.bytes m.is_whole a.upload.0 a.number.0 c.requires.is_open a.opened c.requires.opened c.find_part_after-place.result c.find_part_after-place.ensures c.rows_end-end.result c.rows_end-end.ensures c.if-place.true h.result h.ensures (number_of x) c.in_err-arena_judge.ensures)

pub returns-then-place-clause-judged : goal.returns-then-place-clause-judged
returns-then-place-clause-judged c =
    let a = c.args in
    let m = a.memory.whole in
    let h = c.read_head-h in
    judged-old m.tables.now m.arena.now a.content.now m.bytes m.is_whole a.upload.0 a.number.0 c.requires.is_open a.opened c.requires.opened c.find_part_after-place.result c.find_part_after-place.ensures c.rows_end-end.result c.rows_end-end.ensures c.if-place.true h.result h.ensures 0 c.in_ok-arena_judge.ensures

pub returns-then-place-clause-placed : goal.returns-then-place-clause-placed
returns-then-place-clause-placed c =
    let a = c.args in
    let m = a.memory.whole in
    (place_is m.tables.now m.arena.now a.content.now m.bytes m.is_whole a.upload.0 a.number.0 c.requires.is_open a.opened c.requires.opened c.find_part_after-place.result c.find_part_after-place.ensures c.rows_end-end.result c.rows_end-end.ensures, c.rows_end-end.ensures)

pub returns-then-parts-ge-PARTS_MOST-clause-judged : goal.returns-then-parts-ge-PARTS_MOST-clause-judged
returns-then-parts-ge-PARTS_MOST-clause-judged c =
    let a = c.args in
    let m = a.memory.whole in
    let k = c.counts-parts in
    judged-full m.tables.now m.arena.now a.content.now m.bytes m.is_whole a.upload.0 a.number.0 c.requires.is_open a.opened c.requires.opened c.find_part_after-place.result c.find_part_after-place.ensures c.rows_end-end.result c.rows_end-end.ensures c.if-place.false k.result.parts k.ensures.parts c.if-parts-ge-PARTS_MOST.true

pub arena_judge-requires-2 : goal.arena_judge-requires-2
arena_judge-requires-2 c =
    let a = c.args in
    let m = a.memory.whole in
    omega (arith, held-inside m.tables.now m.arena.now a.content.now m.bytes m.is_whole a.upload.0 a.number.0 c.requires.is_open a.opened c.requires.opened c.find_part_after-place.result c.find_part_after-place.ensures c.rows_end-end.result c.rows_end-end.ensures)

pub returns-in_err-arena_judge-2-clause-judged : goal.returns-in_err-arena_judge-2-clause-judged
returns-in_err-arena_judge-2-clause-judged c =
    let a = c.args in
    let m = a.memory.whole in
    let k = c.counts-parts in
    let x = c.in_err-arena_judge-2.field-0.0 in
    let is : c.from_residual-in_err-arena_judge-2.result ≡ Err x = search rules in
    rw is (judged-new m.tables.now m.arena.now a.content.now m.bytes m.is_whole a.upload.0 a.number.0 c.requires.is_open a.opened c.requires.opened c.find_part_after-place.result c.find_part_after-place.ensures c.rows_end-end.result c.rows_end-end.ensures c.if-place.false k.result.parts k.ensures.parts (omega arith) (number_of x) c.in_err-arena_judge-2.ensures)

pub returns-clause-judged : goal.returns-clause-judged
returns-clause-judged c =
    let a = c.args in
    let m = a.memory.whole in
    let k = c.counts-parts in
    judged-new m.tables.now m.arena.now a.content.now m.bytes m.is_whole a.upload.0 a.number.0 c.requires.is_open a.opened c.requires.opened c.find_part_after-place.result c.find_part_after-place.ensures c.rows_end-end.result c.rows_end-end.ensures c.if-place.false k.result.parts k.ensures.parts (omega arith) 0 c.in_ok-arena_judge-2.ensures

pub returns-clause-placed : goal.returns-clause-placed
returns-clause-placed c =
    let a = c.args in
    let m = a.memory.whole in
    (place_is m.tables.now m.arena.now a.content.now m.bytes m.is_whole a.upload.0 a.number.0 c.requires.is_open a.opened c.requires.opened c.find_part_after-place.result c.find_part_after-place.ensures c.rows_end-end.result c.rows_end-end.ensures, c.rows_end-end.ensures)
