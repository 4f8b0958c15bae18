-- `call_room::object_room` meets its contract: the readers say what the checks ask. Assumes nothing.
use mathlib.Core.Path.{◌≡◌, ◌∙◌}
use native.Mathlib.Omega.{arith}
use Rattle.call_room.proofs.ObjectRoom.{held-inside, head-inside, old-inside, judged-old, judged-full, judged-new}
use Rattle.call_types.specs.Numbers.{number_of, result_number}
use Rattle.std.proofs.Common.{rules}
use Rattle.call_room.proofs.object_room.Goals as goal

pub read_head-h-requires : goal.read_head-h-requires
read_head-h-requires c =
    let a = c.args in
    let m = a.memory in
    head-inside m.tables.now m.arena.now m.bytes m.is_whole a.end c.requires.end c.requires.place.0 a.place c.requires.place.1 c.if-place.true

pub overflow_sub-held : goal.overflow_sub-held
overflow_sub-held c =
    let a = c.args in
    let m = a.memory in
    let h = c.read_head-h in
    old-inside m.tables.now m.arena.now m.bytes m.is_whole a.end c.requires.end c.requires.place.0 a.place c.requires.place.1 c.if-place.true h.result h.ensures

pub arena_judge-requires : goal.arena_judge-requires
arena_judge-requires c =
    let a = c.args in
    let m = a.memory in
    let i = held-inside m.tables.now m.arena.now m.bytes m.is_whole a.end c.requires.end c.requires.place.0 a.place c.requires.place.1 in
    omega arith

pub returns-in_err-arena_judge-clause-judged : goal.returns-in_err-arena_judge-clause-judged
returns-in_err-arena_judge-clause-judged c p q =
    let a = c.args in
    let m = a.memory in
    let h = c.read_head-h in
    let told : result_number c.from_residual.result ≡ number_of c.in_err-arena_judge.field-0.0 = search rules in
    judged-old m.tables.now m.arena.now m.bytes m.is_whole a.end c.requires.end p a.place q c.if-place.true h.result h.ensures _ a.n (told ∙ c.in_err-arena_judge.ensures)

pub returns-then-place-clause-judged : goal.returns-then-place-clause-judged
returns-then-place-clause-judged c p q =
    let a = c.args in
    let m = a.memory in
    let h = c.read_head-h in
    judged-old m.tables.now m.arena.now m.bytes m.is_whole a.end c.requires.end p a.place q c.if-place.true h.result h.ensures _ a.n c.in_ok-arena_judge.ensures

pub returns-then-objects-ge-OBJECTS_MOST-clause-judged : goal.returns-then-objects-ge-OBJECTS_MOST-clause-judged
returns-then-objects-ge-OBJECTS_MOST-clause-judged c p q stamp content ps l =
    let a = c.args in
    let m = a.memory in
    let o = c.counts-objects in
    judged-full m.tables.now m.arena.now m.bytes m.is_whole a.end c.requires.end p a.place q c.if-place.false o.result.objects o.ensures.objects c.if-objects-ge-OBJECTS_MOST.true stamp content ps

pub arena_judge-requires-2 : goal.arena_judge-requires-2
arena_judge-requires-2 c =
    let a = c.args in
    let m = a.memory in
    held-inside m.tables.now m.arena.now m.bytes m.is_whole a.end c.requires.end c.requires.place.0 a.place c.requires.place.1

pub returns-in_err-arena_judge-2-clause-judged : goal.returns-in_err-arena_judge-2-clause-judged
returns-in_err-arena_judge-2-clause-judged c p q =
    let a = c.args in
    let m = a.memory in
    let o = c.counts-objects in
    let told : result_number c.from_residual-in_err-arena_judge-2.result ≡ number_of c.in_err-arena_judge-2.field-0.0 = search rules in
    judged-new m.tables.now m.arena.now m.bytes m.is_whole a.end c.requires.end p a.place q c.if-place.false o.result.objects o.ensures.objects c.if-objects-ge-OBJECTS_MOST.false _ a.n (told ∙ c.in_err-arena_judge-2.ensures)

pub returns-clause-judged : goal.returns-clause-judged
returns-clause-judged c p q =
    let a = c.args in
    let m = a.memory in
    let o = c.counts-objects in
    judged-new m.tables.now m.arena.now m.bytes m.is_whole a.end c.requires.end p a.place q c.if-place.false o.result.objects o.ensures.objects c.if-objects-ge-OBJECTS_MOST.false _ a.n c.in_ok-arena_judge-2.ensures
