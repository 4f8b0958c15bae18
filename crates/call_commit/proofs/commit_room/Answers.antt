-- `call_commit::commit_room` meets its contract: the path in the upload's row has an object, or there is room for one more, or not. Assumes nothing.
use Rattle.mem_layout.specs.Memory.{state_of}
use Rattle.mem_find_uploads.proofs.Answers.{open-row-place}
use Rattle.call_commit.proofs.PathRoom.{path-place, room-old, room-new, room-full}
use native.Mathlib.Omega.{arith}
use Rattle.call_commit.proofs.commit_room.Goals as goal

pub row_head-h-requires : goal.row_head-h-requires
row_head-h-requires c = let p = c.requires.1 in open-row-place (state_of c.args.memory.tables.now c.args.memory.arena.now) p.0 c.args.here p.1 p.2

pub returns-then-place-clause-judged : goal.returns-then-place-clause-judged
returns-then-place-clause-judged c u x q is = let a = c.args in room-old a.memory.tables.now a.memory.arena.now c.args.memory.bytes c.args.memory.is_whole u a.here q _ c.row_head-h.ensures.read _ c.find_object-place.ensures x is c.if-place.true

pub returns-then-place-clause-placed : goal.returns-then-place-clause-placed
returns-then-place-clause-placed c u x q is = let a = c.args in path-place a.memory.tables.now a.memory.arena.now c.args.memory.bytes c.args.memory.is_whole u a.here q _ c.row_head-h.ensures.read _ c.find_object-place.ensures x is

pub returns-then-objects-ge-OBJECTS_MOST-clause-judged : goal.returns-then-objects-ge-OBJECTS_MOST-clause-judged
returns-then-objects-ge-OBJECTS_MOST-clause-judged c u x q is = let a = c.args in room-full a.memory.tables.now a.memory.arena.now c.args.memory.bytes c.args.memory.is_whole u a.here q _ c.row_head-h.ensures.read _ c.find_object-place.ensures x is c.if-place.false _ c.counts-objects.ensures.objects c.if-objects-ge-OBJECTS_MOST.true

pub returns-clause-judged : goal.returns-clause-judged
returns-clause-judged c u x q is = let a = c.args in room-new a.memory.tables.now a.memory.arena.now c.args.memory.bytes c.args.memory.is_whole u a.here q _ c.row_head-h.ensures.read _ c.find_object-place.ensures x is c.if-place.false _ c.counts-objects.ensures.objects (omega arith)

pub returns-clause-placed : goal.returns-clause-placed
returns-clause-placed c u x q is = let a = c.args in path-place a.memory.tables.now a.memory.arena.now c.args.memory.bytes c.args.memory.is_whole u a.here q _ c.row_head-h.ensures.read _ c.find_object-place.ensures x is
