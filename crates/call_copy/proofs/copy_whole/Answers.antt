-- `call_copy::copy_whole` meets its contract: refused, or the source's digest, then the object. Assumes nothing.
use mathlib.Core.Path.{refl, sym, ◌∙◌}
use Rattle.machine.specs.Calls.{nothing, no_buffers}
use Rattle.mem_layout.specs.Memory.{state_of}
use Rattle.mem_find.proofs.Found.{place_found}
use Rattle.call_contract.specs.Made.{memory}
use Rattle.call_contract.proofs.MadeLaws.{done}
use Rattle.call_copy.proofs.Sources.{copy-there, copy-accepted, copy-ready, copy-stands}
use Rattle.call_copy.proofs.copy_whole.Goals as goal

pub source_digest-digest-requires-clause-place : goal.source_digest-digest-requires-clause-place
source_digest-digest-requires-clause-place c = (c.args.source.now, c.in_ok-room.ensures.placed.source-place)

pub source_digest-digest-requires-clause-found : goal.source_digest-digest-requires-clause-found
source_digest-digest-requires-clause-found c =
    let a = c.args in
    let m = c.of-memory.result.whole in
    let room = c.in_ok-room in
    let there = copy-there (memory m.tables.now m.arena.now) a.stamp.0 a.source.now a.destination.now (sym room.ensures.judged) in
    sym (place_found (state_of m.tables.now m.arena.now) a.source.now room.room.source _ room.ensures.placed.source-place refl) ∙ there

pub copy_object-requires : goal.copy_object-requires
copy_object-requires c =
    let a = c.args in
    let o = c.of-memory.ensures in
    let m = c.of-memory.result.whole in
    let e = c.in_ok-room.ensures in
    let d = c.source_digest-digest in
    let ready = copy-ready m.tables.now m.arena.now a.source.now a.destination.now a.stamp.0 d.result m.is_whole (sym e.judged) (d.ensures a.source.now e.placed.source-place) m.bytes in
    (rw (o.tables, o.arena) at ready, rw (o.tables, o.arena) at e.placed)

pub returns : goal.returns
returns c =
    let a = c.args in
    let m = c.of-memory.ensures in
    let judged = rw (m.tables, m.arena) at c.in_ok-room.ensures.judged in
    let placed = rw (m.tables, m.arena) at c.in_ok-room.ensures.placed.source-place in
    let d = c.source_digest-digest in
    let digest = rw (m.tables, m.arena) at (d.ensures a.source.now c.in_ok-room.ensures.placed.source-place) in
    let o = c.copy_object in
    let stands = copy-stands a.tables.now a.arena.now a.source.now a.destination.now a.stamp.0 d.result c.requires.0 (sym judged) digest o.new.tables o.new.arena o.ensures in
    done nothing no_buffers _ (copy-accepted (memory a.tables.now a.arena.now) a.stamp.0 a.source.now a.destination.now (sym judged)) refl stands o.auto.tables o.auto.arena
