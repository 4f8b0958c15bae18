-- `call_put::put_whole` meets its contract: refused, or the digest, then the object. Assumes nothing.
use mathlib.Core.Path.{refl, sym}
use Rattle.machine.specs.Calls.{nothing, no_buffers}
use Rattle.machine.specs.Pairs.{pair_list}
use Rattle.mem_layout.specs.Memory.{state_of}
use Rattle.call_contract.specs.Made.{memory}
use Rattle.call_contract.proofs.MadeLaws.{done}
use Rattle.call_put.proofs.Putting.{put-accepted, put-ready, pairs-taken, put-stands}
use Rattle.call_put.proofs.put_whole.Goals as goal

pub put_object-requires : goal.put_object-requires
put_object-requires c =
    let a = c.args in
    let d = c.digest-digest in
    let ps = pair_list a.pairs.now in
    let o = c.of-memory.ensures in
    let accepted = sym (rw (o.tables, o.arena) at c.in_ok-room.ensures.judged) in (
      rw (o.tables, o.arena) at c.in_ok-room.ensures.placed,
      pairs-taken a.stamp.0 a.path.now a.content.now ps d.result d.ensures a.tables.now a.arena.now accepted,
      (c.requires.0, put-ready a.stamp.0 a.path.now a.content.now ps d.result d.ensures a.tables.now a.arena.now (rw o.tables at c.of-memory.result.whole.bytes) c.requires.0 accepted),
    )

pub returns : goal.returns
returns c =
    let a = c.args in
    let d = c.digest-digest in
    let o = c.put_object in
    let m = c.of-memory.ensures in
    let ps = pair_list a.pairs.now in
    let accepted = put-accepted (memory a.tables.now a.arena.now) a.stamp.0 a.path.now a.content.now ps (sym (rw (m.tables, m.arena) at c.in_ok-room.ensures.judged)) in
    let stands = put-stands a.stamp.0 a.path.now a.content.now ps d.result d.ensures (state_of a.tables.now a.arena.now) o.new.tables o.new.arena o.ensures in
    done nothing no_buffers _ accepted refl stands o.auto.tables o.auto.arena
