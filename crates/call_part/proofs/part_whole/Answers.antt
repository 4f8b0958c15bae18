-- `call_part::part_whole` meets its contract: refused, or the digest, then the part. Assumes nothing.
use Prim.Native.Nat.{ℕ}
use mathlib.Core.Path.{sym, ap}
use mathlib.Core.List.{List}
use Rattle.machine.specs.Etags.{plain}
use Rattle.machine.specs.Calls.{etag, no_buffers}
use Rattle.call_contract.specs.Answers.{success}
use Rattle.call_contract.specs.Made.{memory}
use Rattle.call_contract.proofs.MadeLaws.{done}
use Rattle.call_part.proofs.Parting.{part-accepted, part-digest, part-ready, part-stands}
use Rattle.call_part.proofs.part_whole.Goals as goal

pub put_part-requires : goal.put_part-requires
put_part-requires c =
    let a = c.args in
    let d = c.digest-digest in
    let judged = rw (c.of-memory.ensures.tables, c.of-memory.ensures.arena) at c.in_ok-room.ensures.judged in
    let placed = rw (c.of-memory.ensures.tables, c.of-memory.ensures.arena) at c.in_ok-room.ensures.placed in
    (placed, part-ready a.tables.now a.arena.now a.content.now a.upload.0 a.number.0 d.result (sym judged) d.ensures (λ j. (c.slice_known-1.given j).fits) c.requires.0)

pub returns : goal.returns
returns c =
    let a = c.args in
    let z = sym (rw (c.of-memory.ensures.tables, c.of-memory.ensures.arena) at c.in_ok-room.ensures.judged) in
    let d = c.digest-digest in
    let o = c.put_part in
    let accepted = part-accepted (memory a.tables.now a.arena.now) a.upload.0 a.number.0 a.content.now z in
    let stands = part-stands a.tables.now a.arena.now a.content.now a.upload.0 a.number.0 d.result z d.ensures o.new.tables o.new.arena o.ensures in
    done _ no_buffers _ accepted (ap (λ (x : List ℕ). success (etag (plain x)) no_buffers) (part-digest a.content.now d.result d.ensures)) stands o.auto.tables o.auto.arena
