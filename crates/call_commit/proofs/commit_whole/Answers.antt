-- `call_commit::commit_whole` meets its contract: refused, or the parts joined. Assumes nothing.
use mathlib.Core.Path.{refl, sym}
use Rattle.machine.specs.Calls.{nothing, no_buffers}
use Rattle.call_contract.proofs.MadeLaws.{done}
use Rattle.call_commit.proofs.Committing.{commit-ready, commit-done}
use Rattle.call_commit.proofs.commit_whole.Goals as goal

pub join-requires : goal.join-requires
join-requires c =
    let room = c.in_ok-room.room in
    let told = c.in_ok-room.ensures in
    let judged = rw (c.of-memory.ensures.tables, c.of-memory.ensures.arena) at told.judged in
    let placed = rw (c.of-memory.ensures.tables, c.of-memory.ensures.arena) at told.placed in
    commit-ready c.args.tables.now c.args.arena.now c.args.upload.0 c.args.list.now c.requires.0 (sym judged) (λ i. (c.slice_known-1.given i).fits) room.bounds room.place room.ascends placed

pub returns : goal.returns
returns c =
    let room = c.in_ok-room.room in
    let told = c.in_ok-room.ensures in
    let judged = rw (c.of-memory.ensures.tables, c.of-memory.ensures.arena) at told.judged in
    let placed = rw (c.of-memory.ensures.tables, c.of-memory.ensures.arena) at told.placed in
    let ready = commit-ready c.args.tables.now c.args.arena.now c.args.upload.0 c.args.list.now c.requires.0 (sym judged) (λ i. (c.slice_known-1.given i).fits) room.bounds room.place room.ascends placed in
    let accepted = commit-done c.args.tables.now c.args.arena.now c.args.upload.0 c.args.list.now c.requires.0 (sym judged) (λ i. (c.slice_known-1.given i).fits) room.bounds room.place room.ascends placed in
    let o = c.join in
    done nothing no_buffers _ accepted refl (o.ensures ready) o.auto.tables o.auto.arena
