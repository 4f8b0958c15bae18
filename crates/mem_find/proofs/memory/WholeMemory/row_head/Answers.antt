-- `mem_find::rows::WholeMemory::row_head` meets its contract: whole memory has the row's bytes there. Assumes nothing.
use native.Mathlib.Omega.{arith}
use Rattle.mem_layout.specs.Memory.{state_of}
use Rattle.mem_layout.proofs.WholeLaws.{whole-stands}
use Rattle.mem_find.proofs.RowHeads.{place-reached, row_inside, turn-at, head-at}
use Rattle.mem_find.proofs.memory.WholeMemory.row_head.Goals as goal

pub read_head-requires : goal.read_head-requires
read_head-requires c =
    let m = c.args.self in
    let p = c.args.here in
    let stands = whole-stands m.tables.now m.arena.now m.bytes m.is_whole in
    let more = c.requires.1 in
    omega (arith, row_inside m.tables.now m.arena.now (state_of m.tables.now m.arena.now) stands p.row p.at p.base (place-reached _ p c.requires.0 (omega arith)) more)

pub returns-clause-row : goal.returns-clause-row
returns-clause-row c =
    let m = c.args.self in
    head-at m.tables.now m.arena.now _ (whole-stands m.tables.now m.arena.now m.bytes m.is_whole) c.args.here c.requires c.read_head.result c.read_head.ensures

pub returns-clause-inside : goal.returns-clause-inside
returns-clause-inside c =
    let m = c.args.self in
    let turn = turn-at m.tables.now m.arena.now _ (whole-stands m.tables.now m.arena.now m.bytes m.is_whole) c.args.here c.requires c.read_head.result c.read_head.ensures in
    (turn.inside, turn.arena-inside)
