-- `mem_join_order::find_row` meets its contract. The invariant: the parts passed have other numbers. Assumes nothing.
use Prim.Native.Nat.{◌+◌, ◌-◌, ◌≤◌}
use native.Mathlib.Omega.{arith}
use lib.ListN.{length}
use Rattle.mem_join_order.proofs.Search.{Passed, passed_none, next-inside, arena-inside, found_here, passed-next}
use Rattle.mem_row.specs.Row.{head_length}
use Rattle.mem_join_order.proofs.find_row.Goals as goal

pub loop-h-init : goal.loop-h-init
loop-h-init c = λ k. passed_none _ _ _ _ _ k

pub overflow_add-at : goal.overflow_add-at
overflow_add-at c =
    let passed : Passed c.args.tables.now c.args.arena.now c.args.at c.args.base c.args.number c.requires c.loop-h.rows c.loop-h.bytes = c.loop-h.invariant c.requires in
    let inside : c.args.at + c.loop-h.rows + head_length ≤ length c.args.tables.now = next-inside _ _ _ _ _ _ _ _ passed in
    omega (arith, inside)

pub read_head-h-requires : goal.read_head-h-requires
read_head-h-requires c =
    let passed : Passed c.args.tables.now c.args.arena.now c.args.at c.args.base c.args.number c.requires c.loop-h.rows c.loop-h.bytes = c.loop-h.invariant c.requires in
    let inside : c.args.at + c.loop-h.rows + head_length ≤ length c.args.tables.now = next-inside _ _ _ _ _ _ _ _ passed in
    omega (arith, inside)

pub returns-then-h-number : goal.returns-then-h-number
returns-then-h-number c = λ k. found_here _ _ _ _ _ k _ _ (c.loop-h.invariant k) c.read_head-h.result c.read_head-h.ensures c.if-h-number.true

pub overflow_add-rows : goal.overflow_add-rows
overflow_add-rows c =
    let passed : Passed c.args.tables.now c.args.arena.now c.args.at c.args.base c.args.number c.requires c.loop-h.rows c.loop-h.bytes = c.loop-h.invariant c.requires in
    let inside : c.args.at + c.loop-h.rows + head_length ≤ length c.args.tables.now = next-inside _ _ _ _ _ _ _ _ passed in
    omega (arith, inside)

pub overflow_add-bytes : goal.overflow_add-bytes
overflow_add-bytes c =
    let passed : Passed c.args.tables.now c.args.arena.now c.args.at c.args.base c.args.number c.requires c.loop-h.rows c.loop-h.bytes = c.loop-h.invariant c.requires in
    omega (arith, arena-inside _ _ _ _ _ _ _ _ (passed) c.read_head-h.result c.read_head-h.ensures)

pub loop-h-smaller : goal.loop-h-smaller
loop-h-smaller c =
    let passed : Passed c.args.tables.now c.args.arena.now c.args.at c.args.base c.args.number c.requires c.loop-h.rows c.loop-h.bytes = c.loop-h.invariant c.requires in
    let inside : c.args.at + c.loop-h.rows + head_length ≤ length c.args.tables.now = next-inside _ _ _ _ _ _ _ _ passed in
    omega (arith, inside)

pub loop-h-preserved : goal.loop-h-preserved
loop-h-preserved c = λ k. passed-next _ _ _ _ _ k _ _ (c.loop-h.invariant k) c.read_head-h.result c.read_head-h.ensures c.if-h-number.false
