-- `mem_join_order::order_parts` meets its contract. The invariant: what is to come of the parts that remain does not change. Assumes nothing.
use Prim.Native.Nat.{◌+◌, ◌-◌}
use mathlib.Core.Path.{refl}
use native.Mathlib.Omega.{arith}
use lib.ListN.{drop}
use Rattle.mem_join_order.specs.Region.{Region, ListedAt}
use Rattle.mem_join_order.proofs.Ordering.{Turned, turned_none, within, number-inside, turn-part, turn, turned-all}
use Rattle.mem_row.specs.Row.{head_length}
use Rattle.mem_join_order.proofs.order_parts.Goals as goal

pub loop-i-init : goal.loop-i-init
loop-i-init c = (refl, refl, λ k. turned_none _ _ _ _ _ k)

pub get_u16-number-requires : goal.get_u16-number-requires
get_u16-number-requires c =
    let p = c.requires in
    number-inside _ _ _ _ _ p _ _ _ _ _ (c.loop-i.invariant.2 p) c.loop-i-test.true

pub bring-size-requires : goal.bring-size-requires
bring-size-requires c =
    let p = c.requires in
    turn-part _ _ _ _ _ p _ _ _ _ _ (c.loop-i.invariant.2 p) c.loop-i-test.true c.get_u16-number.result c.get_u16-number.ensures

pub overflow_add-row_at : goal.overflow_add-row_at
overflow_add-row_at c =
    let turned : (k : ListedAt c.args.tables.now c.args.arena.now c.args.at c.args.base c.args.list.now)
    → Turned c.args.tables.now c.args.arena.now c.args.at c.args.base c.args.list.now k
    c.bring-size.new.tables c.bring-size.new.arena (c.loop-i.row_at + head_length) (c.loop-i.data_at + c.bring-size.result) (drop (c.loop-i.i + 2) c.args.list.now) = λ k. let l = c.loop-i.invariant.2 k in
    let more = c.loop-i-test.true in
    turn _ _ _ _ _ k _ _ _ _ _ l more c.get_u16-number.result c.get_u16-number.ensures _ _ c.bring-size.result
    (c.bring-size.ensures (turn-part _ _ _ _ _ k _ _ _ _ _ l more c.get_u16-number.result c.get_u16-number.ensures)) in
    let region : Region c.bring-size.new.tables c.bring-size.new.arena (c.loop-i.row_at + head_length) (c.loop-i.data_at + c.bring-size.result) = (turned c.requires).rest.region in
    omega (arith, (within _ _ _ _ (region)).0)

pub overflow_add-data_at : goal.overflow_add-data_at
overflow_add-data_at c =
    let turned : (k : ListedAt c.args.tables.now c.args.arena.now c.args.at c.args.base c.args.list.now)
    → Turned c.args.tables.now c.args.arena.now c.args.at c.args.base c.args.list.now k
    c.bring-size.new.tables c.bring-size.new.arena (c.loop-i.row_at + head_length) (c.loop-i.data_at + c.bring-size.result) (drop (c.loop-i.i + 2) c.args.list.now) = λ k. let l = c.loop-i.invariant.2 k in
    let more = c.loop-i-test.true in
    turn _ _ _ _ _ k _ _ _ _ _ l more c.get_u16-number.result c.get_u16-number.ensures _ _ c.bring-size.result
    (c.bring-size.ensures (turn-part _ _ _ _ _ k _ _ _ _ _ l more c.get_u16-number.result c.get_u16-number.ensures)) in
    let region : Region c.bring-size.new.tables c.bring-size.new.arena (c.loop-i.row_at + head_length) (c.loop-i.data_at + c.bring-size.result) = (turned c.requires).rest.region in
    omega (arith, (within _ _ _ _ (region)).1)

pub overflow_add-i : goal.overflow_add-i
overflow_add-i c =
    let p = c.requires in
    omega (arith, number-inside _ _ _ _ _ p _ _ _ _ _ (c.loop-i.invariant.2 p) c.loop-i-test.true)

pub loop-i-preserved : goal.loop-i-preserved
loop-i-preserved c =
    let turned : (k : ListedAt c.args.tables.now c.args.arena.now c.args.at c.args.base c.args.list.now)
    → Turned c.args.tables.now c.args.arena.now c.args.at c.args.base c.args.list.now k
    c.bring-size.new.tables c.bring-size.new.arena (c.loop-i.row_at + head_length) (c.loop-i.data_at + c.bring-size.result) (drop (c.loop-i.i + 2) c.args.list.now) = λ k. let l = c.loop-i.invariant.2 k in
    let more = c.loop-i-test.true in
    turn _ _ _ _ _ k _ _ _ _ _ l more c.get_u16-number.result c.get_u16-number.ensures _ _ c.bring-size.result
    (c.bring-size.ensures (turn-part _ _ _ _ _ k _ _ _ _ _ l more c.get_u16-number.result c.get_u16-number.ensures)) in
    (omega arith, omega arith, λ k. turned k)

pub returns : goal.returns
returns c = λ k. turned-all _ _ _ _ _ k _ _ _ _ _ (c.loop-i.invariant.2 k) c.loop-i-test.false
