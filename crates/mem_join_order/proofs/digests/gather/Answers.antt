-- `mem_join_order::digests::gather` meets its contract. The invariant: the digests of the rows passed stand at the front. Assumes nothing.
use Prim.Native.Nat.{◌+◌, ◌-◌, ◌*◌, ◌≤◌}
use mathlib.Core.Path.{◌≡◌, refl, ◌∙◌}
use native.Mathlib.Nat.{add-sub_cancel_left}
use lib.ListN.{length, take, drop}
use Rattle.mem_join_order.proofs.Gathering.{gathered_none, gathered-all, row_inside, gathered_next}
use native.Mathlib.Omega.{arith}
use Rattle.mem_row.specs.Row.{numbers_length, head_length}
use Rattle.mem_join_order.proofs.digests.gather.Goals as goal

pub loop-i-init : goal.loop-i-init
loop-i-init c = (refl, λ k. gathered_none _ _ _ k _)

pub overflow_mul-from : goal.overflow_mul-from
overflow_mul-from c =
    let inside : c.args.at + head_length * c.loop-i.i + head_length ≤ length c.args.tables.now = let p = c.requires.0 in row_inside _ _ _ p _ _ (c.loop-i.invariant.1 p) c.loop-i-test.true in
    omega (arith, inside)

pub overflow_add-from : goal.overflow_add-from
overflow_add-from c =
    let inside : c.args.at + head_length * c.loop-i.i + head_length ≤ length c.args.tables.now = let p = c.requires.0 in row_inside _ _ _ p _ _ (c.loop-i.invariant.1 p) c.loop-i-test.true in
    omega (arith, inside)

pub overflow_add-from-in-loop-i : goal.overflow_add-from-in-loop-i
overflow_add-from-in-loop-i c =
    let inside : c.args.at + head_length * c.loop-i.i + head_length ≤ length c.args.tables.now = let p = c.requires.0 in row_inside _ _ _ p _ _ (c.loop-i.invariant.1 p) c.loop-i-test.true in
    omega (arith, inside)

pub overflow_add-to : goal.overflow_add-to
overflow_add-to c =
    let inside : c.args.at + head_length * c.loop-i.i + head_length ≤ length c.args.tables.now = let p = c.requires.0 in row_inside _ _ _ p _ _ (c.loop-i.invariant.1 p) c.loop-i-test.true in
    omega (arith, inside)

pub slice_bounds-copy_at-count : goal.slice_bounds-copy_at-count
slice_bounds-copy_at-count c =
    let inside : c.args.at + head_length * c.loop-i.i + head_length ≤ length c.args.tables.now = let p = c.requires.0 in row_inside _ _ _ p _ _ (c.loop-i.invariant.1 p) c.loop-i-test.true in
    omega (arith, inside)

pub slice_bounds-copy_at-start : goal.slice_bounds-copy_at-start
slice_bounds-copy_at-start c =
    let inside : c.args.at + head_length * c.loop-i.i + head_length ≤ length c.args.tables.now = let p = c.requires.0 in row_inside _ _ _ p _ _ (c.loop-i.invariant.1 p) c.loop-i-test.true in
    omega (arith, inside)

pub slice_bounds-copy_at-end : goal.slice_bounds-copy_at-end
slice_bounds-copy_at-end c =
    let inside : c.args.at + head_length * c.loop-i.i + head_length ≤ length c.args.tables.now = let p = c.requires.0 in row_inside _ _ _ p _ _ (c.loop-i.invariant.1 p) c.loop-i-test.true in
    omega (arith, inside)

pub loop-i-preserved : goal.loop-i-preserved
loop-i-preserved c =
    let a = c.args in
    let n = c.loop-i.invariant.0 in
    let from = a.at + head_length * c.loop-i.i + numbers_length in
    let part : take (from + 16 - from) (drop from a.tables.now) ≡ take 16 (drop from a.tables.now) = rw add-sub_cancel_left in (
      c.copy_at.auto.dst ∙ n,
      λ k. gathered_next _ _ _ k _ _ (c.loop-i.invariant.1 k) c.loop-i-test.true _ _ (omega arith) part c.copy_at.ensures,
    )

pub shape_of-all : goal.shape_of-all
shape_of-all c = c.loop-i.invariant.0

pub returns : goal.returns
returns c = λ k. gathered-all _ _ _ k _ _ (c.loop-i.invariant.1 k) c.loop-i-test.false
