-- `mem_find::pairs::lengths` meets its contract: the lengths stand after the path. Assumes nothing.
use Prim.Native.Nat.{ℕ, ◌+◌}
use mathlib.Core.Path.{◌≡◌, refl, ap}
use native.Mathlib.Omega.{arith}
use lib.ListN.{drop}
use Rattle.mem_row.specs.Row.{span_at, span}
use Rattle.mem_find.proofs.PairSizes.{span-is, lengths-is}
use Rattle.mem_find.proofs.row_pairs.lengths.Goals as goal

pub read_head-h-requires : goal.read_head-h-requires
unfolding span_at
read_head-h-requires c = omega arith

pub overflow_add-from : goal.overflow_add-from
overflow_add-from c =
    let here : let a = c.args in span_at (drop a.at a.tables.now) ≡ span c.read_head-h.result = let a = c.args in span-is a.tables.now a.at c.read_head-h.result c.read_head-h.ensures in
    omega (arith, here)

pub overflow_add-from-2 : goal.overflow_add-from-2
overflow_add-from-2 c =
    let here : let a = c.args in span_at (drop a.at a.tables.now) ≡ span c.read_head-h.result = let a = c.args in span-is a.tables.now a.at c.read_head-h.result c.read_head-h.ensures in
    omega (arith, here)

pub overflow_add-to : goal.overflow_add-to
overflow_add-to c =
    let here : let a = c.args in span_at (drop a.at a.tables.now) ≡ span c.read_head-h.result = let a = c.args in span-is a.tables.now a.at c.read_head-h.result c.read_head-h.ensures in
    omega (arith, here)

pub slice_bounds-result-end : goal.slice_bounds-result-end
slice_bounds-result-end c =
    let here : let a = c.args in span_at (drop a.at a.tables.now) ≡ span c.read_head-h.result = let a = c.args in span-is a.tables.now a.at c.read_head-h.result c.read_head-h.ensures in
    omega (arith, here)

pub returns : goal.returns
returns c =
    let a = c.args in
    let r = c.read_head-h in
    lengths-is a.tables.now a.at r.result r.ensures _ _ refl (ap (λ (n : ℕ). a.at + n) c.span.ensures)
