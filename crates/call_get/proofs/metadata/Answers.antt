-- `call_get::metadata` meets its contract: the numbers of the head, the etag, and the size of the pairs. Assumes nothing.
use Prim.Native.Nat.{◌≤◌}
use native.Mathlib.Omega.{arith}
use lib.ListN.{drop}
use Rattle.mem_row.specs.Row.{span_at}
use Rattle.call_get.proofs.Stored.{size-most, metadata-told}
use Rattle.call_get.proofs.metadata.Goals as goal

pub read_head-h-requires : goal.read_head-h-requires
unfolding span_at
read_head-h-requires c = omega arith

pub etag-etag-requires : goal.etag-etag-requires
unfolding span_at
etag-etag-requires c = omega arith

pub overflow_cast-result-2 : goal.overflow_cast-result-2
overflow_cast-result-2 c =
    let small : c.pairs_size-held.result ≤ 32130 = omega (arith, c.pairs_size-held.ensures, size-most c.args.tables.now c.args.at (λ j. (c.type_inv.tables j).fits) c.requires.0) in
    omega (arith, small)

pub overflow_add-result : goal.overflow_add-result
overflow_add-result c =
    let small : c.pairs_size-held.result ≤ 32130 = omega (arith, c.pairs_size-held.ensures, size-most c.args.tables.now c.args.at (λ j. (c.type_inv.tables j).fits) c.requires.0) in
    omega (arith, small)

pub returns : goal.returns
returns c =
    let a = c.args in
    metadata-told (drop a.at a.tables.now) c.read_head-h.result c.etag-etag.result c.pairs_size-held.result c.read_head-h.ensures c.etag-etag.ensures c.pairs_size-held.ensures
