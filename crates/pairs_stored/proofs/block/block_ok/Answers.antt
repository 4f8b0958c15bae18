-- `pairs_stored::block::block_ok` meets its contract. Assumes nothing.
use mathlib.Core.Path.{sym}
use native.Mathlib.Omega.{arith}
use borrow.Author.Tests.{lt-leb}
use lib.ListN.{length}
use Rattle.pairs_stored.proofs.Blocks.{block_none, block-many, block-short, block-by}
use Rattle.pairs_stored.proofs.block.block_ok.Goals as goal

pub returns-then-lengths-eq0 : goal.returns-then-lengths-eq0
returns-then-lengths-eq0 c = let a = c.args in sym (block_none a.lengths.now a.block.now (omega arith))

pub returns-then-lengths : goal.returns-then-lengths
returns-then-lengths c = let a = c.args in block-many a.lengths.now a.block.now (omega arith)

pub returns-then-n-block : goal.returns-then-n-block
returns-then-n-block c =
    let a = c.args in
    let s = c.sum_of-n in
    block-by a.lengths.now a.block.now s.result s.ensures c.stored_ok.result c.stored_ok.ensures

pub returns-else-n-block : goal.returns-else-n-block
returns-else-n-block c =
    let a = c.args in
    let s = c.sum_of-n in
    rw (lt-leb s.result (length a.block.now) (omega arith)) (block-short a.lengths.now a.block.now s.result s.ensures (omega arith))
