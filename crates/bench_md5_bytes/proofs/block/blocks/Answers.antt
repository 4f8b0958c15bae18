-- `bench_md5_bytes::block::blocks` meets its contract. The loop's invariant: the first i blocks are in m. The measure is the blocks left. Assumes nothing.
use Rattle.std.proofs.Common.{◌-◌, arith, length-drop, length-take}
use Rattle.bench_md5_bytes.proofs.block.blocks.Goals as goal

pub loop-i-init : goal.loop-i-init
loop-i-init c = (omega arith, omega arith)

pub block-v-requires : goal.block-v-requires
block-v-requires c = simp (length-take, length-drop) (omega arith)

pub loop-i-preserved : goal.loop-i-preserved
loop-i-preserved c = (omega arith, omega arith)
