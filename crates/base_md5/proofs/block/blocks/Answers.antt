-- `base_md5::block::blocks` meets its contract. The loop's invariant: v is the chain over the first i blocks. Assumes nothing.
use Rattle.std.proofs.Common.{refl}
use Rattle.base_md5.specs.Md5.{chain}
use Rattle.base_md5.proofs.Chain.{chain_more}
use Rattle.base_md5.proofs.block.blocks.Goals as goal

pub loop-i-init : goal.loop-i-init
unfolding chain
loop-i-init c = refl

pub loop-i-preserved : goal.loop-i-preserved
loop-i-preserved c = chain_more c.args.v0 c.args.m.now c.loop-i.i c.loop-i.invariant c.block-v.ensures
