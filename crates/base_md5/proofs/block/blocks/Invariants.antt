-- `base_md5::block::blocks` meets its contract. The loop's invariant: v is the chain over the first i blocks. Assumes nothing.
use Rattle.std.proofs.Common.{◌≡◌}
use Rattle.base_md5.specs.Md5.{chain}
use Rattle.base_md5.proofs.block.blocks.Given as goal

abbrev pub invariant-loop-i : goal.invariant-loop-i
invariant-loop-i l = l.v ≡ chain l.initial.v l.m l.i
