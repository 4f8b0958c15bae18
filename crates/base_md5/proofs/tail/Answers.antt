-- `base_md5::tail` meets its contract: the rest copied over zeros, the byte 128 after it, the length over the last eight (`LastBlocks.tailed`). Assumes nothing.
use Rattle.std.proofs.Common.{refl}
use Rattle.base_md5.proofs.LastBlocks.{tailed}
use Rattle.base_md5.proofs.tail.Goals as goal

pub returns : goal.returns
returns c =
    tailed c.args.«data».now _ c.args.start c.args.at c.bits.result refl c.requires.0 c.requires.1 c.requires.2 c.copy_at.ensures c.bits.ensures c.put_u64.ensures
