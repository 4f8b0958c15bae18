-- `pairs_write::writing::write_bytes` meets its contract. Assumes nothing.
use Rattle.pairs_write.proofs.Encoding.{bytes-written}
use Rattle.pairs_write.proofs.writing.write_bytes.Goals as goal

pub returns : goal.returns
returns c = bytes-written c.args.bytes.now c.args.key.now c.args.value.now c.args.at _ _ c.requires c.copy_at.ensures c.copy_at-2.ensures
