-- `pairs_write::writing::write_pair` meets its contract: four writes, one after the other. Assumes nothing.
use Rattle.pairs_write.proofs.Encoding.{pair-written}
use Rattle.pairs_write.proofs.writing.write_pair.Goals as goal

pub returns : goal.returns
returns c =
    pair-written c.args.answer.now c.args.key.now c.args.value.now c.args.at _ _ _ _ c.requires.2
    c.put_byte.ensures c.copy_at.ensures c.put_byte-2.ensures c.copy_at-2.ensures
