-- `base_md5::put` meets its contract: four words, each written after the one before (`Fields.puts`). Assumes nothing.
use Rattle.base_md5.proofs.Fields.{puts}
use Rattle.base_md5.proofs.put.Goals as goal

pub returns : goal.returns
returns c = puts c.args.b.now c.args.at c.args.v c.requires c.put_u32.ensures c.put_u32-2.ensures c.put_u32-3.ensures c.put_u32-4.ensures
