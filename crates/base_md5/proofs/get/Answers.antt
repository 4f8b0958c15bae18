-- `base_md5::get` meets its contract: four words, read in their order (`Fields.gets`). Assumes nothing.
use Rattle.base_md5.proofs.Fields.{gets}
use Rattle.base_md5.proofs.get.Goals as goal

pub returns : goal.returns
returns c =
    let args = c.args in
    gets args.b.now args.at _ c.requires c.get_u32.ensures c.get_u32-2.ensures c.get_u32-3.ensures c.get_u32-4.ensures
