-- `base_md5::block::operation` meets its contract: the sums and the rotation are those of the definition (`Steps.stepped`). Assumes nothing.
use Rattle.std.proofs.Common.{get_or}
use Rattle.base_md5.proofs.Steps.{stepped}
use Rattle.base_md5.proofs.block.operation.Goals as goal

pub returns : goal.returns
returns c =
    let args = c.args in
    let f = c.auxiliary-f in
    stepped args.r (get_or args.x args.k 0) args.s (get_or args.t args.i 0) args.v f.result.early f.result.late c.requires.1 c.requires.2
    f.ensures c.rotate_left.ensures
