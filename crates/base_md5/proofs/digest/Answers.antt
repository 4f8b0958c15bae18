-- `base_md5::digest` meets its contract: the whole blocks, then the last one or two that `tail` makes, chain to the definition (`Chain.digested`). Assumes nothing.
use Rattle.std.proofs.Common.{refl, arith}
use Rattle.base_md5.proofs.Chain.{digested}
use Rattle.base_md5.proofs.digest.Goals as goal

pub returns-then-n-start-lt56 : goal.returns-then-n-start-lt56
returns-then-n-start-lt56 c =
    digested c.args.«data».now c.tail-last.result 56 1 c.initial.result c.blocks-v.result c.blocks-then-n-start-lt56.result
    c.initial.ensures c.blocks-v.ensures c.blocks-then-n-start-lt56.ensures refl (omega arith) (omega arith) c.tail-last.ensures

pub returns-else-n-start-lt56 : goal.returns-else-n-start-lt56
returns-else-n-start-lt56 c =
    digested c.args.«data».now c.tail-last-else-n-start-lt56.result 120 2 c.initial.result c.blocks-v.result c.blocks-else-n-start-lt56.result
    c.initial.ensures c.blocks-v.ensures c.blocks-else-n-start-lt56.ensures refl (omega arith) (omega arith) c.tail-last-else-n-start-lt56.ensures
