-- `base_md5::block::auxiliary` meets its contract: each arm sums to its round's function (`Choice`). Assumes nothing.
use Rattle.std.proofs.Common.{◌∙◌, zero-add, rules}
use Rattle.base_md5.proofs.Choice.{first, second}
use Rattle.base_md5.proofs.block.auxiliary.Goals as goal

pub returns-in-First : goal.returns-in-First
returns-in-First c = rw c.in-First.is (zero-add _ ∙ first c.args.x c.args.y c.args.z (search rules) (search rules))

pub returns-in-Second : goal.returns-in-Second
returns-in-Second c = rw c.in-Second.is (second c.args.x c.args.y c.args.z (search rules))
