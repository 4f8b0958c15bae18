-- `base_number::get_u32` meets its contract: a number is read by its halves. Assumes nothing.
use Rattle.base_number.proofs.Halves.{get-halves}
use Rattle.base_number.proofs.get_u32.Goals as goal

pub returns : goal.returns
returns c = get-halves c.args.b.now c.args.at 2 c.get_u16.result c.get_u16-2.result c.requires c.get_u16.ensures c.get_u16-2.ensures
