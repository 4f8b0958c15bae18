-- `base_number::put_u32` meets its contract: a number is written by its halves. Assumes nothing.
use Rattle.base_number.proofs.Halves.{put-halves}
use Rattle.base_number.proofs.put_u32.Goals as goal

pub returns : goal.returns
returns c =
    let a = c.args in
    put-halves a.b.now a.at c.put_u16.new.b c.put_u16-2.new.b 2 a.v c.requires c.put_u16.ensures c.put_u16-2.ensures
