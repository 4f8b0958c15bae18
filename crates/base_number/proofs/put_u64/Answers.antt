-- `base_number::put_u64` meets its contract: a number is written by its halves. Assumes nothing.
use Rattle.base_number.proofs.Halves.{put-halves}
use Rattle.base_number.proofs.put_u64.Goals as goal

pub returns : goal.returns
returns c =
    let a = c.args in
    put-halves a.b.now a.at c.put_u32.new.b c.put_u32-2.new.b 4 a.v c.requires c.put_u32.ensures c.put_u32-2.ensures
