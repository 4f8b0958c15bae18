-- `base_md5::block::sines` meets its contract: the numbers of the list. Assumes nothing.
use Rattle.std.proofs.Common.{refl}
use Rattle.base_md5.specs.Md5.{sines}
use Rattle.base_md5.proofs.block.sines.Goals as goal

pub returns : goal.returns
unfolding sines
returns c = refl
