-- `base_md5::block::block` meets its contract: the rounds on its words, then the words at its start added. Assumes nothing.
use Rattle.base_md5.specs.Md5.{compress}
use Rattle.base_md5.proofs.Steps.{summed}
use Rattle.base_md5.proofs.block.block.Goals as goal

pub returns : goal.returns
unfolding compress
returns c = summed c.args.v _ (c.rounds-w.ensures c.args.m.now c.words.ensures)
