-- `base_md5::block::words` meets its contract: each word is read at its place. Assumes nothing.
use Rattle.base_md5.specs.Md5.{words_of, word}
use Rattle.base_md5.proofs.block.words.Goals as goal

pub returns : goal.returns
unfolding words_of word
returns c = cc
