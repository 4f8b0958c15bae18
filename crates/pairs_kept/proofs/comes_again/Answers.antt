-- `pairs_kept::comes_again` meets its contract. Assumes nothing.
use Rattle.pairs.proofs.Passing.{front_fits_lem, tail-formed, after_front}
use Rattle.pairs_kept.proofs.comes_again.Goals as goal

pub key-key-requires : goal.key-key-requires
key-key-requires c = front_fits_lem c.args.rest.now c.requires.0 c.requires.1

pub size-requires : goal.size-requires
size-requires c = front_fits_lem c.args.rest.now c.requires.0 c.requires.1

pub has_key-requires : goal.has_key-requires
has_key-requires c = rw (after_front c.args.rest.now c.size.result c.size.ensures.0) (tail-formed c.args.rest.now c.requires.0 c.requires.1)
