-- `call_get::write_pairs` meets its contract: the front of the block is the pairs, which are written out. Assumes nothing.
use mathlib.Core.Path.{ap}
use native.Mathlib.Omega.{arith}
use lib.ListN.{length}
use Rattle.call_get.proofs.Stored.{lengths-few, pairs_end, front-ok, front-size, front-written}
use Rattle.call_get.proofs.write_pairs.Goals as goal

pub sum_of-requires : goal.sum_of-requires
sum_of-requires c = omega (arith, ap length c.lengths-lengths.ensures, lengths-few c.args.memory.tables.now c.args.memory.arena.now c.args.at c.args.base c.requires.0)

pub overflow_add-end : goal.overflow_add-end
overflow_add-end c = omega (arith, pairs_end c.args.memory.tables.now c.args.memory.arena.now c.args.at c.args.base c.requires.0 _ c.lengths-lengths.ensures _ c.sum_of.ensures)

pub slice_bounds-encode-end : goal.slice_bounds-encode-end
slice_bounds-encode-end c = omega (arith, pairs_end c.args.memory.tables.now c.args.memory.arena.now c.args.at c.args.base c.requires.0 _ c.lengths-lengths.ensures _ c.sum_of.ensures)

pub encode-requires : goal.encode-requires
encode-requires c = (front-ok c.args.memory.tables.now c.args.memory.arena.now c.args.at c.args.base c.requires.0 _ c.lengths-lengths.ensures _ c.sum_of.ensures, omega (arith, c.requires.1, front-size c.args.memory.tables.now c.args.memory.arena.now c.args.at c.args.base c.requires.0 _ c.lengths-lengths.ensures _ c.sum_of.ensures))

pub returns : goal.returns
returns c = front-written c.args.memory.tables.now c.args.memory.arena.now c.args.at c.args.base c.requires.0 _ c.lengths-lengths.ensures _ c.sum_of.ensures c.args.pairs.now _ c.encode.ensures
