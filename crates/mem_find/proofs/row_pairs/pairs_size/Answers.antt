-- `mem_find::pairs::pairs_size` meets its contract. Assumes nothing.
use mathlib.Core.Path.{ap, ◌∙◌}
use native.Mathlib.Omega.{arith}
use lib.ListN.{length, length-drop}
use Rattle.mem_row.specs.Row.{span_at}
use Rattle.pairs_stored.specs.Stored.{sum_of}
use Rattle.mem_find.proofs.PairSizes.{lengths-few}
use Rattle.mem_find.proofs.row_pairs.pairs_size.Goals as goal

pub sum_of-requires : goal.sum_of-requires
unfolding span_at
sum_of-requires c =
    let a = c.args in
    let few = lengths-few a.tables.now a.at (λ j. (c.shared_slice_known-1.given j).fits) (omega (arith, length-drop a.at a.tables.now)) in
    omega (arith, ap length c.lengths.ensures)

pub returns : goal.returns
returns c = c.sum_of.ensures ∙ ap sum_of c.lengths.ensures
