-- `pairs::front::key` meets its contract. Assumes nothing.
use native.Mathlib.Omega.{arith}
use Rattle.machine.proofs.PairBytes.{middle-inside}
use Rattle.pairs.proofs.FrontLaws.{there, key-is}
use Rattle.pairs.proofs.front.key.Goals as goal

pub middle-m-requires : goal.middle-m-requires
middle-m-requires c = there c.args.rest.now c.requires

pub slice_bounds-result-end : goal.slice_bounds-result-end
slice_bounds-result-end c = omega (arith, middle-inside c.args.rest.now c.requires)

pub returns : goal.returns
returns c = key-is c.args.rest.now c.middle-m.result c.middle-m.ensures.0
