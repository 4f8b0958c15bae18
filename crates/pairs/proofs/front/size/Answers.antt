-- `pairs::front::size` meets its contract. Assumes nothing.
use native.Mathlib.Omega.{arith}
use Rattle.machine.proofs.PairBytes.{middle-inside, front-inside}
use Rattle.pairs.proofs.FrontLaws.{there, size_is}
use Rattle.pairs.proofs.front.size.Goals as goal

pub middle-m-requires : goal.middle-m-requires
middle-m-requires c = there c.args.rest.now c.requires

pub bounds-rest-m : goal.bounds-rest-m
bounds-rest-m c = omega (arith, middle-inside c.args.rest.now c.requires)

pub returns : goal.returns
returns c =
    let e = size_is c.args.rest.now c.middle-m.result c.wide.result c.middle-m.ensures.0 c.wide.ensures.0 in
    (e, omega (arith, e, front-inside c.args.rest.now c.requires))
