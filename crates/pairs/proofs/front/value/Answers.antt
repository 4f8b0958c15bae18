-- `pairs::front::value` meets its contract. Assumes nothing.
use native.Mathlib.Omega.{arith}
use Rattle.pairs.proofs.FrontLaws.{there, value-is, from-within}
use Rattle.pairs.proofs.front.value.Goals as goal

pub middle-from-requires : goal.middle-from-requires
middle-from-requires c = there c.args.rest.now c.requires

pub size-to-requires : goal.size-to-requires
size-to-requires c = c.requires

pub slice_bounds-result-count : goal.slice_bounds-result-count
slice_bounds-result-count c = omega (arith, from-within c.args.rest.now)

pub slice_bounds-result-start : goal.slice_bounds-result-start
slice_bounds-result-start c = omega (arith, from-within c.args.rest.now)

pub returns : goal.returns
returns c =
    let s = c.size-to in
    let m = c.middle-from in
    value-is c.args.rest.now m.result s.result m.ensures.0 s.ensures.0
