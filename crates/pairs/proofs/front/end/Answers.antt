-- `pairs::front::end` meets its contract. Assumes nothing.
use mathlib.Core.Path.{ap, ◌∙◌}
use native.Mathlib.Omega.{arith}
use Rattle.machine.specs.Pairs.{front_fits, front_size}
use Rattle.pairs.proofs.Passing.{from_is, end-inside, end-further}
use Rattle.pairs.proofs.front.end.Goals as goal

pub size-requires : goal.size-requires
size-requires c = ap front_fits (from_is c.args.pairs.now c.args.at) ∙ c.requires.1

pub returns : goal.returns
returns c =
    let bs = c.args.pairs.now in
    let at = c.args.at in
    let s = c.size.ensures.0 ∙ ap front_size (from_is bs at) in
    (omega (arith, s), omega (arith, s, end-further bs at c.requires.0 c.requires.1), omega (arith, s, end-inside bs at c.requires.0 c.requires.1))
