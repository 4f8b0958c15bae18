-- `pairs::rules::key_ok` meets its contract: each byte is asked for. Assumes nothing.
use mathlib.Core.Path.{◌∙◌}
use native.Mathlib.Omega.{arith}
use borrow.Author.Tests.{le-leb}
use lib.ListN.{length}
use Rattle.machine.specs.Pairs.{key_byte, key_ok}
use Rattle.machine.proofs.Tests.{tests}
use Rattle.pairs.proofs.RuleLaws.{all_every}
use Rattle.pairs.proofs.rules.key_ok.Goals as goal

pub returns-then-n-lt1 : goal.returns-then-n-lt1
unfolding key_ok
returns-then-n-lt1 c = grind (arith, tests)

pub returns : goal.returns
unfolding key_ok
returns c =
    let n = length c.args.k.now in
    rw (le-leb 1 n (omega arith), le-leb n 32 (omega arith)) (c.all_key_bytes.ensures ∙ all_every key_byte c.args.k.now)
