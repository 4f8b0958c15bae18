-- `pairs::rules::value_ok` meets its contract: each byte is asked for. Assumes nothing.
use mathlib.Core.Path.{◌∙◌}
use native.Mathlib.Omega.{arith}
use borrow.Author.Tests.{le-leb}
use Rattle.machine.specs.Pairs.{value_byte, value_ok}
use Rattle.machine.proofs.Tests.{tests}
use Rattle.pairs.proofs.RuleLaws.{all_every}
use Rattle.pairs.proofs.rules.value_ok.Goals as goal

pub returns-then-v-le64 : goal.returns-then-v-le64
unfolding value_ok
returns-then-v-le64 c =
    rw (le-leb _ _ c.if-v-le64.true) (c.all_value_bytes.ensures ∙ all_every value_byte c.args.v.now)

pub returns-else-v-le64 : goal.returns-else-v-le64
unfolding value_ok
returns-else-v-le64 c = grind (arith, tests)
