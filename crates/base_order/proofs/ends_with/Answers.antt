-- `base_order::ends_with` meets its contract: by `equal`, where the string is long enough. Assumes nothing.
use native.Mathlib.Omega.{arith}
use Rattle.std.proofs.lemmas.Grind.{common_steps}
use Rattle.base_order.specs.Order.{ends}
use Rattle.base_order.proofs.AffixLaws.{ends-short}
use Rattle.base_order.proofs.ends_with.Goals as goal

pub returns-then-n-m : goal.returns-then-n-m
unfolding ends
returns-then-n-m c = grind (arith, common_steps, c.equal.ensures)

pub returns-else-n-m : goal.returns-else-n-m
returns-else-n-m c = grind (arith, ends-short c.args.suffix.now c.args.s.now)
