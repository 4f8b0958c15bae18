-- `base_order::begins_with` meets its contract: by `equal`, where the string is long enough. Assumes nothing.
use native.Mathlib.Omega.{arith}
use Rattle.base_order.specs.Order.{begins}
use Rattle.base_order.proofs.AffixLaws.{begins-short}
use Rattle.base_order.proofs.begins_with.Goals as goal

pub returns-then-n-s : goal.returns-then-n-s
unfolding begins
returns-then-n-s c = grind (arith, c.equal.ensures)

pub returns-else-n-s : goal.returns-else-n-s
returns-else-n-s c = grind (arith, begins-short c.args.prefix.now c.args.s.now)
