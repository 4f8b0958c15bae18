-- `base_order::compare` meets its contract: the deciding numbers tell, or the lengths do. Assumes nothing.
use mathlib.Core.Path.{◌∙◌}
use native.Mathlib.Omega.{arith}
use Rattle.base_order.proofs.Answers.{lengths-tell}
use Rattle.base_order.proofs.compare.Goals as goal

pub returns : goal.returns
returns c =
    let a = c.args in
    c.cmp.ensures ∙ lengths-tell a.a.now a.b.now c.min-n.result (omega arith) (c.deciding_numbers-t.ensures.same (omega arith))
