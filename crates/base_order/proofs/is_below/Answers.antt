-- `base_order::is_below` meets its contract: the deciding numbers tell, or the lengths do. Assumes nothing.
use native.Mathlib.Omega.{arith}
use Rattle.base_order.proofs.Answers.{below_length}
use Rattle.base_order.proofs.is_below.Goals as goal

pub returns : goal.returns
returns c =
    let a = c.args in
    below_length a.a.now a.b.now c.min-n.result (omega arith) (c.deciding_numbers-t.ensures.same (omega arith))
