-- `base_order::equal` meets its contract: strings of one length are equal where the deciding numbers are. Assumes nothing.
use mathlib.Core.Path.{refl}
use native.Mathlib.Omega.{arith}
use Rattle.base_order.proofs.Strings.{other_length}
use Rattle.base_order.proofs.Answers.{same-told}
use Rattle.base_order.proofs.equal.Goals as goal

pub returns-then-n-b : goal.returns-then-n-b
returns-then-n-b c =
    let a = c.args in
    other_length a.a.now a.b.now (omega arith)

pub returns : goal.returns
returns c =
    let a = c.args in
    same-told a.a.now a.b.now _ _ _ c.deciding_numbers-t.ensures refl (omega arith)
