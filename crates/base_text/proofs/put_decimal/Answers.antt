-- `base_text::put_decimal` meets its contract: of the last five digits, those are copied that stand after the zeros. Assumes nothing.
use native.Mathlib.Omega.{arith}
use Rattle.base_text.proofs.Decimals.{padded, decimal-written}
use Rattle.base_text.proofs.put_decimal.Goals as goal

pub returns : goal.returns
unfolding padded
returns c =
    let a = c.args in
    let k = c.decimal_length-k in
    let w = c.copy_at in
    (k.ensures.0, decimal-written a.n k.result (omega arith) k.ensures.0 a.dst.now w.new.dst a.at w.ensures)
