-- `base_text::decimal_length` meets its contract: by the powers of ten that n stands between. Assumes nothing.
use mathlib.Core.Path.{sym}
use native.Mathlib.Omega.{arith}
use Rattle.base_text.specs.Text.{decimal}
use Rattle.base_text.proofs.TextLaws.{length-digits-one, length_digits}
use Rattle.base_text.proofs.decimal_length.Goals as goal

pub returns-then-n-lt10 : goal.returns-then-n-lt10
unfolding decimal
returns-then-n-lt10 c = (sym (length-digits-one 19 c.args.n (omega arith)), (omega arith, omega arith))

pub returns-then-n-lt100 : goal.returns-then-n-lt100
unfolding decimal
returns-then-n-lt100 c = (sym (length_digits 1 18 c.args.n (omega arith) (omega arith)), (omega arith, omega arith))

pub returns-then-n-lt1000 : goal.returns-then-n-lt1000
unfolding decimal
returns-then-n-lt1000 c = (sym (length_digits 2 17 c.args.n (omega arith) (omega arith)), (omega arith, omega arith))

pub returns-then-n-lt10000 : goal.returns-then-n-lt10000
unfolding decimal
returns-then-n-lt10000 c = (sym (length_digits 3 16 c.args.n (omega arith) (omega arith)), (omega arith, omega arith))

pub returns : goal.returns
unfolding decimal
returns c = (sym (length_digits 4 15 c.args.n (omega arith) (omega arith)), (omega arith, omega arith))
