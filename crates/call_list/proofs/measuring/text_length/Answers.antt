-- `call_list::measuring::text_length` meets its contract: 32 digits, and "-" with the count. Assumes nothing.
use native.Mathlib.Omega.{arith}
use Rattle.call_list.proofs.RowLengths.{text-plain, text-joined}
use Rattle.call_list.proofs.measuring.text_length.Goals as goal

pub returns-then-kind-eq-PLAIN_KIND : goal.returns-then-kind-eq-PLAIN_KIND
returns-then-kind-eq-PLAIN_KIND c = (omega arith, λ d l. text-plain c.args.kind c.args.count d c.if-kind-eq-PLAIN_KIND.true l)

pub returns : goal.returns
returns c = (omega arith, λ d l. text-joined c.args.kind c.args.count _ d c.if-kind-eq-PLAIN_KIND.false c.decimal_length.ensures.0 l)
