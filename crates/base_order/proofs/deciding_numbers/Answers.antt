-- `base_order::deciding_numbers` meets its contract: the deciding words tell. Assumes nothing.
use native.Mathlib.Omega.{arith}
use Rattle.base_order.proofs.Tells.{tells_as, words-tell}
use Rattle.base_order.proofs.deciding_numbers.Goals as goal

pub returns : goal.returns
returns c =
    let d = c.deciding_word-k in
    tells_as c.big_u64-x.ensures c.big_u64-y.ensures
    (words-tell c.args.a.now c.args.b.now c.args.n (λ i. (c.type_inv.a i).fits)
    (λ i. (c.type_inv.b i).fits) (omega arith) (omega arith) d.result d.ensures)
