-- `mem_join_order::bring` meets its contract: two rotations, of the part's row and of its data. Assumes nothing.
use Rattle.mem_join_order.proofs.Bringing.{rows_inside, bytes_inside, brought}
use native.Mathlib.Omega.{arith}
use Rattle.mem_join_order.proofs.bring.Goals as goal

pub rotate-requires : goal.rotate-requires
rotate-requires c =
    let p = c.requires in
    omega (arith, rows_inside _ _ _ _ _ p c.find_row-f.result (c.find_row-f.ensures p))

pub rotate-requires-2 : goal.rotate-requires-2
rotate-requires-2 c =
    let p = c.requires in
    omega (arith, bytes_inside _ _ _ _ _ p c.find_row-f.result (c.find_row-f.ensures p))

pub returns : goal.returns
returns c = λ k. brought _ _ _ _ _ k c.find_row-f.result (c.find_row-f.ensures k) c.rotate.new.b c.rotate-2.new.b c.rotate.ensures c.rotate-2.ensures
