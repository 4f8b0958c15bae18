-- `names_ascii::block` meets its contract: the parts of t are those of the law. Assumes nothing.
use Prim.Native.Nat.{◌-◌}
use native.Mathlib.Omega.{arith}
use lib.ListN.{take, drop, length-take, length-drop}
use Rattle.names_ascii.proofs.BlockLaws.{block_run, beside-small}
use Rattle.names_ascii.proofs.block.Goals as goal

pub returns : goal.returns
returns c =
    let a = c.args in
    let t = a.t.now in
    let end = a.end in
    let start = end - 32 in (
      rw c.faults.ensures (block_run t end a.n (omega arith) (omega arith) (omega arith)),
      omega (
        arith,
        c.faults.ensures,
        beside-small (drop (32 - a.n) (take (end - 1 - (end - 33)) (drop (end - 33) t))) (drop (32 - a.n) (take (end - start) (drop start t))),
        length-drop (32 - a.n) (take (end - start) (drop start t)),
        length-take (end - start) (drop start t),
      ),
    )
