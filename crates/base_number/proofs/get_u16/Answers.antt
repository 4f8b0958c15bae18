-- `base_number::get_u16` meets its contract: a number is read by its halves. Assumes nothing.
use mathlib.Core.Path.{◌∙◌}
use Prim.Native.Nat.{◌+◌}
use Rattle.base_number.proofs.Halves.{get-byte, get-halves}
use native.Mathlib.Omega.{arith}
use Rattle.base_number.proofs.get_u16.Goals as goal

pub returns : goal.returns
returns c =
    let b = c.args.b.now in
    let at = c.args.at in
    let lo = c.wide in
    let hi = c.wide-2 in
    get-halves b at 1 lo.result hi.result c.requires (lo.ensures.0 ∙ get-byte b at (omega arith)) (hi.ensures.0 ∙ get-byte b (at + 1) (omega arith))
