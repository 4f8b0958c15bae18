-- `base_order::short_numbers` meets its contract: of four bytes and more the halves tell, of fewer the first bytes that differ. Assumes nothing.
use native.Mathlib.Omega.{arith}
use Rattle.base_order.proofs.Tells.{tells_as, halves-tell, bytes-tell}
use Rattle.base_order.proofs.short_numbers.Goals as goal

pub returns-then-n-ge4 : goal.returns-then-n-ge4
returns-then-n-ge4 c =
    let a = c.args in
    tells_as (omega (arith, c.big_u32.ensures, c.big_u32-then-n-ge4.ensures))
    (omega (arith, c.big_u32-then-n-ge4-2.ensures, c.big_u32-then-n-ge4-3.ensures))
    (halves-tell a.a.now a.b.now a.n (λ i. (c.type_inv.a i).fits) (λ i. (c.type_inv.b i).fits)
    (omega arith) (omega arith) c.if-n-ge4.true (omega arith))

pub returns-then-i-n : goal.returns-then-i-n
returns-then-i-n c =
    let a = c.args in
    let m = c.common_bytes-i in
    bytes-tell a.a.now a.b.now a.n (λ i. (c.type_inv.a i).fits) (λ i. (c.type_inv.b i).fits)
    (omega arith) (omega arith) m.result m.ensures c.if-i-n.true
