-- `mem_row::write_numbers` meets its contract: five writes, one after the other. Assumes nothing.
use native.Mathlib.Omega.{arith}
use Rattle.mem_row.proofs.RowFields.{number-fields}
use Rattle.mem_row.proofs.write_numbers.Goals as goal

pub returns : goal.returns
returns c =
    let a = c.args in
    number-fields a.out.now c.put_u32.new.b c.put_u32-2.new.b c.put_u64.new.b c.put_u16.new.b c.put_u16-2.new.b a.h
    c.wide.result c.wide-2.result c.wide-3.result c.wide.ensures.0 c.wide-2.ensures.0 c.wide-3.ensures.0
    (omega (arith, c.wide.ensures.0, c.wide-2.ensures.0)) c.wide-3.ensures.1
    c.put_u32.ensures c.put_u32-2.ensures c.put_u64.ensures c.put_u16.ensures c.put_u16-2.ensures
