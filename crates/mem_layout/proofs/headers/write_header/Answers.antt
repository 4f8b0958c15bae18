-- `mem_layout::headers::write_header` meets its contract: five fields, one after the other. Assumes nothing.
use Rattle.mem_layout.proofs.HeaderFields.{header-fields}
use Rattle.mem_layout.proofs.headers.write_header.Goals as goal

pub returns : goal.returns
returns c =
    let a = c.args in
    header-fields a.tables.now c.put_u32.new.b c.put_u64.new.b c.put_u16.new.b c.put_u16-2.new.b c.put_u16-3.new.b a.h
    c.put_u32.ensures c.put_u64.ensures c.put_u16.ensures c.put_u16-2.ensures c.put_u16-3.ensures
