-- `mem_row::write_row` meets its contract: numbers, digest, path and lengths, one after the other. Assumes nothing.
use Rattle.mem_row.proofs.RowFields.{row-fields}
use Rattle.base_md5.specs.Md5Laws.{length-bytes_of}
use Rattle.base_md5.specs.Md5.{bytes_of}
use Rattle.mem_row.proofs.write_row.Goals as goal

pub returns : goal.returns
returns c =
    let a = c.args in
    row-fields a.out.now c.write_numbers.new.out c.put.new.b c.copy_at.new.dst c.copy_at-2.new.dst (bytes_of a.digest) a.path.now a.lengths.now a.h
    (length-bytes_of a.digest) c.write_numbers.ensures c.put.ensures c.copy_at.ensures c.copy_at-2.ensures
