-- `call_uploads::writing::write_record` meets its contract: five writes, one after the other. Assumes nothing.
use Rattle.call_uploads.proofs.RecordBytes.{record-written}
use Rattle.call_uploads.proofs.writing.write_record.Goals as goal

pub returns : goal.returns
returns c =
    record-written c.args.answer.now _ _ _ _ _ c.args.path.now c.args.at c.args.number c.args.started c.args.parts c.requires.0 c.requires.1
    c.put_u32.ensures
    c.put_byte.ensures
    c.copy_at.ensures
    c.put_u64.ensures
    c.put_u16.ensures
