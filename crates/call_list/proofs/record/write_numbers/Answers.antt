-- `call_list::record::write_numbers` meets its contract: three numbers, one after the other. Assumes nothing.
use Rattle.call_list.proofs.RecordBytes.{numbers-written}
use Rattle.call_list.proofs.record.write_numbers.Goals as goal

pub returns : goal.returns
returns c = numbers-written c.args.answer.now _ _ c.args.to c.args.size c.args.created c.args.n c.requires c.put_u32.ensures c.put_u64.ensures
