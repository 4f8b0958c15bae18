-- `call_list::record::write_text` meets its contract: the digits, and a joined etag's count after them. Assumes nothing.
use Rattle.call_list.proofs.RecordBytes.{text-room, count_room, plain-written, joined-written}
use Rattle.call_list.proofs.record.write_text.Goals as goal

pub put_hex-requires : goal.put_hex-requires
put_hex-requires c = text-room c.args.tables.now c.args.answer.now c.args.answer.now c.args.at c.args.to c.args.kind c.args.count c.requires.0 c.requires.1

pub write_count-requires : goal.write_count-requires
write_count-requires c = count_room c.args.tables.now c.args.answer.now c.put_hex.new.dst c.args.at c.args.to c.args.kind c.args.count c.requires.0 c.if-kind-ne-PLAIN_KIND.true c.requires.1 c.put_hex.auto.dst

pub returns-then-kind-ne-PLAIN_KIND : goal.returns-then-kind-ne-PLAIN_KIND
returns-then-kind-ne-PLAIN_KIND c = joined-written c.args.tables.now c.args.answer.now _ c.args.at c.args.to c.args.kind c.args.count c.requires.0 c.put_hex.ensures _ c.if-kind-ne-PLAIN_KIND.true c.requires.1 c.write_count.ensures

pub returns-else-kind-ne-PLAIN_KIND : goal.returns-else-kind-ne-PLAIN_KIND
returns-else-kind-ne-PLAIN_KIND c = plain-written c.args.tables.now c.args.answer.now _ c.args.at c.args.to c.args.kind c.args.count c.requires.0 c.put_hex.ensures c.if-kind-ne-PLAIN_KIND.false
