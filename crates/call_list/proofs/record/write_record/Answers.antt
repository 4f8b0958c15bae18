-- `call_list::record::write_record` meets its contract: the path, the numbers and the text, one after the other. Assumes nothing.
use mathlib.Core.Path.{◌∙◌}
use native.Mathlib.Omega.{arith}
use Rattle.call_list.proofs.RecordBytes.{path_inside, path_room, numbers-room, etag-room, record-long, record-written}
use Rattle.call_list.proofs.record.write_record.Goals as goal

pub write_path-requires : goal.write_path-requires
write_path-requires c = (path_inside c.args.tables.now c.args.answer.now c.args.at c.args.to c.read_head-h.result _ _ c.requires.0 c.read_head-h.ensures c.text_length-k.ensures.1 c.data_length-size.ensures, path_room c.args.tables.now c.args.answer.now c.args.at c.args.to c.read_head-h.result _ _ c.requires.0 c.read_head-h.ensures c.text_length-k.ensures.1 c.data_length-size.ensures c.requires.1)

pub write_numbers-requires : goal.write_numbers-requires
write_numbers-requires c = numbers-room c.args.tables.now c.args.answer.now c.args.at c.args.to c.read_head-h.result _ _ c.requires.0 c.read_head-h.ensures c.text_length-k.ensures.1 c.data_length-size.ensures c.requires.1 c.write_path.new.answer c.write_path.auto.answer

pub write_text-requires : goal.write_text-requires
write_text-requires c =
    let p = c.requires.0 in
    (omega arith, etag-room c.args.tables.now c.args.answer.now c.args.at c.args.to c.read_head-h.result _ _ c.requires.0 c.read_head-h.ensures c.text_length-k.ensures.1 c.data_length-size.ensures c.requires.1 c.write_numbers.new.answer (c.write_numbers.auto.answer ∙ c.write_path.auto.answer))

pub returns : goal.returns
returns c = (record-long c.args.tables.now c.args.answer.now c.args.at c.args.to c.read_head-h.result _ _ c.requires.0 c.read_head-h.ensures c.text_length-k.ensures.1 c.data_length-size.ensures, record-written c.args.tables.now c.args.answer.now c.args.at c.args.to c.read_head-h.result _ _ c.requires.0 c.read_head-h.ensures c.text_length-k.ensures.1 c.data_length-size.ensures _ _ _ c.requires.1 c.write_path.ensures c.write_numbers.ensures c.write_text.ensures)
