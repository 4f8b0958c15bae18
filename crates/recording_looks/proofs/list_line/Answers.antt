-- `recording_looks::list_line` meets its contract. Assumes nothing.
use Rattle.call_types.specs.Numbers.{number_of}
use mathlib.Core.List.{[]}
use lib.ListN.{take, drop}
use Rattle.machine.specs.Names.{Bytes}
use Rattle.machine.specs.Calls.{buffers}
use Rattle.recording.specs.Entry.{Entry}
use Rattle.recording.specs.Entry as entry
use Rattle.recording.specs.Read.{both}
use Rattle.recording.specs.Parse.{string, list_rest}
use Rattle.recording_arguments.specs.declared.ListArguments.{ListArguments}
use Rattle.recording_line.proofs.Lines.{no_line, a-line}
use Rattle.recording_line.proofs.ReadArguments.{no-plain, a-plain}
use Rattle.recording_looks.proofs.list_line.Goals as goal

abbrev list_entry : Bytes × Bytes → Entry
list_entry a = entry.list a.0 a.1

abbrev said : (p d : Bytes) → ListArguments → Bytes × Bytes
said p d a = (take a.prefix p, take a.suffix d)

pub returns-in_default : goal.returns-in_default
unfolding list_rest
returns-in_default c =
    let a = c.args in
    let l = a.line.now in
    let w = c.read_list-read in
    λ q. no_line a.answer.now q (buffers a.answer.now []) (number_of c.refusal.result)
    (no-plain list_entry (both string string) (said w.new.prefix w.new.suffix) l (drop a.at l) w.result w.ensures.0 c.in_default.ensures) c.refusal.ensures

pub returns : goal.returns
unfolding list_rest
returns c =
    let a = c.args in
    let l = a.line.now in
    let w = c.read_list-read in
    let s = said w.new.prefix w.new.suffix in
    λ q. a-line a.answer.now q (buffers a.answer.now []) (list_entry (s c.in-Some.list))
    (a-plain list_entry (both string string) s l (drop a.at l) w.result w.ensures.0 c.in-Some.list c.in-Some.ensures) c.list.ensures
