-- `recording_objects::copy_line` meets its contract. Assumes nothing.
use Rattle.call_types.specs.Numbers.{number_of}
use lib.ListN.{take, drop}
use Prim.Native.Nat.{ℕ}
use Rattle.machine.specs.Names.{Bytes}
use Rattle.machine.specs.Calls.{no_buffers}
use Rattle.recording.specs.Entry.{Entry}
use Rattle.recording.specs.Entry as entry
use Rattle.recording.specs.Read.{both}
use Rattle.recording.specs.Parse.{number, string, copy_rest}
use Rattle.recording_arguments.specs.declared.CopyArguments.{CopyArguments}
use Rattle.recording_line.proofs.Lines.{no_line, a-line}
use Rattle.recording_line.proofs.ReadArguments.{no-plain, a-plain}
use Rattle.recording_objects.proofs.copy_line.Goals as goal

abbrev copy_entry : ℕ × (Bytes × Bytes) → Entry
copy_entry a = entry.copy a.0 a.1.0 a.1.1

abbrev said : (p d : Bytes) → CopyArguments → ℕ × (Bytes × Bytes)
said p d a = (a.stamp, (take a.source p, take a.destination d))

pub returns-in_default : goal.returns-in_default
unfolding copy_rest
returns-in_default c =
    let l = c.args.line.now in
    let w = c.read_copy-read in
    λ b q. no_line b q no_buffers (number_of c.refusal.result)
    (no-plain copy_entry (both number (both string string)) (said w.new.source w.new.destination) l (drop c.args.at l) w.result w.ensures.0 c.in_default.ensures)
    c.refusal.ensures

pub returns : goal.returns
unfolding copy_rest
returns c =
    let l = c.args.line.now in
    let w = c.read_copy-read in
    let s = said w.new.source w.new.destination in
    λ b q. a-line b q no_buffers (copy_entry (s c.in-Some.copy))
    (a-plain copy_entry (both number (both string string)) s l (drop c.args.at l) w.result w.ensures.0 c.in-Some.copy c.in-Some.ensures) c.copy.ensures
