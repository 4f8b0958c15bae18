-- `recording_objects::delete_line` meets its contract. Assumes nothing.
use Rattle.call_types.specs.Numbers.{number_of}
use Prim.Native.Nat.{ℕ}
use lib.ListN.{take, drop}
use Rattle.machine.specs.Calls.{no_buffers}
use Rattle.recording.specs.Entry as entry
use Rattle.recording.specs.Parse.{string, path_rest}
use Rattle.recording_line.proofs.Lines.{no_line, a-line}
use Rattle.recording_line.proofs.ReadArguments.{no-plain, a-plain}
use Rattle.recording_objects.proofs.delete_line.Goals as goal

pub returns-in_default : goal.returns-in_default
unfolding path_rest
returns-in_default c =
    let l = c.args.line.now in
    let w = c.string_field-read in
    λ b q. no_line b q no_buffers (number_of c.refusal.result)
    (no-plain entry.delete string (λ (n : ℕ). take n w.new.out) l (drop c.args.at l) w.result w.ensures.0 c.in_default.ensures) c.refusal.ensures

pub returns : goal.returns
unfolding path_rest
returns c =
    let l = c.args.line.now in
    let w = c.string_field-read in
    λ b q. a-line b q no_buffers (entry.delete (take c.in-Some.len w.new.out))
    (a-plain entry.delete string (λ (n : ℕ). take n w.new.out) l (drop c.args.at l) w.result w.ensures.0 c.in-Some.len c.in-Some.ensures) c.delete.ensures
