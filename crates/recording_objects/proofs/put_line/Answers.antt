-- `recording_objects::put_line` meets its contract. Assumes nothing.
use Rattle.call_types.specs.Numbers.{number_of}
use lib.ListN.{drop}
use Rattle.machine.specs.Calls.{no_buffers}
use Rattle.recording_line.proofs.Lines.{no_line}
use Rattle.recording_objects.proofs.Forms.{no-put, a-put}
use Rattle.recording_objects.proofs.put_line.Goals as goal

pub returns-in_default : goal.returns-in_default
returns-in_default c =
    let l = c.args.line.now in
    let w = c.read_put-read in
    λ b q. no_line b q no_buffers (number_of c.refusal.result)
    (no-put l w.new.path w.new.content w.new.pairs (drop c.args.at l) w.result w.ensures.0 c.in_default.ensures) c.refusal.ensures

pub returns : goal.returns
returns c =
    let l = c.args.line.now in
    let w = c.read_put-read in
    a-put l w.new.path w.new.content w.new.pairs (drop c.args.at l) w.result w.ensures.0 c.in-Some.put c.in-Some.ensures c.put.ensures
