-- `recording_looks::get_line` meets its contract. Assumes nothing.
use Rattle.call_types.specs.Numbers.{number_of}
use Prim.Native.Nat.{ℕ}
use mathlib.Core.List.{[]}
use lib.ListN.{take, drop}
use Rattle.machine.specs.Calls.{buffers}
use Rattle.recording.specs.Entry as entry
use Rattle.recording.specs.Parse.{string, path_rest}
use Rattle.recording_line.proofs.Lines.{no_line, a-line}
use Rattle.recording_line.proofs.ReadArguments.{no-plain, a-plain}
use Rattle.recording_looks.proofs.get_line.Goals as goal

pub returns-in_default : goal.returns-in_default
unfolding path_rest
returns-in_default c =
    let a = c.args in
    let l = a.line.now in
    let w = c.string_field-read in
    no_line a.answer.now a.pairs.now (buffers a.answer.now a.pairs.now) (number_of c.refusal.result)
    (no-plain entry.get string (λ (n : ℕ). take n w.new.out) l (drop a.at l) w.result w.ensures.0 c.in_default.ensures) c.refusal.ensures

pub returns : goal.returns
unfolding path_rest
returns c =
    let a = c.args in
    let l = a.line.now in
    let w = c.string_field-read in
    a-line a.answer.now a.pairs.now (buffers a.answer.now a.pairs.now) (entry.get (take c.in-Some.len w.new.out))
    (a-plain entry.get string (λ (n : ℕ). take n w.new.out) l (drop a.at l) w.result w.ensures.0 c.in-Some.len c.in-Some.ensures) c.get.ensures
