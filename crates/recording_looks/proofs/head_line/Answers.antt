-- `recording_looks::head_line` meets its contract. Assumes nothing.
use Rattle.call_types.specs.Numbers.{number_of}
use Prim.Native.Nat.{ℕ}
use mathlib.Core.List.{[]}
use lib.ListN.{take, drop}
use Rattle.machine.specs.Calls.{buffers}
use Rattle.recording.specs.Entry as entry
use Rattle.recording.specs.Parse.{string, path_rest}
use Rattle.recording_line.proofs.Lines.{no_line, a-line}
use Rattle.recording_line.proofs.ReadArguments.{no-plain, a-plain}
use Rattle.recording_looks.proofs.head_line.Goals as goal

pub returns-in_default : goal.returns-in_default
unfolding path_rest
returns-in_default c =
    let a = c.args in
    let l = a.line.now in
    let w = c.string_field-read in
    λ b. no_line b a.pairs.now (buffers [] a.pairs.now) (number_of c.refusal.result)
    (no-plain entry.head string (λ (n : ℕ). take n w.new.out) l (drop a.at l) w.result w.ensures.0 c.in_default.ensures) c.refusal.ensures

pub returns : goal.returns
unfolding path_rest
returns c =
    let a = c.args in
    let l = a.line.now in
    let w = c.string_field-read in
    λ b. a-line b a.pairs.now (buffers [] a.pairs.now) (entry.head (take c.in-Some.len w.new.out))
    (a-plain entry.head string (λ (n : ℕ). take n w.new.out) l (drop a.at l) w.result w.ensures.0 c.in-Some.len c.in-Some.ensures) c.head.ensures
