-- `recording_uploads::part_line` meets its contract. Assumes nothing.
use Rattle.call_types.specs.Numbers.{number_of}
use Prim.Native.Nat.{ℕ}
use native.Mathlib.Omega.{arith}
use lib.ListN.{take, drop}
use Rattle.machine.specs.Names.{Bytes}
use Rattle.machine.specs.Calls.{no_buffers}
use Rattle.recording.specs.Entry.{Entry}
use Rattle.recording.specs.Entry as entry
use Rattle.recording.specs.Read.{both}
use Rattle.recording.specs.Parse.{number, string, part_rest}
use Rattle.recording_arguments.specs.declared.PartArguments.{PartArguments}
use Rattle.recording_line.proofs.Lines.{no_line, a-line, by_number}
use Rattle.recording_line.proofs.ReadArguments.{no-plain, a-plain}
use Rattle.recording_uploads.proofs.Wide.{wide-upload, wide-number}
use Rattle.recording_uploads.proofs.part_line.Goals as goal

abbrev part_entry : ℕ × (ℕ × Bytes) → Entry
part_entry a = entry.part a.0 a.1.0 a.1.1

abbrev said : (d : Bytes) → PartArguments → ℕ × (ℕ × Bytes)
said d a = (a.upload, (a.number, take a.content d))

pub returns-in_default : goal.returns-in_default
unfolding part_rest
returns-in_default c =
    let l = c.args.line.now in
    let w = c.read_part-read in
    λ b q. no_line b q no_buffers (number_of c.refusal.result)
    (no-plain part_entry (both number (both number string)) (said w.new.content) l (drop c.args.at l) w.result w.ensures.0 c.in_default.ensures) c.refusal.ensures

pub returns-in_default-try_from : goal.returns-in_default-try_from
unfolding part_rest
returns-in_default-try_from c =
    let a = c.args in
    let l = a.line.now in
    let w = c.read_part-read in
    let p = c.in-Some.part in
    λ b q. a-line b q no_buffers (part_entry (said w.new.content p))
    (a-plain part_entry (both number (both number string)) (said w.new.content) l (drop a.at l) w.result w.ensures.0 p c.in-Some.ensures)
    (by_number c.refusal-in_default-try_from.ensures
    (wide-upload a.tables.now a.arena.now (λ i. (c.slice_known-1.given i).fits) p.upload p.number (take p.content w.new.content) (omega (arith, c.in_default-try_from.ensures))))

pub returns-in_default-try_from-2 : goal.returns-in_default-try_from-2
unfolding part_rest
returns-in_default-try_from-2 c =
    let a = c.args in
    let l = a.line.now in
    let w = c.read_part-read in
    let p = c.in-Some.part in
    λ b q. a-line b q no_buffers (part_entry (said w.new.content p))
    (a-plain part_entry (both number (both number string)) (said w.new.content) l (drop a.at l) w.result w.ensures.0 p c.in-Some.ensures)
    (by_number c.refusal-in_default-try_from-2.ensures
    (wide-number a.tables.now a.arena.now (λ i. (c.slice_known-1.given i).fits) p.upload p.number (take p.content w.new.content) (omega (arith, c.in_default-try_from-2.ensures))))

pub returns : goal.returns
unfolding part_rest
returns c =
    let l = c.args.line.now in
    let w = c.read_part-read in
    let p = c.in-Some.part in
    λ b q. a-line b q no_buffers (part_entry (said w.new.content p))
    (a-plain part_entry (both number (both number string)) (said w.new.content) l (drop c.args.at l) w.result w.ensures.0 p c.in-Some.ensures)
    (rw (← c.in-Ok.ensures.1, ← c.in-Ok-try_from.ensures.1) c.part.ensures)
