-- `recording_uploads::abort_line` meets its contract. Assumes nothing.
use Rattle.call_types.specs.Numbers.{number_of}
use Prim.Native.Nat.{ℕ}
use native.Mathlib.Omega.{arith}
use lib.ListN.{drop}
use Rattle.machine.specs.Calls.{no_buffers}
use Rattle.recording.specs.Entry as entry
use Rattle.recording.specs.Parse.{number, abort_rest}
use Rattle.recording_line.proofs.Lines.{no_line, a-line, by_number}
use Rattle.recording_line.proofs.ReadArguments.{no-plain, a-plain}
use Rattle.recording_uploads.proofs.Wide.{wide-abort}
use Rattle.recording_uploads.proofs.abort_line.Goals as goal

pub returns-in_default : goal.returns-in_default
unfolding abort_rest
returns-in_default c =
    let l = c.args.line.now in
    let w = c.number_field-read in
    λ x y. no_line x y no_buffers (number_of c.refusal.result) (no-plain entry.abort number (λ (n : ℕ). n) l (drop c.args.at l) w.result w.ensures c.in_default.ensures) c.refusal.ensures

pub returns-in_default-try_from : goal.returns-in_default-try_from
unfolding abort_rest
returns-in_default-try_from c =
    let a = c.args in
    let l = a.line.now in
    let w = c.number_field-read in
    let n = c.in-Some.abort in
    let m = wide-abort a.tables.now a.arena.now (λ i. (c.slice_known-1.given i).fits) n (omega (arith, c.in_default-try_from.ensures)) in
    λ x y. a-line x y no_buffers (entry.abort n) (a-plain entry.abort number (λ (n : ℕ). n) l (drop a.at l) w.result w.ensures n c.in-Some.ensures)
    (by_number c.refusal-in_default-try_from.ensures m)

pub returns : goal.returns
unfolding abort_rest
returns c =
    let a = c.args in
    let l = a.line.now in
    let w = c.number_field-read in
    let n = c.in-Some.abort in
    λ x y. a-line x y no_buffers (entry.abort n) (a-plain entry.abort number (λ (n : ℕ). n) l (drop a.at l) w.result w.ensures n c.in-Some.ensures) (rw (← c.in-Ok.ensures.1) c.abort.ensures)
