-- `recording_uploads::commit_line` meets its contract. Assumes nothing.
use Rattle.call_types.specs.Numbers.{number_of}
use native.Mathlib.Omega.{arith}
use lib.ListN.{drop}
use Rattle.machine.specs.Calls.{no_buffers}
use Rattle.recording_line.proofs.Lines.{no_line}
use Rattle.recording_uploads.proofs.Forms.{no-commit, a-commit, a-wide-commit}
use Rattle.recording_uploads.proofs.commit_line.Goals as goal

pub returns-in_default : goal.returns-in_default
returns-in_default c =
    let l = c.args.line.now in
    let w = c.read_commit-read in
    λ b q. no_line b q no_buffers (number_of c.refusal.result) (no-commit l w.new.list (drop c.args.at l) w.result w.ensures.0 c.in_default.ensures) c.refusal.ensures

pub returns-in_default-try_from : goal.returns-in_default-try_from
returns-in_default-try_from c =
    let a = c.args in
    let w = c.read_commit-read in
    let f = c.refusal-in_default-try_from in
    a-wide-commit a.line.now w.new.list (drop a.at a.line.now) w.result w.ensures.0 c.in-Some.commit c.in-Some.ensures a.tables.now a.arena.now
    (λ i. (c.slice_known-1.given i).fits) (omega (arith, c.in_default-try_from.ensures)) (number_of f.result) f.ensures

pub returns : goal.returns
returns c =
    let a = c.args in
    let w = c.read_commit-read in
    a-commit a.line.now w.new.list (drop a.at a.line.now) w.result w.ensures.0 c.in-Some.commit c.in-Some.ensures a.tables.now a.arena.now
    (λ i. (c.slice_known-1.given i).fits) (rw (← c.in-Ok.ensures.1) c.commit.ensures)
