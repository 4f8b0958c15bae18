-- `recording_read::numbers::digits` meets its contract. The invariant: what is read from here on with v before it is what is read in all. Assumes nothing.
use native.Mathlib.Omega.{arith}
use Prim.Native.Nat.{◌+◌, ◌*◌}
use mathlib.Core.Path.{◌≡◌}
use lib.ListN.{length, drop}
use Rattle.recording.specs.Read.{digits_on}
use Rattle.recording_read.proofs.Places.{at-end}
use Rattle.recording_read.proofs.NumberSteps.{ended, stopped, wide, more}
use Rattle.recording_read.proofs.numbers.digits.Goals as goal

pub returns-in_default : goal.returns-in_default
returns-in_default c =
    let l = c.loop-i in
    let a = c.args in
    stopped (digits_on 0 (drop a.at a.s.now)) a.s.now l.v l.i l.invariant c.loop-i-test.true 10 c.in_default.ensures.value (omega arith)

pub returns-in_err-w : goal.returns-in_err-w
returns-in_err-w c =
    let l = c.loop-i in
    let a = c.args in
    rw c.from_residual.ensures
    (wide (digits_on 0 (drop a.at a.s.now)) a.s.now l.v l.i l.invariant c.loop-i-test.true
    c.in-Some.d c.in-Some.ensures.value c.in-Some.ensures.digit (omega arith))

pub returns-in_err-v : goal.returns-in_err-v
returns-in_err-v c =
    let l = c.loop-i in
    let a = c.args in
    rw c.from_residual-in_err-v.ensures
    (wide (digits_on 0 (drop a.at a.s.now)) a.s.now l.v l.i l.invariant c.loop-i-test.true
    c.in-Some.d c.in-Some.ensures.value c.in-Some.ensures.digit (omega arith))

pub loop-i-preserved : goal.loop-i-preserved
loop-i-preserved c =
    let l = c.loop-i in
    let a = c.args in
    let v : c.in_ok-v.v ≡ 10 * l.v + c.in-Some.d = omega arith in
    rw v
    (more (digits_on 0 (drop a.at a.s.now)) a.s.now l.v l.i l.invariant c.loop-i-test.true
    c.in-Some.d c.in-Some.ensures.value c.in-Some.ensures.digit (omega arith))

pub returns : goal.returns
returns c =
    let l = c.loop-i in
    let a = c.args in
    rw (at-end a.s.now (length a.s.now) (omega arith), ← at-end a.s.now l.i c.loop-i-test.false)
    (ended (digits_on 0 (drop a.at a.s.now)) a.s.now l.v l.i l.invariant c.loop-i-test.false)
