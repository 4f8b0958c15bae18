-- `recording_read::numbers::read_number` meets its contract. Assumes nothing.
use native.Mathlib.Omega.{arith}
use mathlib.Core.Path.{◌∙◌}
use Rattle.recording_read.proofs.NumberSteps.{zero-at, none-at, digits-at}
use Rattle.recording_read.proofs.numbers.read_number.Goals as goal

pub returns-then-b-eq48 : goal.returns-then-b-eq48
returns-then-b-eq48 c =
    let a = c.args in
    zero-at a.s.now a.at c.byte_at-b.result c.byte_at-b.ensures.0 (c.byte_at-b.ensures.1 (omega arith)) c.if-b-eq48.true

pub returns-in_err-digit_value : goal.returns-in_err-digit_value
returns-in_err-digit_value c =
    let a = c.args in
    let b = c.byte_at-b in
    rw c.from_residual.ensures
    (none-at a.s.now a.at b.result b.ensures.0 c.if-b-eq48.false (omega (arith, c.in_err-digit_value.ensures.value)))

pub returns : goal.returns
returns c =
    let a = c.args in
    let b = c.byte_at-b in
    let d = c.in_ok-digit_value.ensures in
    c.digits.ensures ∙ digits-at a.s.now a.at b.result b.ensures.0 c.if-b-eq48.false (omega (arith, d.value, d.digit))
