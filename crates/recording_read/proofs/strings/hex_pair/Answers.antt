-- `recording_read::strings::hex_pair` meets its contract. Assumes nothing.
use mathlib.Core.Path.{sym}
use native.Mathlib.Omega.{arith}
use Rattle.recording.proofs.Strings.{no-high, no-low, both-digits}
use Rattle.recording_read.proofs.strings.hex_pair.Goals as goal

pub returns-in_err-high : goal.returns-in_err-high
returns-in_err-high c =
    let a = c.args in
    rw c.from_residual.ensures (sym (no-high a.h a.l (omega (arith, c.in_err-high.ensures.value))))

pub returns-in_err-low : goal.returns-in_err-low
returns-in_err-low c =
    let a = c.args in
    rw c.from_residual-in_err-low.ensures (sym (no-low a.h a.l (omega (arith, c.in_err-low.ensures.value))))

pub returns : goal.returns
returns c =
    let a = c.args in
    let h = c.in_ok-high.ensures in
    let l = c.in_ok-low.ensures in
    omega (arith, both-digits a.h a.l (omega (arith, h.value, h.digit)) (omega (arith, l.value, l.digit)), h.value, l.value)
