-- `recording_read::strings::read_string` meets its contract. Assumes nothing.
use native.Mathlib.Omega.{arith}
use mathlib.Core.Path.{sym, ◌∙◌}
use mathlib.Core.List.{[]}
use Rattle.recording.specs.Read.{hex_on, read_string}
use Rattle.recording_read.proofs.Places.{past-at, past-not}
use Rattle.recording_read.proofs.strings.read_string.Goals as goal

pub returns-in_err-next : goal.returns-in_err-next
unfolding read_string
returns-in_err-next c =
    let a = c.args in
    rw c.from_residual.ensures (sym (past-not (hex_on []) a.s.now a.at 34 c.in_err-next.ensures), omega arith)

pub returns : goal.returns
unfolding read_string
returns c =
    let a = c.args in
    let n = c.in_ok-next.ensures in
    let d = c.decode.ensures in
    (d.0 ∙ rw n.2 (sym (past-at (hex_on []) a.s.now a.at 34 n.0 n.1)), d.2)
