-- `recording_read::numbers::digits` meets its contract. The invariant: what is read from here on with v before it is what is read in all. Assumes nothing.
use mathlib.Core.Path.{◌≡◌}
use lib.ListN.{drop}
use Rattle.recording.specs.Read.{digits_on}
use Rattle.recording_read.proofs.numbers.digits.Given as goal

abbrev pub invariant-loop-i : goal.invariant-loop-i
invariant-loop-i l = digits_on l.v (drop l.i l.s) ≡ digits_on 0 (drop l.at l.s)
