-- `recording_read::strings::decode` meets its contract. The invariant: what is read from here on, after the m bytes in `out`, is what is read in all.
-- Assumes nothing.
use mathlib.Core.Path.{◌≡◌}
use Prim.Native.Nat.{◌-◌, ◌+◌, ◌*◌}
use lib.ListN.{length, take, drop}
use Rattle.recording.specs.Read.{hex_on}
use Rattle.recording_read.proofs.strings.decode.Given as goal

abbrev pub invariant-loop-i : goal.invariant-loop-i
invariant-loop-i l = (length l.out ≡ length l.initial.out) × (2 * l.m + (length l.s - l.i) ≡ 2 * l.n + (length l.s - l.at)) × (hex_on (take l.m l.out) (drop l.i l.s) ≡ hex_on (take l.n l.initial.out) (drop l.at l.s))

abbrev pub decreases-loop-i : goal.decreases-loop-i
decreases-loop-i l = length l.s - l.i
