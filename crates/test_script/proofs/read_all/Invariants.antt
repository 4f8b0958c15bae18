-- What was read so far has room.
use Rattle.std.proofs.Common.{◌≡◌, ◌≤◌, length}
use Rattle.test_script.proofs.read_all.Given as goal

abbrev pub invariant-loop : goal.invariant-loop
invariant-loop g l = (l.n ≤ length l.input) × (length l.input ≡ length l.fn.input)
