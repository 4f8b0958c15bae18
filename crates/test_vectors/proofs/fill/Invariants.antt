-- The number is below 251.
use Rattle.std.proofs.Common.{◌<◌}
use Rattle.test_vectors.proofs.fill.Given as goal

abbrev pub invariant-loop-place : goal.invariant-loop-place
invariant-loop-place l = l.x < 251
