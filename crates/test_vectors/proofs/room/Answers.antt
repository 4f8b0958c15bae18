-- The length of a repeat, which is not computed.
use Rattle.std.proofs.Common.{ℕ}
use lib.ListN.{length-replicate}
use Rattle.test_vectors.proofs.room.Goals as goal

pub returns : goal.returns
returns c = length-replicate {0} {A = ℕ} 1000000 0
