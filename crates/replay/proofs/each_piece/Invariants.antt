-- What is held is within a line's buffer and one more, the buffers keep their lengths, and a piece's results fit.
use Rattle.std.proofs.Common.{◌≡◌, ◌*◌, ◌≤◌, length}
use Rattle.replay.proofs.each_piece.Given as goal

abbrev pub invariant-loop : goal.invariant-loop
invariant-loop g l = (length l.line ≡ 4096) × (l.held ≤ 4097) × (2 * length l.piece ≤ length l.out) × (length l.piece ≤ 65536)
