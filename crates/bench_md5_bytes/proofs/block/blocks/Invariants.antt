-- `bench_md5_bytes::block::blocks` meets its contract. The loop's invariant: the first i blocks are in m. The measure is the blocks left. Assumes nothing.
use Rattle.std.proofs.Common.{◌-◌, ◌*◌, ◌≤◌, length}
use Rattle.bench_md5_bytes.proofs.block.blocks.Given as goal

abbrev pub invariant-loop-i : goal.invariant-loop-i
invariant-loop-i l = (l.i ≤ l.n) × (64 * l.n ≤ length l.m)

abbrev pub decreases-loop-i : goal.decreases-loop-i
decreases-loop-i l = l.n - l.i
