-- `base_buffer::blocks::rotate_small_left` meets its contract: the left block is held while the right one moves. Assumes nothing.
use mathlib.Core.Path.{refl}
use Prim.Native.Nat.{◌+◌}
use lib.ListN.{take, replicate}
use Rattle.base_buffer.proofs.Moving.{held}
use Rattle.base_buffer.proofs.Rotating.{small-left}
use native.Mathlib.Omega.{arith}
use Rattle.base_buffer.proofs.blocks.rotate_small_left.Goals as goal

pub returns : goal.returns
returns c =
    let a = c.args in
    let h = c.copy_at in
    let one = c.copy_within in
    let two = c.copy_at-2 in
    small-left a.b.now a.at a.l a.r c.requires.1 one.new.b two.new.dst (take a.l h.new.dst) (held h.new.dst (replicate 1024 0) a.b.now a.at (a.at + a.l) a.l refl (omega arith) h.ensures) one.ensures two.ensures
