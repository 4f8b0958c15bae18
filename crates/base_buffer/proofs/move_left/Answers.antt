-- `base_buffer::move_left` meets its contract. The invariant: `b` is what it was with the first i of the bytes pasted in at `to`. Assumes nothing.
use mathlib.Core.Path.{◌∙◌}
use Rattle.base_buffer.proofs.Moving.{left-block}
use native.Mathlib.Omega.{arith}
use Rattle.base_buffer.proofs.move_left.Goals as goal

pub loop-i-preserved : goal.loop-i-preserved
loop-i-preserved c =
    let l = c.loop-i in
    let a = c.args in
    let two = c.move_block in
    (omega arith, two.auto.b ∙ l.invariant.1, left-block a.b.now l.b two.new.b a.from a.to l.i c.min-k.result c.requires.0 (omega arith) l.invariant.2 two.ensures)
