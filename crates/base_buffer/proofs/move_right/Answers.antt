-- `base_buffer::move_right` meets its contract. The invariant: `b` is what it was with the bytes from the i-th on moved. Assumes nothing.
use mathlib.Core.Path.{◌∙◌}
use Rattle.base_buffer.proofs.Moving.{right-block}
use native.Mathlib.Omega.{arith}
use Rattle.base_buffer.proofs.move_right.Goals as goal

pub loop-i-preserved : goal.loop-i-preserved
loop-i-preserved c =
    let l = c.loop-i in
    let a = c.args in
    let two = c.move_block in
    (omega arith, two.auto.b ∙ l.invariant.1, right-block a.b.now l.b two.new.b a.from a.to a.n l.i c.min-k.result c.requires.0 c.requires.1 l.invariant.0 (omega arith) l.invariant.2 two.ensures)
