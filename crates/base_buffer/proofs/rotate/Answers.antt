-- `base_buffer::rotate` meets its contract. The invariant: what is left to rotate, from `from` on, gives what the whole rotation gives. Assumes nothing.
use mathlib.Core.Path.{◌∙◌}
use native.Mathlib.Omega.{arith}
use Rattle.base_buffer.proofs.Rotating.{swap-left, swap-right, none_left, none_right}
use Rattle.base_buffer.proofs.rotate.Goals.{else-l-gt0-via-then-l-gt0+else-r-gt0-2, else-l-gt0-via-else-l-gt0}
use Rattle.base_buffer.proofs.rotate.Goals as goal

pub returns-else-r-gt0 : goal.returns-else-r-gt0
returns-else-r-gt0 c =
    let l = c.loop-l in
    none_right l.b l.from l.l l.r (omega arith) (omega arith) ∙ l.invariant.2

pub loop-l-preserved-then-l-r : goal.loop-l-preserved-then-l-r
loop-l-preserved-then-l-r c =
    let l = c.loop-l in
    let k = c.swap in
    (omega arith, k.auto.b ∙ l.invariant.1, swap-left l.b l.from l.l l.r (omega arith) k.new.b (omega arith) k.ensures ∙ l.invariant.2)

pub loop-l-preserved : goal.loop-l-preserved
loop-l-preserved c =
    let l = c.loop-l in
    let k = c.swap-else-l-r in
    (omega arith, k.auto.b ∙ l.invariant.1, swap-right l.b l.from l.l l.r (omega arith) k.new.b (omega arith) k.ensures ∙ l.invariant.2)

pub returns-else-l-gt0 : goal.returns-else-l-gt0
returns-else-l-gt0 c =
    let l = c.loop-l in
    elim c.else-l-gt0.branch [
      | else-l-gt0-via-then-l-gt0+else-r-gt0-2 w ↦ none_right l.b l.from l.l l.r (omega arith) (omega arith) ∙ l.invariant.2
      | else-l-gt0-via-else-l-gt0 w ↦ none_left l.b l.from l.l l.r (omega arith) (omega arith) ∙ l.invariant.2
    ]
