-- `recording_split::next_line` meets its contract. Assumes nothing.
use native.Mathlib.Omega.{arith}
use Rattle.recording_split.proofs.Holding.{no_more, a-line, one_more}
use mathlib.Core.Path.{◌∙◌}
use Rattle.recording_split.proofs.next_line.Goals as goal

pub returns-then-b-eq10 : goal.returns-then-b-eq10
returns-then-b-eq10 c =
    let a = c.args in
    let l = c.loop-i in
    ((λ x h. a-line a.s.now a.at l.i x l.line l.n (l.invariant.2 x h) c.loop-i-test.true c.if-b-eq10.true), (omega arith, omega arith, omega arith))

pub loop-i-preserved : goal.loop-i-preserved
loop-i-preserved c =
    let a = c.args in
    let l = c.loop-i in
    let k = c.keep-n in (
      k.auto.line ∙ l.invariant.0,
      omega (arith, k.auto.line, k.ensures.1),
      (λ x h. one_more a.s.now a.at l.i x l.line l.n (l.invariant.2 x h) c.loop-i-test.true c.if-b-eq10.false k.new.line k.result k.ensures.0),
    )

pub returns : goal.returns
returns c =
    let a = c.args in
    let l = c.loop-i in
    ((λ x h. no_more a.s.now a.at l.i x l.line l.n (l.invariant.2 x h) c.loop-i-test.false), omega (arith, l.invariant.0, l.invariant.1))
