-- `call_commit::pass_listed` meets its contract. The invariant: the rows passed are the parts that the list's first i numbers name. Assumes nothing.
use Prim.Native.Nat.{ℕ}
use mathlib.Core.Path.{sym, ap, ◌∙◌}
use mathlib.Core.Bool.{not}
use native.Mathlib.Omega.{arith}
use borrow.Author.Tests.{not-true, not-false}
use Rattle.call_commit.specs.Numbers.{is_part}
use Rattle.call_commit.proofs.Ordered.{walked-list, walked-rows, walked-off, walked_next}
use Rattle.call_commit.proofs.pass_listed.Goals as goal

pub returns-then-rows-here : goal.returns-then-rows-here
returns-then-rows-here c = walked-rows _ _ _ _ _ c.loop-i.invariant (omega (arith, c.counts-rows.ensures.rows, c.if-rows-here.true))

pub returns-then-not-is_part : goal.returns-then-not-is_part
returns-then-not-is_part c =
    walked-off _ _ _ _ _ c.loop-i.invariant (omega (arith, c.loop-i-test.true)) c.row_head-h.result c.row_head-h.ensures.row
    (ap (λ (n : ℕ). is_part n c.row_head-h.result) (sym c.get_u16.ensures) ∙ sym c.is_part.ensures ∙ not-true _ (ap not c.if-not-is_part.true))

pub loop-i-preserved : goal.loop-i-preserved
loop-i-preserved c =
    walked_next _ _ _ _ _ c.loop-i.invariant (omega (arith, c.loop-i-test.true)) c.row_head-h.result c.row_head-h.ensures.row (omega (arith, c.counts-rows.ensures.rows, c.if-rows-here.false))
    (ap (λ (n : ℕ). is_part n c.row_head-h.result) (sym c.get_u16.ensures) ∙ sym c.is_part.ensures ∙ not-false _ (ap not c.if-not-is_part.false))

pub returns : goal.returns
returns c = walked-list _ _ _ _ _ c.loop-i.invariant (omega (arith, c.loop-i-test.false))
