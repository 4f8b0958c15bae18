-- `mem_scan_objects::objects::scan_from` meets its contract. The invariant: the scan of all rows is the scan of those not yet passed. Assumes nothing.
use mathlib.Core.Path.{ap, sym, ◌∙◌}
use mathlib.Core.Bool.{not}
use native.Mathlib.Omega.{arith}
use Rattle.mem_scan_rows.proofs.Turns.{offset_at}
use Rattle.mem_scan_objects.proofs.ObjectTurns.{objects-end, objects-short, objects-wrong, objects-next}
use Rattle.mem_scan_objects.proofs.objects.scan_from.Goals as goal

pub returns-in_err-h : goal.returns-in_err-h
returns-in_err-h c =
    let a = c.args in
    c.from_residual.ensures ∙ sym (c.loop-i.invariant.0 ∙ objects-short a.t.now a.arena.now a.most a.rows c.loop-i.i _ (offset_at c.loop-i.at c.loop-i.base) c.loop-i-test.true (sym c.read_row.ensures.reading ∙ c.in_err-h.was))

pub returns-then-not-object_ok : goal.returns-then-not-object_ok
returns-then-not-object_ok c =
    let a = c.args in
    sym (c.loop-i.invariant.0 ∙ objects-wrong a.t.now a.arena.now a.most a.rows c.loop-i.i _ (offset_at c.loop-i.at c.loop-i.base) c.loop-i-test.true (λ j. (c.type_inv.t j).fits) _ (sym c.read_row.ensures.reading ∙ c.in_ok-h.was) _ c.object_ok.ensures (ap not c.if-not-object_ok.true))

pub loop-i-preserved : goal.loop-i-preserved
loop-i-preserved c =
    let a = c.args in (
      c.loop-i.invariant.0 ∙ objects-next a.t.now a.arena.now a.most a.rows c.loop-i.i _ (offset_at c.loop-i.at c.loop-i.base) c.loop-i-test.true (λ j. (c.type_inv.t j).fits) _ (sym c.read_row.ensures.reading ∙ c.in_ok-h.was) _ c.object_ok.ensures (ap not c.if-not-object_ok.false),
      omega arith,
      omega arith,
      omega (arith, c.in_ok-h.ensures.inside),
      omega (arith, c.in_ok-h.ensures.inside),
      omega arith,
    )

pub returns : goal.returns
returns c =
    let a = c.args in
    sym (c.loop-i.invariant.0 ∙ objects-end a.t.now a.arena.now a.most a.rows c.loop-i.i _ (offset_at c.loop-i.at c.loop-i.base) c.loop-i-test.false)
