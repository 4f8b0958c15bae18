-- `mem_scan_objects::objects::scan_objects` meets its contract. The invariant: the scan of all rows is the scan of those not yet passed. Assumes nothing.
use mathlib.Core.Path.{ap, sym, ◌∙◌}
use mathlib.Core.Bool.{not}
use native.Mathlib.Omega.{arith}
use borrow.Author.Tests.{not-false}
use Rattle.mem_scan_rows.proofs.Turns.{offset_at}
use Rattle.mem_scan_objects.proofs.ObjectTurns.{objects-end, objects-usual}
use Rattle.mem_scan_objects.proofs.objects.scan_objects.Goals as goal

pub loop-i-preserved : goal.loop-i-preserved
loop-i-preserved c =
    let a = c.args in
    let usual = c.in-Some.ensures.usual in
    let ok = c.usual_ok in (
      c.loop-i.invariant.0
          ∙ objects-usual a.t.now a.arena.now a.most a.rows c.loop-i.i _ (offset_at c.loop-i.at c.loop-i.base) c.loop-i-test.true (λ j. (c.type_inv.t j).fits) c.in-Some.h usual.0 usual.1 (ok.ensures (not-false ok.result (ap not c.if-not-usual_ok.false)) usual.1 _ _),
      omega arith,
      omega (arith, c.in-Some.ensures.inside, usual.1),
      omega (arith, c.in-Some.ensures.inside),
      omega arith,
    )

pub returns : goal.returns
returns c =
    let a = c.args in
    sym (c.loop-i.invariant.0 ∙ objects-end a.t.now a.arena.now a.most a.rows c.loop-i.i _ (offset_at c.loop-i.at c.loop-i.base) c.loop-i-test.false)
