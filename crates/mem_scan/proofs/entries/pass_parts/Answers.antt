-- `mem_scan::entries::pass_parts` meets its contract. The invariant: the scan of all rows is the scan of those not yet passed. Assumes nothing.
use mathlib.Core.Path.{◌∙◌}
use native.Mathlib.Omega.{arith}
use Rattle.mem_scan_rows.proofs.Turns.{offset_at}
use Rattle.mem_scan.proofs.EntryTurns.{part-next}
use Rattle.mem_scan.proofs.entries.pass_parts.Goals as goal

pub loop-i-preserved : goal.loop-i-preserved
loop-i-preserved c =
    let a = c.args in
    let part = c.in-Some.ensures.part in (
      λ most next uploads opened.
          c.loop-i.invariant.0 most next uploads opened
          ∙ part-next a.t.now a.arena.now most next uploads opened a.rows c.loop-i.i c.loop-i.after (offset_at c.loop-i.at c.loop-i.base) c.loop-i-test.true (λ j. (c.type_inv.t j).fits) c.in-Some.h part.0 part.1 _ c.mark_after-after.ensures,
      omega (arith, c.in-Some.ensures.inside),
      omega (arith, c.in-Some.ensures.inside),
      omega arith,
      omega arith,
    )
