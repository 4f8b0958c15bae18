-- `mem_scan::entries::scan_entries` meets its contract. The invariant: the scan of all rows is the scan of those not yet passed. Assumes nothing.
use mathlib.Core.Path.{ap, sym, ◌∙◌}
use mathlib.Core.Bool.{not}
use Prim.Native.Nat.{◌+◌, ◌≤◌}
use native.Mathlib.Omega.{arith}
use Rattle.mem_scan_rows.proofs.Turns.{offset_at}
use Rattle.mem_scan.proofs.EntryTurns.{opens_small, entries-counted, entries-miscounted, entries-short, entries-wrong, entries_next}
use Rattle.mem_scan.proofs.entries.scan_entries.Goals as goal

pub returns-in_err-h : goal.returns-in_err-h
returns-in_err-h c =
    let a = c.args in
    c.from_residual.ensures ∙ sym (c.loop-i.invariant.0 ∙ entries-short a.t.now a.arena.now a.most a.next a.uploads c.loop-i.opened (a.uploads + a.parts) c.loop-i.i c.loop-i.m (offset_at c.loop-i.at c.loop-i.base) c.loop-i-test.true (sym c.read_row.ensures.reading ∙ c.in_err-h.was))

pub returns-then-not-entry_ok : goal.returns-then-not-entry_ok
returns-then-not-entry_ok c =
    let a = c.args in
    sym (c.loop-i.invariant.0 ∙ entries-wrong a.t.now a.arena.now a.most a.next a.uploads c.loop-i.opened (a.uploads + a.parts) c.loop-i.i c.loop-i.m (offset_at c.loop-i.at c.loop-i.base) c.loop-i-test.true (λ j. (c.type_inv.t j).fits) _ (sym c.read_row.ensures.reading ∙ c.in_ok-h.was) _ c.entry_ok.ensures (ap not c.if-not-entry_ok.true))

pub overflow_add-opened : goal.overflow_add-opened
overflow_add-opened c = omega (arith, c.opening-opened.ensures, opens_small c.in_ok-h.h, c.loop-i-test.true, c.ranges.uploads, c.ranges.parts, c.loop-i.invariant)

pub loop-i-preserved : goal.loop-i-preserved
loop-i-preserved c =
    let a = c.args in
    let run = c.pass_parts-run.ensures in
    let opens : c.opening-opened.result ≤ 1 = omega (arith, c.opening-opened.ensures, opens_small c.in_ok-h.h) in (
      c.loop-i.invariant.0
          ∙ entries_next a.t.now a.arena.now a.most a.next a.uploads c.loop-i.opened (a.uploads + a.parts) c.loop-i.i c.loop-i.m (offset_at c.loop-i.at c.loop-i.base) c.loop-i-test.true (λ j. (c.type_inv.t j).fits) _ (sym c.read_row.ensures.reading ∙ c.in_ok-h.was) _ c.entry_ok.ensures (ap not c.if-not-entry_ok.false) _ c.opening-opened.ensures _ c.mark_after.ensures
          ∙ run.4 a.most a.next a.uploads (c.loop-i.opened + c.opening-opened.result),
      run.2,
      run.3,
      run.1,
      omega (arith, run.0, opens, c.loop-i.invariant),
    )

pub returns-then-opened-uploads : goal.returns-then-opened-uploads
returns-then-opened-uploads c =
    let a = c.args in
    sym (c.loop-i.invariant.0 ∙ entries-miscounted a.t.now a.arena.now a.most a.next a.uploads c.loop-i.opened (a.uploads + a.parts) c.loop-i.i c.loop-i.m (offset_at c.loop-i.at c.loop-i.base) c.loop-i-test.false (λ e. omega (arith, c.if-opened-uploads.true)))

pub returns : goal.returns
returns c =
    let a = c.args in
    sym (c.loop-i.invariant.0 ∙ entries-counted a.t.now a.arena.now a.most a.next a.uploads c.loop-i.opened (a.uploads + a.parts) c.loop-i.i c.loop-i.m (offset_at c.loop-i.at c.loop-i.base) c.loop-i-test.false (omega (arith, c.if-opened-uploads.false)))
