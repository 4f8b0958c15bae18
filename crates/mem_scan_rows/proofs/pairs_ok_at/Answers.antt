-- `mem_scan_rows::pairs_ok_at` meets its contract: a row without pairs may stand; else the test is of the parts of tables and arena. Assumes nothing.
use mathlib.Core.Path.{sym, ◌∙◌}
use native.Mathlib.Nat.{add-sub_cancel_left}
use lib.ListN.{drop}
use Rattle.mem_layout.specs.Rules.{pairs_rule}
use Rattle.mem_scan_rows.proofs.Readings.{no_pairs}
use Rattle.mem_scan_rows.proofs.pairs_ok_at.Goals as goal

pub returns-then-h-eq0 : goal.returns-then-h-eq0
unfolding pairs_rule
returns-then-h-eq0 c = let a = c.args in sym (no_pairs a.most a.h.pairs (drop a.at a.t.now) _ c.if-h-eq0.true)

pub returns : goal.returns
returns c = c.pairs_ok.ensures.rule ∙ rw (add-sub_cancel_left, add-sub_cancel_left)
