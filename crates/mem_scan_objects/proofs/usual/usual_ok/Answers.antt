-- `mem_scan_objects::usual::usual_ok` meets its contract: the tests are those of the rule, and a row without pairs may stand. Assumes nothing.
use mathlib.Core.Path.{ap, ◌∙◌}
use mathlib.Core.Bool.{not}
use Prim.Native.Nat.{◌-◌, ◌*◌}
use lib.ListN.{take, drop}
use Rattle.machine.proofs.Tests.{said-yes}
use Rattle.mem_layout.specs.Rules.{pairs_rule}
use Rattle.mem_scan_rows.proofs.Readings.{no_pairs}
use borrow.Author.Tests.{not-false}
use Rattle.mem_scan_objects.proofs.usual.usual_ok.Goals as goal

pub returns-then-not-numbers_ok : goal.returns-then-not-numbers_ok
returns-then-not-numbers_ok c e none most content = cc

pub returns-then-not-is_below : goal.returns-then-not-is_below
returns-then-not-is_below c e none most content = cc

pub returns : goal.returns
unfolding pairs_rule
returns c e none most content =
    let a = c.args in
    let path = take (a.end - a.path) (drop a.path a.t.now) in
    let rest = drop a.end a.t.now in
    let n = c.numbers_ok in
    n.ensures most a.last.now path (take (2 * a.h.pairs) rest) content
    ∙ rw (
      not-false n.result (ap not c.if-not-numbers_ok.false),
      c.short_path_ok_at.ensures e,
      said-yes c.is_below.ensures (ap not c.if-not-is_below.false),
      no_pairs most a.h.pairs rest content none,
    )
