-- `mem_scan_rows::numbers_ok` meets its contract: the tests are the definition's, in another order. Assumes nothing.
use Prim.Native.Nat.{◌≤◌, ◌<◌}
use mathlib.Core.Bool.{and-false, cond}
use lib.Dec.{eqb}
use Rattle.machine.proofs.Tests.{tests}
use Rattle.mem_layout.specs.Rules.{all, object_rule, plain_kind, parts_most}
use borrow.Author.Tests.{lt-leb}
use native.Mathlib.Omega.{arith}
use Rattle.mem_scan_rows.proofs.numbers_ok.Goals as goal
use Rattle.mem_scan_rows.proofs.numbers_ok.Goals.{then-h-ne0+else-most_parts-h, else-h-ne0}

pub returns-then-h-gt-JOINED_KIND : goal.returns-then-h-gt-JOINED_KIND
unfolding all object_rule
returns-then-h-gt-JOINED_KIND c most last path lengths content = simp (lt-leb _ _ c.if-h-gt-JOINED_KIND.true, and-false)

pub returns-then-most_parts-h : goal.returns-then-most_parts-h
unfolding all object_rule
returns-then-most_parts-h c most last path lengths content =
    let h = c.args.h in
    let m : cond (eqb h.kind plain_kind) 0 parts_most < h.count = rw c.most_parts.ensures at c.if-most_parts-h.true in
    simp (lt-leb _ _ m, and-false)

pub returns-then-h-ne0-2 : goal.returns-then-h-ne0-2
unfolding all object_rule
returns-then-h-ne0-2 c most last path lengths content = search tests

pub returns : goal.returns
unfolding all object_rule
returns c most last path lengths content =
    let h = c.args.h in
    let m : h.count ≤ cond (eqb h.kind plain_kind) 0 parts_most = elim c.if-h-ne0.branch [ then-h-ne0+else-most_parts-h w ↦ rw w.most_parts.ensures at w.if-most_parts-h.false | else-h-ne0 w ↦ omega arith ] in
    search tests
