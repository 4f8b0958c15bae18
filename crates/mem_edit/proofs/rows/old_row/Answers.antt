-- `mem_edit::rows::old_row` meets its contract: the head of the row tells. Assumes nothing.
use mathlib.Core.Path.{sym, ap, ◌∙◌}
use mathlib.Core.Bool.{Bool, true}
use lib.ListN.{drop}
use borrow.Author.Tests.{not-true, not-false}
use Rattle.mem_row.specs.Row.{head_at}
use Rattle.mem_edit.specs.Rows.{old_row_at}
use Rattle.mem_edit.proofs.rows.old_row.Goals as goal

pub returns-then-not-place : goal.returns-then-not-place
returns-then-not-place c =
    let a = c.args in
    sym (ap (λ (b : Bool). old_row_at b (head_at (drop a.place.at a.tables.now))) (not-true a.place.found c.if-not-place.true))

pub read_head-h-requires : goal.read_head-h-requires
read_head-h-requires c = c.requires (not-false c.args.place.found c.if-not-place.false)

pub returns : goal.returns
returns c =
    let h = c.read_head-h in
    let n = c.span.ensures in
    (λ i. record { rows = 1; length = n i; size = h.result.size })
    ∙ ap (old_row_at true) h.ensures
    ∙ sym (ap (λ (b : Bool). old_row_at b (head_at (drop c.args.place.at c.args.tables.now))) (not-false c.args.place.found c.if-not-place.false))
