-- `mem_find_uploads::search::stands` meets its contract: the row's head has its kind and its number. Assumes nothing.
use mathlib.Core.Path.{sym, ap, ◌∙◌}
use mathlib.Core.Bool.{Bool, ◌&&◌}
use native.Mathlib.Omega.{arith}
use borrow.Author.Tests.{eq-eqb, ne_eqb}
use lib.Dec.{eqb}
use Rattle.mem_find_uploads.proofs.Walk.{leads-none, leads-row}
use Rattle.mem_find_uploads.proofs.search.stands.Goals as goal

pub returns-then-counts-here : goal.returns-then-counts-here
returns-then-counts-here c =
    let a = c.args in
    sym (leads-none a.kind a.number _ a.here.row (omega (arith, c.counts.ensures.rows, c.if-counts-here.true)))

pub returns-then-h-kind : goal.returns-then-h-kind
returns-then-h-kind c =
    let a = c.args in
    let h = c.row_head-h.result in
    ap (λ (b : Bool). b && eqb h.number a.number) (sym (eq-eqb _ _ c.if-h-kind.true)) ∙ sym (leads-row a.kind a.number _ a.here h c.row_head-h.ensures.row)

pub returns-else-h-kind : goal.returns-else-h-kind
returns-else-h-kind c =
    let a = c.args in
    let h = c.row_head-h.result in
    ne_eqb _ _ c.if-h-kind.false ∙ ap (λ (b : Bool). b && eqb h.number a.number) (sym (ne_eqb _ _ c.if-h-kind.false)) ∙ sym (leads-row a.kind a.number _ a.here h c.row_head-h.ensures.row)
