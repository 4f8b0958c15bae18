-- `pairs_stored::stored::stored_ok` meets its contract. Assumes nothing.
use mathlib.Core.Path.{sym, ◌∙◌}
use native.Mathlib.Omega.{arith}
use borrow.Author.Tests.{eqb-true, eqb-false, leb-true}
use Rattle.pairs_stored.proofs.Storing.{test-many, test_sum, test-all}
use Rattle.pairs_stored.proofs.stored.stored_ok.Goals.{then-lengths, else-lengths}
use Rattle.pairs_stored.proofs.stored.stored_ok.Goals as goal

pub returns-then-sum_of-bytes : goal.returns-then-sum_of-bytes
returns-then-sum_of-bytes c =
    let a = c.args in
    elim c.if-lengths.branch [
      | then-lengths w ↦ test-all a.lengths.now a.bytes.now c.all_kept.result (omega arith)
          (sym w.sum_of.ensures ∙ eqb-true _ _ (sym w.value-is ∙ c.if-sum_of-bytes.true)) c.all_kept.ensures
      | else-lengths w ↦ absurd (omega (arith, leb-true _ _ (sym w.value-is ∙ c.if-sum_of-bytes.true), w.if-lengths.false))
    ]

pub returns-else-sum_of-bytes : goal.returns-else-sum_of-bytes
returns-else-sum_of-bytes c =
    let a = c.args in
    rw c.if-sum_of-bytes.false (elim c.if-lengths.branch [
      | then-lengths w ↦ test_sum a.lengths.now a.bytes.now (λ e. eqb-false _ _ (sym w.value-is ∙ c.if-sum_of-bytes.false) (w.sum_of.ensures ∙ e))
      | else-lengths w ↦ test-many a.lengths.now a.bytes.now (omega (arith, w.if-lengths.false))
    ])
