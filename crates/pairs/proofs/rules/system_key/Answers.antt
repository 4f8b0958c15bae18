-- `pairs::rules::system_key` meets its contract: the tests are the definition's. Assumes nothing.
use mathlib.Core.Path.{sym, ◌∙◌}
use Rattle.machine.specs.Pairs.{system_key}
use Rattle.pairs.proofs.rules.system_key.Goals.{then-equal, else-equal}
use Rattle.pairs.proofs.rules.system_key.Goals as goal

pub returns-then-equal-2 : goal.returns-then-equal-2
unfolding system_key
returns-then-equal-2 c =
    rw c.if-equal-2.true (elim c.if-equal.branch [
      | then-equal w ↦ rw (sym c.equal.ensures ∙ w.if-equal.true)
      | else-equal w ↦ rw (sym c.equal.ensures ∙ w.if-equal.false, sym w.equal-else-equal.ensures ∙ sym w.value-is ∙ c.if-equal-2.true)
    ])

pub returns-else-equal-2 : goal.returns-else-equal-2
unfolding system_key
returns-else-equal-2 c =
    elim c.if-equal.branch [
      | then-equal w ↦ let e = w.value-is in let f = c.if-equal-2.false in cc
      | else-equal w ↦ rw (sym c.equal.ensures ∙ w.if-equal.false, sym w.equal-else-equal.ensures ∙ sym w.value-is ∙ c.if-equal-2.false) c.equal-else-equal-2.ensures
    ]
