-- `pairs::front::pair_ok` meets its contract. Assumes nothing.
use mathlib.Core.Path.{sym, ap, ◌∙◌}
use Rattle.pairs.proofs.FrontLaws.{ok-cut, ok-key, ok-value}
use Rattle.machine.specs.Pairs.{key_ok, value_ok}
use Rattle.pairs.proofs.front.pair_ok.Goals.{then-fits, else-fits}
use Rattle.pairs.proofs.front.pair_ok.Goals as goal

pub returns-then-key_ok : goal.returns-then-key_ok
returns-then-key_ok c =
    let rest = c.args.rest.now in
    elim c.if-fits.branch [
      | then-fits w ↦ ok-value rest c.value_ok.result (sym c.fits.ensures ∙ w.if-fits.true)
          (sym (w.key_ok.ensures ∙ ap key_ok w.key.ensures) ∙ sym w.value-is ∙ c.if-key_ok.true) (c.value_ok.ensures ∙ ap value_ok c.value.ensures)
      | else-fits w ↦ let e = w.value-is in let f = c.if-key_ok.true in cc
    ]

pub returns-else-key_ok : goal.returns-else-key_ok
returns-else-key_ok c =
    let rest = c.args.rest.now in
    rw c.if-key_ok.false (elim c.if-fits.branch [
      | then-fits w ↦ ok-key rest (sym c.fits.ensures ∙ w.if-fits.true) (sym (w.key_ok.ensures ∙ ap key_ok w.key.ensures) ∙ sym w.value-is ∙ c.if-key_ok.false)
      | else-fits w ↦ ok-cut rest (sym c.fits.ensures ∙ w.if-fits.false)
    ])
