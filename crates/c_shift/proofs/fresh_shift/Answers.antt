-- `c_shift::fresh_shift` meets its contract: FRESH refused, or the four lists one after the other. Assumes nothing.
use mathlib.Core.Path.{refl, ◌∙◌}
use Rattle.c_shift.specs.Shift.{shift_events}
use Rattle.c_history.proofs.Known.{then, conclude}
use Rattle.c_shift.proofs.fresh_shift.Goals as goal

pub returns-then-n-ne0 : goal.returns-then-n-ne0
returns-then-n-ne0 c = let made = c.rathnodi_fresh-n.ensures in (c.if-n-ne0.true, made.answers, made.refusal c.if-n-ne0.true, refl)

pub shape_of-tables : goal.shape_of-tables
shape_of-tables c = c.sweep-last.auto.tables ∙ c.weigh-weighed.auto.tables ∙ c.clear-cleared.auto.tables ∙ c.shelve-shelf.auto.tables ∙ c.rathnodi_fresh-n.auto.tables

pub shape_of-arena : goal.shape_of-arena
shape_of-arena c = c.sweep-last.auto.arena ∙ c.weigh-weighed.auto.arena ∙ c.clear-cleared.auto.arena ∙ c.shelve-shelf.auto.arena ∙ c.rathnodi_fresh-n.auto.arena

pub shape_of-answer : goal.shape_of-answer
shape_of-answer c = c.shelve-shelf.auto.answer

pub shape_of-answer_pairs : goal.shape_of-answer_pairs
shape_of-answer_pairs c = c.shelve-shelf.auto.answer_pairs

pub shape_of-found : goal.shape_of-found
shape_of-found c = c.shelve-shelf.auto.found

pub shape_of-head_pairs : goal.shape_of-head_pairs
shape_of-head_pairs c = c.shelve-shelf.auto.head_pairs

pub shape_of-about : goal.shape_of-about
shape_of-about c = c.shelve-shelf.auto.about

pub shape_of-listing : goal.shape_of-listing
shape_of-listing c = c.shelve-shelf.auto.listing

pub shape_of-counts : goal.shape_of-counts
shape_of-counts c = c.shelve-shelf.auto.counts

pub returns : goal.returns
unfolding shift_events
returns c =
    conclude _ _ _ _ _ c.rathnodi_fresh-n.ensures c.if-n-ne0.false
    (then c.shelve-shelf.ensures (then c.clear-cleared.ensures (then c.weigh-weighed.ensures c.sweep-last.ensures)))
