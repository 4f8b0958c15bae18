-- `c_shift::shelve` meets its contract. Assumes nothing.
use Rattle.c_history.specs.Lists.{put, get, head, copy, list, delete, stop, call}
use Rattle.c_shift.specs.Shift.{shelf_events}
use mathlib.Core.Path.{◌∙◌}
use Rattle.c_shift.proofs.shelve.Goals as goal

pub shape_of-tables : goal.shape_of-tables
shape_of-tables c = c.rathnodi_delete-deleted.auto.tables ∙ c.rathnodi_copy-copied.auto.tables ∙ c.rathnodi_put-put.auto.tables

pub shape_of-arena : goal.shape_of-arena
shape_of-arena c = c.rathnodi_delete-deleted.auto.arena ∙ c.rathnodi_copy-copied.auto.arena ∙ c.rathnodi_put-put.auto.arena

pub shape_of-answer : goal.shape_of-answer
shape_of-answer c = c.rathnodi_get-got.auto.answer

pub shape_of-answer_pairs : goal.shape_of-answer_pairs
shape_of-answer_pairs c = c.rathnodi_get-got.auto.pairs

pub shape_of-found : goal.shape_of-found
shape_of-found c = c.rathnodi_get-got.auto.reply

pub shape_of-head_pairs : goal.shape_of-head_pairs
shape_of-head_pairs c = c.rathnodi_head-head.auto.pairs

pub shape_of-about : goal.shape_of-about
shape_of-about c = c.rathnodi_head-head.auto.reply

pub returns : goal.returns
unfolding shelf_events
returns c = call (put _ c.rathnodi_put-put.ensures) (call (get c.rathnodi_get-got.ensures) (call (head c.rathnodi_head-head.ensures) (call (copy c.rathnodi_copy-copied.ensures) (call (list c.rathnodi_list-listed.ensures) (call (delete c.rathnodi_delete-deleted.ensures) stop)))))
