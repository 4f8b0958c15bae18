-- `c_shift::weigh` meets its contract. Assumes nothing.
use Rattle.c_history.specs.Lists.{initiate, part, uploads, commit, abort, stop, call}
use Rattle.c_shift.specs.Shift.{weigh_events}
use mathlib.Core.Path.{◌∙◌}
use Rattle.c_shift.proofs.weigh.Goals as goal

pub shape_of-tables : goal.shape_of-tables
shape_of-tables c = c.rathnodi_abort-aborted.auto.tables ∙ c.rathnodi_commit-committed.auto.tables ∙ c.rathnodi_part-second.auto.tables ∙ c.rathnodi_initiate-first.auto.tables

pub shape_of-arena : goal.shape_of-arena
shape_of-arena c = c.rathnodi_abort-aborted.auto.arena ∙ c.rathnodi_commit-committed.auto.arena ∙ c.rathnodi_part-second.auto.arena ∙ c.rathnodi_initiate-first.auto.arena

pub returns : goal.returns
unfolding weigh_events
returns c = call (initiate _ c.rathnodi_initiate-first.ensures) (call (part c.rathnodi_part-second.ensures) (call (uploads c.rathnodi_uploads-listed.ensures) (call (commit _ c.rathnodi_commit-committed.ensures) (call (abort c.rathnodi_abort-aborted.ensures) stop))))
