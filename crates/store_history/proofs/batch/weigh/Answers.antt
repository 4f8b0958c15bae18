-- `store_history::batch::weigh` meets its contract. Assumes nothing.
use Rattle.store_history.specs.Runs.{stop, call}
use Rattle.store_history.specs.Batch.{batch_trace}
use Rattle.machine.specs.PartLists.{part_list}
use mathlib.Core.Path.{◌∙◌}
use Rattle.store_history.proofs.batch.weigh.Goals as goal

pub shape_of-tables : goal.shape_of-tables
shape_of-tables c = c.commit-committed.auto.tables ∙ c.part-second.auto.tables ∙ c.part-first.auto.tables ∙ c.initiate-opened.auto.tables

pub shape_of-arena : goal.shape_of-arena
shape_of-arena c = c.commit-committed.auto.arena ∙ c.part-second.auto.arena ∙ c.part-first.auto.arena ∙ c.initiate-opened.auto.arena

pub returns : goal.returns
unfolding batch_trace part_list
returns c = call c.initiate-opened.ensures (call c.part-first.ensures (call c.part-second.ensures (call c.get-before.ensures (call c.commit-committed.ensures (call c.get-after.ensures stop)))))
