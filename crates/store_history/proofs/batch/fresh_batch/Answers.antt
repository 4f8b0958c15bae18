-- `store_history::batch::fresh_batch` meets its contract. Assumes nothing.
use mathlib.Core.Path.{ap}
use Rattle.call_types.specs.Numbers.{result_number}
use Rattle.store_history.proofs.Concluding.{conclude}
use Rattle.store_history.proofs.batch.fresh_batch.Goals as goal

pub returns : goal.returns
returns c = conclude _ _ _ _ _ c.fresh.ensures (ap result_number c.in_ok-fresh.was) c.weigh-batch.ensures
