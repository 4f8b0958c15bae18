-- `c_shift::clear` meets its contract. Assumes nothing.
use Rattle.c_history.specs.Lists.{delete-objects, stop, call}
use Rattle.c_shift.specs.Shift.{clear_events}
use Rattle.c_shift.proofs.clear.Goals as goal

pub returns : goal.returns
unfolding clear_events
returns c = call (delete-objects _ c.rathnodi_delete_objects.ensures) stop
