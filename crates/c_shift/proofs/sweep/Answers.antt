-- `c_shift::sweep` meets its contract. Assumes nothing.
use Rattle.c_history.specs.Lists.{sweep, stop, call}
use Rattle.c_shift.specs.Shift.{sweep_events}
use Rattle.c_shift.proofs.sweep.Goals as goal

pub returns : goal.returns
unfolding sweep_events
returns c = call (sweep c.rathnodi_sweep.ensures) stop
