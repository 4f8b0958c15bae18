-- `c_shift::replay` meets its contract. Assumes nothing.
use Rattle.c_history.specs.Lists.{replay, stop, call}
use Rattle.c_shift.specs.Shift.{replay_events}
use Rattle.c_shift.proofs.replay.Goals as goal

pub returns : goal.returns
unfolding replay_events
returns c = call (replay c.rathnodi_replay_line.ensures) stop
