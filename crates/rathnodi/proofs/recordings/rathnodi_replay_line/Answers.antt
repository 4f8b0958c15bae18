-- `rathnodi::recordings::rathnodi_replay_line` meets its contract. Assumes nothing.
use Rattle.rathnodi.proofs.Lines.{line-exported}
use Rattle.rathnodi.proofs.recordings.rathnodi_replay_line.Goals as goal

pub returns : goal.returns
returns c = line-exported _ _ _ _ _ _ _ _ _ c.replay_line.ensures
