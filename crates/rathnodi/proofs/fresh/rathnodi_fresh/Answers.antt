-- `rathnodi::fresh::rathnodi_fresh` meets its contract: the number of what the store answers. Assumes nothing.
use mathlib.Core.Path.{◌∙◌}
use Rattle.rathnodi.proofs.Exporting.{number-is}
use Rattle.rathnodi.proofs.fresh.rathnodi_fresh.Goals as goal

pub returns : goal.returns
returns c = rw (c.done.ensures ∙ number-is c.fresh-made.result) c.fresh-made.ensures
