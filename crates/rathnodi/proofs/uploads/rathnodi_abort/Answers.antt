-- `rathnodi::uploads::rathnodi_abort` meets its contract. Assumes nothing.
use Rattle.rathnodi.proofs.Exporting.{numbered-made}
use Rattle.rathnodi.proofs.uploads.rathnodi_abort.Goals as goal

pub returns : goal.returns
returns c = numbered-made _ _ _ c.abort-aborted.result _ c.abort-aborted.ensures c.done.ensures
