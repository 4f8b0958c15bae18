-- `rathnodi::objects::rathnodi_copy` meets its contract. Assumes nothing.
use Rattle.rathnodi.proofs.Exporting.{numbered-made}
use Rattle.rathnodi.proofs.objects.rathnodi_copy.Goals as goal

pub returns : goal.returns
returns c = numbered-made _ _ _ c.copy-copied.result _ c.copy-copied.ensures c.done.ensures
