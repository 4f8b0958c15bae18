-- `rathnodi::objects::rathnodi_delete` meets its contract. Assumes nothing.
use Rattle.rathnodi.proofs.Exporting.{numbered-made}
use Rattle.rathnodi.proofs.objects.rathnodi_delete.Goals as goal

pub returns : goal.returns
returns c = numbered-made _ _ _ c.delete-deleted.result _ c.delete-deleted.ensures c.done.ensures
