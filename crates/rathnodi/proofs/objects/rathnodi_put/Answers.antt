-- `rathnodi::objects::rathnodi_put` meets its contract. Assumes nothing.
use Rattle.rathnodi.proofs.Exporting.{numbered-made}
use Rattle.rathnodi.proofs.objects.rathnodi_put.Goals as goal

pub returns : goal.returns
returns c = numbered-made _ _ _ c.put-put.result _ c.put-put.ensures c.done.ensures
