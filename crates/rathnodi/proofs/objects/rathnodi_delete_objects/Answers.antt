-- `rathnodi::objects::rathnodi_delete_objects` meets its contract. Assumes nothing.
use Rattle.rathnodi.proofs.Exporting.{results-made}
use Rattle.rathnodi.proofs.objects.rathnodi_delete_objects.Goals as goal

pub returns : goal.returns
returns c =
    let d = c.delete_packed-answer in
    results-made _ _ _ d.result _ _ d.ensures c.done.ensures
