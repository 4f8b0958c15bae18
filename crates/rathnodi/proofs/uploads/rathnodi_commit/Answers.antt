-- `rathnodi::uploads::rathnodi_commit` meets its contract. Assumes nothing.
use Rattle.rathnodi.proofs.Exporting.{numbered-made}
use Rattle.rathnodi.proofs.uploads.rathnodi_commit.Goals as goal

pub returns : goal.returns
returns c = numbered-made _ _ _ c.commit-committed.result _ c.commit-committed.ensures c.done.ensures
