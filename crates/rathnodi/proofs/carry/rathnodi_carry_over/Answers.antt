-- `rathnodi::carry::rathnodi_carry_over` meets its contract. Assumes nothing.
use Rattle.rathnodi.proofs.carry.rathnodi_carry_over.Goals as goal

pub returns : goal.returns
returns c = rw c.done.ensures c.carry_over-carried.ensures
