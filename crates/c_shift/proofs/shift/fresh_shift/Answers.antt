-- `c_shift::shift::fresh_shift` meets its contract: refused by FRESH, or the field `demand3` of what C knows. Assumes nothing.
use Rattle.std.proofs.Common.{refl}
use Rattle.c_history.proofs.Known.{conclude}
use Rattle.c_shift.proofs.shift.fresh_shift.Goals as goal

pub returns-then-n-ne0 : goal.returns-then-n-ne0
returns-then-n-ne0 c =
    let made = c.rathnodi_fresh-n.ensures in
    (c.if-n-ne0.true, made.answers, made.refusal c.if-n-ne0.true, refl, refl, refl, refl)

pub returns : goal.returns
returns c = (conclude _ _ _ _ _ c.rathnodi_fresh-n.ensures c.if-n-ne0.false c.weigh-weighed.ensures).demand3
