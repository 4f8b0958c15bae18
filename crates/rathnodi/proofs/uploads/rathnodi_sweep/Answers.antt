-- `rathnodi::uploads::rathnodi_sweep` meets its contract. Assumes nothing.
use Rattle.c_reply.proofs.Telling.{sweep-tells}
use Rattle.c_reply.proofs.RepliesTold.{as-swept}
use Rattle.rathnodi.proofs.Exporting.{another-length, swept-out}
use Rattle.rathnodi.proofs.uploads.rathnodi_sweep.Goals as goal

pub returns-then-reply-ne-REPLY_LEN : goal.returns-then-reply-ne-REPLY_LEN
returns-then-reply-ne-REPLY_LEN c = another-length _ _ _ c.if-reply-ne-REPLY_LEN.true

pub returns : goal.returns
returns c =
    let k = as-swept _ c.sweep-swept.result c.tell.ensures.number c.tell.ensures.bytes in
    swept-out _ (sweep-tells _ _) _ _ _ _ _ c.if-reply-ne-REPLY_LEN.false c.sweep-swept.result c.sweep-swept.ensures k.0 k.1
