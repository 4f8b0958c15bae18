-- `rathnodi::uploads::rathnodi_part` meets its contract. Assumes nothing.
use Rattle.c_reply.proofs.Telling.{part-tells}
use Rattle.c_reply.proofs.RepliesTold.{as-stored}
use Rattle.rathnodi.proofs.Exporting.{another-length, part-stored}
use Rattle.rathnodi.proofs.uploads.rathnodi_part.Goals as goal

pub returns-then-reply-ne-REPLY_LEN : goal.returns-then-reply-ne-REPLY_LEN
returns-then-reply-ne-REPLY_LEN c = another-length _ _ _ c.if-reply-ne-REPLY_LEN.true

pub returns : goal.returns
returns c =
    let k = as-stored _ c.part-set.result c.tell.ensures.number c.tell.ensures.bytes in
    part-stored _ (part-tells _ _ _) _ _ _ _ _ c.if-reply-ne-REPLY_LEN.false c.part-set.result c.part-set.ensures k.0 k.1
