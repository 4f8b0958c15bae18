-- `rathnodi::uploads::rathnodi_initiate` meets its contract. Assumes nothing.
use Rattle.c_reply.proofs.Telling.{initiate-tells}
use Rattle.c_reply.proofs.RepliesTold.{as-opened}
use Rattle.rathnodi.proofs.Exporting.{another-length, initiated}
use Rattle.rathnodi.proofs.uploads.rathnodi_initiate.Goals as goal

pub returns-then-reply-ne-REPLY_LEN : goal.returns-then-reply-ne-REPLY_LEN
returns-then-reply-ne-REPLY_LEN c = another-length _ _ _ c.if-reply-ne-REPLY_LEN.true

pub returns : goal.returns
returns c =
    let k = as-opened _ c.initiate-opened.result c.tell.ensures.number c.tell.ensures.bytes in
    initiated _ (initiate-tells _ _ _) _ _ _ _ _ c.if-reply-ne-REPLY_LEN.false c.initiate-opened.result c.initiate-opened.ensures k.0 k.1
