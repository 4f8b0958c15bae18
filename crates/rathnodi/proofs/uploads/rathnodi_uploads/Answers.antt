-- `rathnodi::uploads::rathnodi_uploads` meets its contract. Assumes nothing.
use Rattle.c_reply.proofs.Telling.{uploads-tells}
use Rattle.c_reply.proofs.RepliesTold.{as-listed}
use Rattle.rathnodi.proofs.Exporting.{another-length, listed}
use Rattle.rathnodi.proofs.uploads.rathnodi_uploads.Goals as goal

pub returns-then-reply-ne-REPLY_LEN : goal.returns-then-reply-ne-REPLY_LEN
returns-then-reply-ne-REPLY_LEN c = another-length _ _ _ c.if-reply-ne-REPLY_LEN.true

pub returns : goal.returns
returns c =
    let k = as-listed _ c.uploads-listed.result c.tell.ensures.number c.tell.ensures.bytes in
    listed _ (uploads-tells _ _) _ _ _ _ _ c.if-reply-ne-REPLY_LEN.false c.uploads-listed.result _ c.uploads-listed.ensures k.0 k.1
