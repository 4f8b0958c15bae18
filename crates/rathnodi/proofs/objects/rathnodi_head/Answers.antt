-- `rathnodi::objects::rathnodi_head` meets its contract. Assumes nothing.
use Rattle.c_reply.proofs.Telling.{head-tells}
use Rattle.c_reply.proofs.RepliesTold.{as-got}
use Rattle.rathnodi.proofs.Exporting.{another-length, got}
use Rattle.rathnodi.proofs.objects.rathnodi_head.Goals as goal

pub returns-then-reply-ne-REPLY_LEN : goal.returns-then-reply-ne-REPLY_LEN
returns-then-reply-ne-REPLY_LEN c = another-length _ _ _ c.if-reply-ne-REPLY_LEN.true

pub returns : goal.returns
returns c =
    let k = as-got _ c.head-head.result c.tell.ensures.number c.tell.ensures.bytes in
    got _ (head-tells _ _) _ _ _ _ _ c.if-reply-ne-REPLY_LEN.false c.head-head.result _ c.head-head.ensures k.0 k.1
