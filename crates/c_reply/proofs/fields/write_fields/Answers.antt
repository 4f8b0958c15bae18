-- `c_reply::fields::write_fields` meets its contract: nine writes, one after the other. Assumes nothing.
use mathlib.Core.Path.{◌∙◌}
use Rattle.base_md5.specs.Md5.{bytes_of}
use Rattle.base_md5.specs.Md5Laws.{length-bytes_of}
use Rattle.c_reply.proofs.Places.{written}
use Rattle.c_reply.proofs.fields.write_fields.Goals as goal

pub shape_of-reply : goal.shape_of-reply
shape_of-reply c =
    c.write_pairs.auto.reply ∙ c.put.auto.b ∙ c.put_u16-2.auto.b ∙ c.put_u16.auto.b ∙ c.put_u32-4.auto.b
    ∙ c.put_u32-3.auto.b ∙ c.put_u32-2.auto.b ∙ c.put_u32.auto.b ∙ c.put_u64.auto.b

pub returns : goal.returns
returns c =
    let a = c.args in
    written a.reply.now c.requires a.created a.size a.upload a.records a.bytes a.kind a.more a.count (bytes_of a.digest) a.pairs a.pairsize
    c.pair.result c.pair.ensures.0 c.pair.ensures.1 c.pair.ensures.2 (length-bytes_of a.digest)
    c.put_u64.ensures c.put_u32.ensures c.put_u32-2.ensures c.put_u32-3.ensures c.put_u32-4.ensures
    c.put_u16.ensures c.put_u16-2.ensures c.put.ensures c.write_pairs.ensures
