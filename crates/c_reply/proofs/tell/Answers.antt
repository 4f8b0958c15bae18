-- `c_reply::tell` meets its contract: what an answer tells is written. Assumes nothing.
use mathlib.Core.Path.{sym, ◌∙◌}
use Rattle.c_reply.proofs.tell.Goals as goal

pub returns-in-Ok-clause-bytes : goal.returns-in-Ok-clause-bytes
returns-in-Ok-clause-bytes g c = rw c.in-Ok.is (c.write.ensures ∙ c.fields.ensures ∙ sym (g.met.T.Told.is_told c.in-Ok.x c.args.reply.now))
