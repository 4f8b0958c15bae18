-- `c_reply::done_alone` meets its contract. Assumes nothing.
use mathlib.Core.Path.{refl, ◌∙◌}
use Rattle.c_reply.proofs.Alone.{refused-leaves, done-clears}
use Rattle.c_reply.proofs.done_alone.Goals as goal

pub returns-in-Ok : goal.returns-in-Ok
returns-in-Ok c = rw c.in-Ok.is (refl, c.write.ensures ∙ done-clears c.args.reply.now)

pub returns-in-Err : goal.returns-in-Err
returns-in-Err c = rw c.in-Err.is (c.number.ensures, refused-leaves c.in-Err.refusal c.args.reply.now)
