-- `recording_replay::replay_line` meets its contract. Assumes nothing.
use mathlib.Core.Path.{◌∙◌}
use native.Mathlib.Omega.{arith}
use Rattle.recording_replay.proofs.ByVerb.{another-length, too_long, line-entry}
use Rattle.machine.specs.Calls.{buffers}
use Rattle.recording_replay.proofs.replay_line.Goals as goal

-- src/lib.rt:191:9
pub returns-then-reply-ne48 : goal.returns-then-reply-ne48
returns-then-reply-ne48 c =
    let a = c.args in
    another-length (buffers a.answer.now a.pairs.now) a.reply.now c.if-reply-ne48.true

-- src/lib.rt:194:9
pub returns-then-line-gt4096 : goal.returns-then-line-gt4096
returns-then-line-gt4096 c =
    let a = c.args in
    too_long (buffers a.answer.now a.pairs.now) a.reply.now c.done.result c.if-line-gt4096.true c.if-reply-ne48.false (c.done.ensures ∙ c.refusal.ensures)

-- src/lib.rt:173:1
pub returns : goal.returns
returns c = line-entry c.args.line.now (omega arith) c.if-reply-ne48.false c.verb_line.ensures
