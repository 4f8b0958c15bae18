-- `recording_replay::verb_line` meets its contract. Assumes nothing.
use mathlib.Core.Path.{◌∙◌}
use lib.ListN.{drop}
use Rattle.machine.specs.Calls.{buffers}
use Rattle.c_reply.proofs.RepliesTold.{as-got, as-listed, as-opened, as-stored}
use Rattle.recording_replay.proofs.Tells.{get-tell, head-tell, list-tell, uploads-tell, initiate-tell, part-tell}
use Rattle.recording_replay.proofs.ByVerb.{no-verb, line-by-verb, line-none, line-done, line-got, line-head, line-listed, line-opened, line-stored}
use Rattle.recording_replay.proofs.verb_line.Goals as goal

pub returns-in-Some-Put : goal.returns-in-Some-Put
returns-in-Some-Put c =
    let a = c.args in
    let g = c.put_line-done in
    let w = c.done_alone in
    line-by-verb a.line.now 0 (rw c.in-Some-Put.field-0-is at c.in-Some-Put.ensures)
    (line-done a.answer.now a.pairs.now a.reply.now w.new.reply w.result g.result w.ensures.0 w.ensures.1 g.ensures)

pub returns-in-Some-Get : goal.returns-in-Some-Get
returns-in-Some-Get c =
    let a = c.args in
    let g = c.get_line-got in
    let w = c.tell in
    let k = as-got _ g.result w.ensures.number w.ensures.bytes in
    line-by-verb a.line.now 1 (rw c.in-Some-Get.field-0-is at c.in-Some-Get.ensures)
    (line-got a.answer.now a.pairs.now a.reply.now w.new.reply w.result (get-tell a.answer.now a.pairs.now (drop 4 a.line.now)) g.result g.new.answer g.new.pairs k.0 k.1 g.auto.answer g.auto.pairs g.ensures)

pub returns-in-Some-Head : goal.returns-in-Some-Head
returns-in-Some-Head c =
    let a = c.args in
    let g = c.head_line-got in
    let w = c.tell-in-Some-Head in
    let k = as-got _ g.result w.ensures.number w.ensures.bytes in
    line-by-verb a.line.now 2 (rw c.in-Some-Head.field-0-is at c.in-Some-Head.ensures)
    (line-head a.answer.now a.pairs.now a.reply.now w.new.reply w.result (head-tell a.answer.now a.pairs.now (drop 5 a.line.now)) g.result g.new.pairs k.0 k.1 g.auto.pairs (g.ensures a.answer.now))

pub returns-in-Some-Delete : goal.returns-in-Some-Delete
returns-in-Some-Delete c =
    let a = c.args in
    let g = c.delete_line-done in
    let w = c.done_alone-in-Some-Delete in
    line-by-verb a.line.now 3 (rw c.in-Some-Delete.field-0-is at c.in-Some-Delete.ensures)
    (line-done a.answer.now a.pairs.now a.reply.now w.new.reply w.result g.result w.ensures.0 w.ensures.1 g.ensures)

pub returns-in-Some-Copy : goal.returns-in-Some-Copy
returns-in-Some-Copy c =
    let a = c.args in
    let g = c.copy_line-done in
    let w = c.done_alone-in-Some-Copy in
    line-by-verb a.line.now 4 (rw c.in-Some-Copy.field-0-is at c.in-Some-Copy.ensures)
    (line-done a.answer.now a.pairs.now a.reply.now w.new.reply w.result g.result w.ensures.0 w.ensures.1 g.ensures)

pub returns-in-Some-List : goal.returns-in-Some-List
returns-in-Some-List c =
    let a = c.args in
    let g = c.list_line-listed in
    let w = c.tell-in-Some-List in
    let k = as-listed _ g.result w.ensures.number w.ensures.bytes in
    line-by-verb a.line.now 5 (rw c.in-Some-List.field-0-is at c.in-Some-List.ensures)
    (line-listed a.answer.now a.pairs.now a.reply.now w.new.reply w.result (list-tell a.answer.now a.pairs.now (drop 5 a.line.now)) g.result g.new.answer k.0 k.1 g.auto.answer (g.ensures a.pairs.now))

pub returns-in-Some-Initiate : goal.returns-in-Some-Initiate
returns-in-Some-Initiate c =
    let a = c.args in
    let g = c.initiate_line-opened in
    let w = c.tell-in-Some-Initiate in
    let k = as-opened _ g.result w.ensures.number w.ensures.bytes in
    line-by-verb a.line.now 6 (rw c.in-Some-Initiate.field-0-is at c.in-Some-Initiate.ensures)
    (line-opened a.answer.now a.pairs.now a.reply.now w.new.reply w.result (initiate-tell a.answer.now a.pairs.now (drop 9 a.line.now)) g.result k.0 k.1 g.ensures)

pub returns-in-Some-Part : goal.returns-in-Some-Part
returns-in-Some-Part c =
    let a = c.args in
    let g = c.part_line-stored in
    let w = c.tell-in-Some-Part in
    let k = as-stored _ g.result w.ensures.number w.ensures.bytes in
    line-by-verb a.line.now 7 (rw c.in-Some-Part.field-0-is at c.in-Some-Part.ensures)
    (line-stored a.answer.now a.pairs.now a.reply.now w.new.reply w.result (part-tell a.answer.now a.pairs.now (drop 5 a.line.now)) g.result k.0 k.1 g.ensures)

pub returns-in-Some-Commit : goal.returns-in-Some-Commit
returns-in-Some-Commit c =
    let a = c.args in
    let g = c.commit_line-done in
    let w = c.done_alone-in-Some-Commit in
    line-by-verb a.line.now 8 (rw c.in-Some-Commit.field-0-is at c.in-Some-Commit.ensures)
    (line-done a.answer.now a.pairs.now a.reply.now w.new.reply w.result g.result w.ensures.0 w.ensures.1 g.ensures)

pub returns-in-Some-Abort : goal.returns-in-Some-Abort
returns-in-Some-Abort c =
    let a = c.args in
    let g = c.abort_line-done in
    let w = c.done_alone-in-Some-Abort in
    line-by-verb a.line.now 9 (rw c.in-Some-Abort.field-0-is at c.in-Some-Abort.ensures)
    (line-done a.answer.now a.pairs.now a.reply.now w.new.reply w.result g.result w.ensures.0 w.ensures.1 g.ensures)

pub returns-in-Some-Uploads : goal.returns-in-Some-Uploads
returns-in-Some-Uploads c =
    let a = c.args in
    let g = c.uploads_line-listed in
    let w = c.tell-in-Some-Uploads in
    let k = as-listed _ g.result w.ensures.number w.ensures.bytes in
    line-by-verb a.line.now 10 (rw c.in-Some-Uploads.field-0-is at c.in-Some-Uploads.ensures)
    (line-listed a.answer.now a.pairs.now a.reply.now w.new.reply w.result (uploads-tell a.answer.now a.pairs.now (drop 8 a.line.now)) g.result g.new.answer k.0 k.1 g.auto.answer (g.ensures a.pairs.now))

pub returns-in-None : goal.returns-in-None
returns-in-None c =
    let a = c.args in
    line-none (buffers a.answer.now a.pairs.now) a.reply.now c.done.result (no-verb a.line.now c.in-None.ensures) (c.done.ensures ∙ c.refusal.ensures)
