-- `call_list::list_whole` meets its contract: refused by 7, or written. Assumes nothing.
use native.Mathlib.Omega.{arith}
use Rattle.call_list.proofs.Replies.{list-short, list_written}
use Rattle.call_list.proofs.list_whole.Goals as goal

pub returns-then-answer-counts : goal.returns-then-answer-counts
returns-then-answer-counts c =
    let a = c.args in
    let m = c.measure_rows-counts in
    list-short a.memory.tables.now a.memory.arena.now a.prefix.now a.suffix.now a.answer.now m.result.bytes m.ensures.sized c.if-answer-counts.true

pub returns : goal.returns
returns c =
    let a = c.args in
    let m = c.measure_rows-counts in
    list_written a.memory.tables.now a.memory.arena.now a.prefix.now a.suffix.now a.answer.now _ _ m.ensures.counted m.ensures.sized (let l = c.if-answer-counts.false in omega arith) c.write_rows.ensures
