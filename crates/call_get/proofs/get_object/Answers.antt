-- `call_get::get_object` meets its contract: data and pairs to the front of the answer buffers, where both fit. Assumes nothing.
use mathlib.Core.Path.{refl}
use native.Mathlib.Omega.{arith}
use Rattle.call_get.proofs.Stored.{pairs-inside, told, pairs_end, data-end, data-written}
use Rattle.call_get.proofs.Replies.{get-short, get-done}
use Rattle.call_get.proofs.get_object.Goals as goal
use Rattle.call_get.proofs.get_object.Goals.{then-answer-n-via-then-answer-n, then-answer-n-via-else-answer-n+then-pairs-bytes}

pub metadata-m-requires : goal.metadata-m-requires
metadata-m-requires c = (c.requires.row, pairs-inside c.args.memory.tables.now c.args.memory.arena.now c.args.at c.args.base c.requires)

pub returns-then-answer-n : goal.returns-then-answer-n
returns-then-answer-n c =
    let a = c.args in
    let k = told a.memory.tables.now a.memory.arena.now a.at a.base c.requires _ c.metadata-m.ensures in
    get-short _ _ a.answer.now a.pairs.now
    (λ h l. elim c.then-answer-n.branch [
      | then-answer-n-via-then-answer-n w ↦ omega arith
      | then-answer-n-via-else-answer-n+then-pairs-bytes w ↦ omega arith
    ])

pub overflow_add-from : goal.overflow_add-from
overflow_add-from c = let a = c.args in omega (arith, pairs_end a.memory.tables.now a.memory.arena.now a.at a.base c.requires _ refl _ c.pairs_size.ensures)

pub overflow_add-from-2 : goal.overflow_add-from-2
overflow_add-from-2 c =
    let a = c.args in
    let k = told a.memory.tables.now a.memory.arena.now a.at a.base c.requires _ c.metadata-m.ensures in
    omega (arith, data-end a.memory.tables.now a.memory.arena.now a.at a.base c.requires _ refl _ c.pairs_size.ensures)

pub slice_bounds-copy_at-end : goal.slice_bounds-copy_at-end
slice_bounds-copy_at-end c =
    let a = c.args in
    let k = told a.memory.tables.now a.memory.arena.now a.at a.base c.requires _ c.metadata-m.ensures in
    omega (arith, data-end a.memory.tables.now a.memory.arena.now a.at a.base c.requires _ refl _ c.pairs_size.ensures)

pub write_pairs-requires : goal.write_pairs-requires
write_pairs-requires c =
    let a = c.args in
    let k = told a.memory.tables.now a.memory.arena.now a.at a.base c.requires _ c.metadata-m.ensures in
    (c.requires, omega arith)

pub returns : goal.returns
returns c =
    let a = c.args in
    let k = told a.memory.tables.now a.memory.arena.now a.at a.base c.requires _ c.metadata-m.ensures in
    let n = c.pairs_size in
    get-done _ _ a.answer.now a.pairs.now c.metadata-m.result k.all (omega arith) _ c.write_pairs.ensures (omega arith) _
    (data-written a.memory.tables.now a.memory.arena.now a.at a.base c.requires _ refl n.result n.ensures c.metadata-m.result.length k.size a.answer.now _ c.copy_at.ensures)
