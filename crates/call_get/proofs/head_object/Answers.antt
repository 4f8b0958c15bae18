-- `call_get::head_object` meets its contract: the pairs to the front of the second answer buffer, where they fit. Assumes nothing.
use mathlib.Core.List.{[]}
use native.Mathlib.Omega.{arith}
use Rattle.call_get.proofs.Stored.{pairs-inside, told}
use Rattle.call_get.proofs.Replies.{head-short, head_done}
use Rattle.call_get.proofs.head_object.Goals as goal

pub metadata-m-requires : goal.metadata-m-requires
metadata-m-requires c = (c.requires.row, pairs-inside c.args.memory.tables.now c.args.memory.arena.now c.args.at c.args.base c.requires)

pub returns-then-pairs-m : goal.returns-then-pairs-m
returns-then-pairs-m c =
    let a = c.args in
    let k = told a.memory.tables.now a.memory.arena.now a.at a.base c.requires _ c.metadata-m.ensures in
    head-short _ _ [] a.pairs.now (omega arith)

pub write_pairs-requires : goal.write_pairs-requires
write_pairs-requires c =
    let a = c.args in
    let k = told a.memory.tables.now a.memory.arena.now a.at a.base c.requires _ c.metadata-m.ensures in
    (c.requires, omega arith)

pub returns : goal.returns
returns c =
    let a = c.args in
    let k = told a.memory.tables.now a.memory.arena.now a.at a.base c.requires _ c.metadata-m.ensures in
    head_done _ _ [] a.pairs.now c.metadata-m.result k.all (omega arith) _ c.write_pairs.ensures
