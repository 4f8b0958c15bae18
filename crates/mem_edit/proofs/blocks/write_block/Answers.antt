-- `mem_edit::blocks::write_block` meets its contract: the pairs, then the content after them. Assumes nothing.
use Prim.Native.Nat.{ℕ}
use mathlib.Core.List.{List}
use native.Mathlib.Omega.{arith}
use Rattle.mem_edit.proofs.BlockLaws as laws
use Rattle.mem_edit.proofs.blocks.write_block.Goals as goal

pub count-kept-requires : goal.count-kept-requires
count-kept-requires c =
    let a : List ℕ = c.args.arena.now in
    let pairs : List ℕ = c.args.pairs.now in
    let content : List ℕ = c.args.content.now in
    let lengths : List ℕ = c.args.lengths.now in
    laws.formed (a) c.args.at (pairs) (content) (lengths) c.requires

pub held-held-requires : goal.held-held-requires
held-held-requires c =
    let a : List ℕ = c.args.arena.now in
    let pairs : List ℕ = c.args.pairs.now in
    let content : List ℕ = c.args.content.now in
    let lengths : List ℕ = c.args.lengths.now in
    laws.formed (a) c.args.at (pairs) (content) (lengths) c.requires

pub write_kept-requires : goal.write_kept-requires
write_kept-requires c =
    let a : List ℕ = c.args.arena.now in
    let pairs : List ℕ = c.args.pairs.now in
    let content : List ℕ = c.args.content.now in
    let lengths : List ℕ = c.args.lengths.now in
    let room = laws.kept-room (a) c.args.at (pairs) (content) (lengths) c.requires in
    (laws.formed (a) c.args.at (pairs) (content) (lengths) c.requires, room.0, room.1)

pub overflow_add-at : goal.overflow_add-at
overflow_add-at c =
    let a : List ℕ = c.args.arena.now in
    let pairs : List ℕ = c.args.pairs.now in
    let content : List ℕ = c.args.content.now in
    let lengths : List ℕ = c.args.lengths.now in
    let z = laws.content-room (a) c.args.at (pairs) (content) (lengths) c.requires c.held-held.result c.held-held.ensures in
    omega arith

pub copy_at-requires : goal.copy_at-requires
copy_at-requires c =
    let a : List ℕ = c.args.arena.now in
    let pairs : List ℕ = c.args.pairs.now in
    let content : List ℕ = c.args.content.now in
    let lengths : List ℕ = c.args.lengths.now in
    let z = laws.content-room (a) c.args.at (pairs) (content) (lengths) c.requires c.held-held.result c.held-held.ensures in
    omega (arith, c.write_kept.auto.lengths)

pub overflow_mul-result : goal.overflow_mul-result
overflow_mul-result c =
    let a : List ℕ = c.args.arena.now in
    let pairs : List ℕ = c.args.pairs.now in
    let content : List ℕ = c.args.content.now in
    let lengths : List ℕ = c.args.lengths.now in
    let z = laws.count-few (a) c.args.at (pairs) (content) (lengths) c.requires c.count-kept.result c.count-kept.ensures in
    omega arith

pub overflow_add-result : goal.overflow_add-result
overflow_add-result c =
    let a : List ℕ = c.args.arena.now in
    let pairs : List ℕ = c.args.pairs.now in
    let content : List ℕ = c.args.content.now in
    let lengths : List ℕ = c.args.lengths.now in
    let z = laws.content-room (a) c.args.at (pairs) (content) (lengths) c.requires c.held-held.result c.held-held.ensures in
    omega arith

pub returns : goal.returns
returns c =
    let a : List ℕ = c.args.arena.now in
    let pairs : List ℕ = c.args.pairs.now in
    let content : List ℕ = c.args.content.now in
    let lengths : List ℕ = c.args.lengths.now in
    laws.block_written (a) c.args.at (pairs) (content) (lengths) c.requires c.count-kept.result c.held-held.result _ _ _
    c.count-kept.ensures c.held-held.ensures c.write_kept.ensures.0 c.write_kept.ensures.1 c.copy_at.ensures
