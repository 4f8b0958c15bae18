-- `mem_edit::blocks::replace_block` meets its contract: what stands after the old block is moved, and the new one written. Assumes nothing.
use Prim.Native.Nat.{ℕ, ◌+◌, ◌-◌}
use mathlib.Core.Path.{◌≡◌, sym, ap, ◌∙◌}
use mathlib.Core.List.{List}
use native.Mathlib.Omega.{arith}
use lib.ListN.{length, take, drop}
use Rattle.base_number.specs.Number.{replaced_at}
use Rattle.machine.specs.Pairs.{pairs_held, pair_list}
use Rattle.machine.proofs.PairLaws.{formed-is, held-is}
use Rattle.mem_edit.specs.Blocks.{kept_of}
use Rattle.mem_edit.proofs.BlockLaws.{MoveRoom, move-room, block-replaced}
use Rattle.mem_edit.proofs.blocks.replace_block.Goals as goal

pub held-requires : goal.held-requires
held-requires c = formed-is _ c.requires.taken

pub overflow_add-size : goal.overflow_add-size
overflow_add-size c =
    let a : List ℕ = c.args.arena.now in
    let pairs : List ℕ = c.args.pairs.now in
    let content : List ℕ = c.args.content.now in
    let held-there : c.held.result ≡ pairs_held (kept_of pairs) = c.held.ensures ∙ sym (held-is (pair_list pairs) c.requires.taken) in
    let room : MoveRoom a c.args.at c.args.old c.args.held (pairs_held (kept_of pairs) + length content) = move-room a c.args.at c.args.old c.args.held pairs content c.args.lengths.now c.requires in
    let r = (room).block in omega (arith, held-there)

pub overflow_add-at-2 : goal.overflow_add-at-2
overflow_add-at-2 c =
    let a : List ℕ = c.args.arena.now in
    let pairs : List ℕ = c.args.pairs.now in
    let content : List ℕ = c.args.content.now in
    let held-there : c.held.result ≡ pairs_held (kept_of pairs) = c.held.ensures ∙ sym (held-is (pair_list pairs) c.requires.taken) in
    let room : MoveRoom a c.args.at c.args.old c.args.held (pairs_held (kept_of pairs) + length content) = move-room a c.args.at c.args.old c.args.held pairs content c.args.lengths.now c.requires in
    let r = (room).block in omega (arith, held-there)

pub copy_within-requires : goal.copy_within-requires
copy_within-requires c =
    let a : List ℕ = c.args.arena.now in
    let pairs : List ℕ = c.args.pairs.now in
    let content : List ℕ = c.args.content.now in
    let held-there : c.held.result ≡ pairs_held (kept_of pairs) = c.held.ensures ∙ sym (held-is (pair_list pairs) c.requires.taken) in
    let room : MoveRoom a c.args.at c.args.old c.args.held (pairs_held (kept_of pairs) + length content) = move-room a c.args.at c.args.old c.args.held pairs content c.args.lengths.now c.requires in
    let r = room in (r.from, omega (arith, r.to, held-there))

pub write_block-requires : goal.write_block-requires
write_block-requires c =
    let a : List ℕ = c.args.arena.now in
    let pairs : List ℕ = c.args.pairs.now in
    let content : List ℕ = c.args.content.now in
    let room : MoveRoom a c.args.at c.args.old c.args.held (pairs_held (kept_of pairs) + length content) = move-room a c.args.at c.args.old c.args.held pairs content c.args.lengths.now c.requires in
    let m = c.copy_within in
    record { taken = c.requires.taken; room = omega (arith, (room).block, m.auto.b); lengths-room = c.requires.lengths-room }

pub returns : goal.returns
returns c =
    let a : List ℕ = c.args.arena.now in
    let pairs : List ℕ = c.args.pairs.now in
    let content : List ℕ = c.args.content.now in
    let held-there : c.held.result ≡ pairs_held (kept_of pairs) = c.held.ensures ∙ sym (held-is (pair_list pairs) c.requires.taken) in
    let w = c.write_block in
    let m = c.copy_within in
    let k = c.args in
    let n = held-there in
    block-replaced (a) k.at k.old k.held (pairs) (content) k.lengths.now c.requires m.new.b w.new.arena _ w.result
    (m.ensures ∙ ap (λ (i : ℕ). replaced_at (a) (k.at + (i + length (content))) (take (k.held - (k.at + k.old)) (drop (k.at + k.old) (a))) (k.held - (k.at + k.old))) n)
    w.ensures
