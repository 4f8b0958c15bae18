-- `mem_edit::objects::put_object` meets its contract: row and block stand in the place of the old ones. Assumes nothing.
use Prim.Native.Nat.{ℕ}
use mathlib.Core.Path.{◌≡◌, sym, ◌∙◌}
use mathlib.Core.List.{List}
use native.Mathlib.Omega.{arith}
use lib.ListN.{take}
use lib.Seq.{length-take-le}
use Rattle.base_number.specs.Number.{AreBytes}
use Rattle.mem_layout.specs.Memory.{state_of}
use Rattle.mem_edit.specs.Blocks.{kept_of}
use Rattle.mem_edit.proofs.OldRows.{sizes_of}
use Rattle.mem_edit.proofs.Changes.{old_rows}
use Rattle.mem_edit.proofs.ObjectPuts as put
use Rattle.mem_edit.proofs.objects.put_object.Goals as goal

pub old_row-old-requires : goal.old_row-old-requires
old_row-old-requires c e = put.old-inside c.args.tables.now c.args.arena.now (λ j. (c.slice_known-1.given j).fits) c.requires.2.0 c.args.path.now c.args.place c.requires.0.0 e

pub replace_block-block-requires : goal.replace_block-block-requires
replace_block-block-requires c =
    let t : List ℕ = c.args.tables.now in
    let a : List ℕ = c.args.arena.now in
    let path : List ℕ = c.args.path.now in
    let content : List ℕ = c.args.content.now in
    let pairs : List ℕ = c.args.pairs.now in
    let known : AreBytes t = λ j. (c.slice_known-1.given j).fits in
    let old-is : c.old_row-old.result ≡ sizes_of (old_rows (state_of t a) path) = c.old_row-old.ensures ∙ put.old_row t a known c.requires.2.0 path c.args.place c.requires.0.0 in
    let puts : put.Putting t a path c.args.place c.args.end c.old_row-old.result c.args.stamp 0 0 c.args.digest content (kept_of pairs) = put.putting t a known c.requires.2.0 path c.args.place c.args.end c.requires.0 c.args.stamp 0 0 c.args.digest content (kept_of pairs)
    (omega arith) (omega arith) c.requires.2.1 c.old_row-old.result old-is in
    let r = (puts).block_room in
    record { taken = c.requires.1; within = r.0; inside = r.1; room = r.2; lengths-room = omega arith }

pub slice_bounds-put_row-end : goal.slice_bounds-put_row-end
slice_bounds-put_row-end c =
    let b = c.replace_block-block in
    let f = b.ensures.few in
    sym (length-take-le b.result.lengths b.new.lengths (omega (arith, b.auto.lengths)))

pub put_row-requires : goal.put_row-requires
put_row-requires c =
    let t : List ℕ = c.args.tables.now in
    let a : List ℕ = c.args.arena.now in
    let path : List ℕ = c.args.path.now in
    let content : List ℕ = c.args.content.now in
    let pairs : List ℕ = c.args.pairs.now in
    let known : AreBytes t = λ j. (c.slice_known-1.given j).fits in
    let old-is : c.old_row-old.result ≡ sizes_of (old_rows (state_of t a) path) = c.old_row-old.ensures ∙ put.old_row t a known c.requires.2.0 path c.args.place c.requires.0.0 in
    let puts : put.Putting t a path c.args.place c.args.end c.old_row-old.result c.args.stamp 0 0 c.args.digest content (kept_of pairs) = put.putting t a known c.requires.2.0 path c.args.place c.args.end c.requires.0 c.args.stamp 0 0 c.args.digest content (kept_of pairs)
    (omega arith) (omega arith) c.requires.2.1 c.old_row-old.result old-is in
    let lengths : List ℕ = take c.replace_block-block.result.lengths c.replace_block-block.new.lengths in
    (puts).row_room (lengths) c.replace_block-block.result.bytes c.replace_block-block.ensures.lengths c.replace_block-block.ensures.bytes

pub returns : goal.returns
returns c =
    let t : List ℕ = c.args.tables.now in
    let a : List ℕ = c.args.arena.now in
    let path : List ℕ = c.args.path.now in
    let content : List ℕ = c.args.content.now in
    let pairs : List ℕ = c.args.pairs.now in
    let known : AreBytes t = λ j. (c.slice_known-1.given j).fits in
    let old-is : c.old_row-old.result ≡ sizes_of (old_rows (state_of t a) path) = c.old_row-old.ensures ∙ put.old_row t a known c.requires.2.0 path c.args.place c.requires.0.0 in
    let puts : put.Putting t a path c.args.place c.args.end c.old_row-old.result c.args.stamp 0 0 c.args.digest content (kept_of pairs) = put.putting t a known c.requires.2.0 path c.args.place c.args.end c.requires.0 c.args.stamp 0 0 c.args.digest content (kept_of pairs)
    (omega arith) (omega arith) c.requires.2.1 c.old_row-old.result old-is in
    let lengths : List ℕ = take c.replace_block-block.result.lengths c.replace_block-block.new.lengths in
    let row = c.put_row in
    let b = c.replace_block-block in
    (puts).stands (lengths) b.result.bytes b.ensures.lengths b.ensures.bytes row.new.tables b.new.arena row.ensures b.ensures.block row.auto.tables b.auto.arena
