-- `mem_edit::objects::move_object` meets its contract: the block is turned into place, the old one cut out, and the row put. Assumes nothing.
use Prim.Native.Nat.{ℕ}
use mathlib.Core.Path.{◌≡◌, ◌∙◌}
use mathlib.Core.List.{List}
use native.Mathlib.Omega.{arith}
use lib.ListN.{length}
use Rattle.base_number.specs.Number.{AreBytes}
use Rattle.mem_layout.specs.Memory.{state_of}
use Rattle.mem_edit.specs.Objects.{Movable}
use Rattle.mem_edit.proofs.OldRows.{sizes_of}
use Rattle.mem_edit.proofs.Changes.{old_rows}
use Rattle.mem_edit.proofs.ObjectPuts as put
use Rattle.mem_edit.proofs.objects.move_object.Goals as goal

pub old_row-old-requires : goal.old_row-old-requires
old_row-old-requires c e = put.old-inside c.args.tables.now c.args.arena.now (λ j. (c.slice_known-1.given j).fits) c.requires.1.is_whole c.args.path.now c.args.place c.requires.0.0 e

pub overflow_sub-held : goal.overflow_sub-held
overflow_sub-held c =
    let t : List ℕ = c.args.tables.now in
    let a : List ℕ = c.args.arena.now in
    let path : List ℕ = c.args.path.now in
    let lengths : List ℕ = c.args.lengths.now in
    let size : ℕ = c.args.size in
    let pre : Movable t a c.args.stamp c.args.kind c.args.count c.args.digest path lengths size = c.requires.1 in
    let known : AreBytes t = λ j. (c.slice_known-1.given j).fits in
    let old-is : c.old_row-old.result ≡ sizes_of (old_rows (state_of t a) path) = c.old_row-old.ensures ∙ put.old_row t a known pre.is_whole path c.args.place c.requires.0.0 in
    let puts : put.Putting t a path c.args.place c.args.end c.old_row-old.result c.args.stamp c.args.kind c.args.count c.args.digest
    (put.moved_content t a lengths size) (put.moved_pairs t a lengths size) = put.putting t a known pre.is_whole path c.args.place c.args.end c.requires.0 c.args.stamp c.args.kind c.args.count c.args.digest _ _
    pre.kind-most pre.count_most pre.valid c.old_row-old.result old-is in
    let r = (puts).block_room in omega arith

pub rotate-requires : goal.rotate-requires
rotate-requires c =
    let t : List ℕ = c.args.tables.now in
    let a : List ℕ = c.args.arena.now in
    let path : List ℕ = c.args.path.now in
    let lengths : List ℕ = c.args.lengths.now in
    let size : ℕ = c.args.size in
    let pre : Movable t a c.args.stamp c.args.kind c.args.count c.args.digest path lengths size = c.requires.1 in
    let known : AreBytes t = λ j. (c.slice_known-1.given j).fits in
    let old-is : c.old_row-old.result ≡ sizes_of (old_rows (state_of t a) path) = c.old_row-old.ensures ∙ put.old_row t a known pre.is_whole path c.args.place c.requires.0.0 in
    let block : put.HeldBlock t a lengths size c.args.end = put.held-block t a lengths size c.args.end c.requires.0.1 pre.room pre.stored in
    let puts : put.Putting t a path c.args.place c.args.end c.old_row-old.result c.args.stamp c.args.kind c.args.count c.args.digest
    (put.moved_content t a lengths size) (put.moved_pairs t a lengths size) = put.putting t a known pre.is_whole path c.args.place c.args.end c.requires.0 c.args.stamp c.args.kind c.args.count c.args.digest _ _
    pre.kind-most pre.count_most pre.valid c.old_row-old.result old-is in
    let r = (puts).block_room in omega (arith, (block).inside)

pub overflow_add-base : goal.overflow_add-base
overflow_add-base c =
    let t : List ℕ = c.args.tables.now in
    let a : List ℕ = c.args.arena.now in
    let path : List ℕ = c.args.path.now in
    let lengths : List ℕ = c.args.lengths.now in
    let size : ℕ = c.args.size in
    let pre : Movable t a c.args.stamp c.args.kind c.args.count c.args.digest path lengths size = c.requires.1 in
    let known : AreBytes t = λ j. (c.slice_known-1.given j).fits in
    let old-is : c.old_row-old.result ≡ sizes_of (old_rows (state_of t a) path) = c.old_row-old.ensures ∙ put.old_row t a known pre.is_whole path c.args.place c.requires.0.0 in
    let block : put.HeldBlock t a lengths size c.args.end = put.held-block t a lengths size c.args.end c.requires.0.1 pre.room pre.stored in
    let puts : put.Putting t a path c.args.place c.args.end c.old_row-old.result c.args.stamp c.args.kind c.args.count c.args.digest
    (put.moved_content t a lengths size) (put.moved_pairs t a lengths size) = put.putting t a known pre.is_whole path c.args.place c.args.end c.requires.0 c.args.stamp c.args.kind c.args.count c.args.digest _ _
    pre.kind-most pre.count_most pre.valid c.old_row-old.result old-is in
    let r = (puts).block_room in omega (arith, (block).inside)

pub overflow_add-held : goal.overflow_add-held
overflow_add-held c =
    let t : List ℕ = c.args.tables.now in
    let a : List ℕ = c.args.arena.now in
    let path : List ℕ = c.args.path.now in
    let lengths : List ℕ = c.args.lengths.now in
    let size : ℕ = c.args.size in
    let pre : Movable t a c.args.stamp c.args.kind c.args.count c.args.digest path lengths size = c.requires.1 in
    let known : AreBytes t = λ j. (c.slice_known-1.given j).fits in
    let old-is : c.old_row-old.result ≡ sizes_of (old_rows (state_of t a) path) = c.old_row-old.ensures ∙ put.old_row t a known pre.is_whole path c.args.place c.requires.0.0 in
    let block : put.HeldBlock t a lengths size c.args.end = put.held-block t a lengths size c.args.end c.requires.0.1 pre.room pre.stored in
    let puts : put.Putting t a path c.args.place c.args.end c.old_row-old.result c.args.stamp c.args.kind c.args.count c.args.digest
    (put.moved_content t a lengths size) (put.moved_pairs t a lengths size) = put.putting t a known pre.is_whole path c.args.place c.args.end c.requires.0 c.args.stamp c.args.kind c.args.count c.args.digest _ _
    pre.kind-most pre.count_most pre.valid c.old_row-old.result old-is in
    let r = (puts).block_room in omega (arith, (block).inside)

pub remove-requires : goal.remove-requires
remove-requires c =
    let t : List ℕ = c.args.tables.now in
    let a : List ℕ = c.args.arena.now in
    let path : List ℕ = c.args.path.now in
    let lengths : List ℕ = c.args.lengths.now in
    let size : ℕ = c.args.size in
    let pre : Movable t a c.args.stamp c.args.kind c.args.count c.args.digest path lengths size = c.requires.1 in
    let known : AreBytes t = λ j. (c.slice_known-1.given j).fits in
    let old-is : c.old_row-old.result ≡ sizes_of (old_rows (state_of t a) path) = c.old_row-old.ensures ∙ put.old_row t a known pre.is_whole path c.args.place c.requires.0.0 in
    let block : put.HeldBlock t a lengths size c.args.end = put.held-block t a lengths size c.args.end c.requires.0.1 pre.room pre.stored in
    let puts : put.Putting t a path c.args.place c.args.end c.old_row-old.result c.args.stamp c.args.kind c.args.count c.args.digest
    (put.moved_content t a lengths size) (put.moved_pairs t a lengths size) = put.putting t a known pre.is_whole path c.args.place c.args.end c.requires.0 c.args.stamp c.args.kind c.args.count c.args.digest _ _
    pre.kind-most pre.count_most pre.valid c.old_row-old.result old-is in
    let r = (puts).block_room in
    (omega arith, omega (arith, (block).inside, c.rotate.auto))

pub put_row-requires : goal.put_row-requires
put_row-requires c =
    let t : List ℕ = c.args.tables.now in
    let a : List ℕ = c.args.arena.now in
    let path : List ℕ = c.args.path.now in
    let lengths : List ℕ = c.args.lengths.now in
    let size : ℕ = c.args.size in
    let pre : Movable t a c.args.stamp c.args.kind c.args.count c.args.digest path lengths size = c.requires.1 in
    let known : AreBytes t = λ j. (c.slice_known-1.given j).fits in
    let old-is : c.old_row-old.result ≡ sizes_of (old_rows (state_of t a) path) = c.old_row-old.ensures ∙ put.old_row t a known pre.is_whole path c.args.place c.requires.0.0 in
    let block : put.HeldBlock t a lengths size c.args.end = put.held-block t a lengths size c.args.end c.requires.0.1 pre.room pre.stored in
    let puts : put.Putting t a path c.args.place c.args.end c.old_row-old.result c.args.stamp c.args.kind c.args.count c.args.digest
    (put.moved_content t a lengths size) (put.moved_pairs t a lengths size) = put.putting t a known pre.is_whole path c.args.place c.args.end c.requires.0 c.args.stamp c.args.kind c.args.count c.args.digest _ _
    pre.kind-most pre.count_most pre.valid c.old_row-old.result old-is in
    (puts).row_room (lengths) (size) (block).lengths-are (block).size_is

pub returns : goal.returns
returns c =
    let t : List ℕ = c.args.tables.now in
    let a : List ℕ = c.args.arena.now in
    let path : List ℕ = c.args.path.now in
    let lengths : List ℕ = c.args.lengths.now in
    let size : ℕ = c.args.size in
    let pre : Movable t a c.args.stamp c.args.kind c.args.count c.args.digest path lengths size = c.requires.1 in
    let known : AreBytes t = λ j. (c.slice_known-1.given j).fits in
    let old-is : c.old_row-old.result ≡ sizes_of (old_rows (state_of t a) path) = c.old_row-old.ensures ∙ put.old_row t a known pre.is_whole path c.args.place c.requires.0.0 in
    let block : put.HeldBlock t a lengths size c.args.end = put.held-block t a lengths size c.args.end c.requires.0.1 pre.room pre.stored in
    let puts : put.Putting t a path c.args.place c.args.end c.old_row-old.result c.args.stamp c.args.kind c.args.count c.args.digest
    (put.moved_content t a lengths size) (put.moved_pairs t a lengths size) = put.putting t a known pre.is_whole path c.args.place c.args.end c.requires.0 c.args.stamp c.args.kind c.args.count c.args.digest _ _
    pre.kind-most pre.count_most pre.valid c.old_row-old.result old-is in
    let row = c.put_row in
    let cut = c.remove in
    let turned = c.rotate in
    let k : length cut.new.b ≡ length (a) = omega (arith, cut.auto, turned.auto) in
    (puts).moved (lengths) (size) (block).lengths-are (block).size_is row.new.tables turned.new.b cut.new.b row.ensures (block).block-is turned.ensures cut.ensures row.auto.tables k
