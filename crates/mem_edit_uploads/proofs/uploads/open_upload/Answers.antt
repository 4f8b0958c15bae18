-- `mem_edit_uploads::uploads::open_upload` meets its contract: the block goes after the last byte held, and its row after all rows. Assumes nothing.
use Prim.Native.Nat.{ℕ}
use mathlib.Core.Path.{◌≡◌, sym}
use mathlib.Core.List.{List}
use native.Mathlib.Omega.{arith}
use lib.ListN.{length, take}
use lib.Seq.{length-take-le}
use Rattle.base_number.specs.Number.{AreBytes}
use Rattle.mem_edit.specs.Blocks.{kept_of}
use Rattle.mem_edit.proofs.ObjectEdits.{header-inside}
use Rattle.mem_edit_uploads.proofs.UploadEdits.{Opening, opening, Opened, after_block}
use Rattle.mem_edit_uploads.proofs.uploads.open_upload.Goals as goal

pub read_header-header-requires : goal.read_header-header-requires
read_header-header-requires c =
    let a = c.args in
    header-inside a.tables.now a.arena.now (λ j. (c.slice_known-1.given j).fits) c.requires.2.0

pub write_block-block-requires : goal.write_block-block-requires
write_block-block-requires c =
    let bytes : AreBytes c.args.tables.now = λ j. (c.slice_known-1.given j).fits in
    let begun : Opening c.args.tables.now c.args.arena.now bytes c.requires.2.0 c.args.end c.requires.1 c.read_header-header.result c.read_header-header.ensures
    c.args.stamp c.args.path.now (kept_of c.args.pairs.now) c.requires.2.1 = opening _ _ _ _ _ _ _ _ _ _ _ _ in
    record { taken = c.requires.0; room = (begun).room; lengths-room = omega arith }

pub overflow_cast-h : goal.overflow_cast-h
overflow_cast-h c =
    let bytes : AreBytes c.args.tables.now = λ j. (c.slice_known-1.given j).fits in
    let n : ℕ = c.write_block-block.result.lengths in
    let lengths : List ℕ = take n c.write_block-block.new.lengths in
    let lengths-length : length lengths ≡ n = let z = c.write_block-block.ensures.few in length-take-le n c.write_block-block.new.lengths (omega (arith, c.write_block-block.auto.lengths)) in
    let done : Opened c.args.tables.now c.args.arena.now (bytes) c.requires.2.0 c.args.end c.requires.1 c.read_header-header.result c.read_header-header.ensures
    c.args.stamp c.args.path.now (kept_of c.args.pairs.now) c.requires.2.1
    c.write_block-block.new.arena n c.write_block-block.result.bytes c.write_block-block.ensures.bytes c.write_block-block.ensures.block c.write_block-block.auto.arena lengths lengths-length c.write_block-block.ensures.lengths = after_block _ _ _ _ _ _ _ _ _ _ _ _ _ _ _ _ _ _ _ _ _ in
    let z = (done).small in omega arith

pub overflow_cast-h-2 : goal.overflow_cast-h-2
overflow_cast-h-2 c =
    let bytes : AreBytes c.args.tables.now = λ j. (c.slice_known-1.given j).fits in
    let begun : Opening c.args.tables.now c.args.arena.now bytes c.requires.2.0 c.args.end c.requires.1 c.read_header-header.result c.read_header-header.ensures
    c.args.stamp c.args.path.now (kept_of c.args.pairs.now) c.requires.2.1 = opening _ _ _ _ _ _ _ _ _ _ _ _ in
    let z = (begun).number in omega arith

pub overflow_cast-h-4 : goal.overflow_cast-h-4
overflow_cast-h-4 c =
    let bytes : AreBytes c.args.tables.now = λ j. (c.slice_known-1.given j).fits in
    let begun : Opening c.args.tables.now c.args.arena.now bytes c.requires.2.0 c.args.end c.requires.1 c.read_header-header.result c.read_header-header.ensures
    c.args.stamp c.args.path.now (kept_of c.args.pairs.now) c.requires.2.1 = opening _ _ _ _ _ _ _ _ _ _ _ _ in
    let z = (begun).path in omega arith

pub overflow_add-after : goal.overflow_add-after
overflow_add-after c =
    let bytes : AreBytes c.args.tables.now = λ j. (c.slice_known-1.given j).fits in
    let begun : Opening c.args.tables.now c.args.arena.now bytes c.requires.2.0 c.args.end c.requires.1 c.read_header-header.result c.read_header-header.ensures
    c.args.stamp c.args.path.now (kept_of c.args.pairs.now) c.requires.2.1 = opening _ _ _ _ _ _ _ _ _ _ _ _ in
    let z = (begun).number in omega arith

pub overflow_add-after-2 : goal.overflow_add-after-2
overflow_add-after-2 c =
    let bytes : AreBytes c.args.tables.now = λ j. (c.slice_known-1.given j).fits in
    let begun : Opening c.args.tables.now c.args.arena.now bytes c.requires.2.0 c.args.end c.requires.1 c.read_header-header.result c.read_header-header.ensures
    c.args.stamp c.args.path.now (kept_of c.args.pairs.now) c.requires.2.1 = opening _ _ _ _ _ _ _ _ _ _ _ _ in
    let z = (begun).count in omega arith

pub slice_bounds-replace_rows-end : goal.slice_bounds-replace_rows-end
slice_bounds-replace_rows-end c =
    let n : ℕ = c.write_block-block.result.lengths in
    let lengths : List ℕ = take n c.write_block-block.new.lengths in
    let lengths-length : length lengths ≡ n = let z = c.write_block-block.ensures.few in length-take-le n c.write_block-block.new.lengths (omega (arith, c.write_block-block.auto.lengths)) in
    sym (lengths-length)

pub replace_rows-requires : goal.replace_rows-requires
replace_rows-requires c =
    let bytes : AreBytes c.args.tables.now = λ j. (c.slice_known-1.given j).fits in
    let n : ℕ = c.write_block-block.result.lengths in
    let lengths : List ℕ = take n c.write_block-block.new.lengths in
    let lengths-length : length lengths ≡ n = let z = c.write_block-block.ensures.few in length-take-le n c.write_block-block.new.lengths (omega (arith, c.write_block-block.auto.lengths)) in
    let done : Opened c.args.tables.now c.args.arena.now (bytes) c.requires.2.0 c.args.end c.requires.1 c.read_header-header.result c.read_header-header.ensures
    c.args.stamp c.args.path.now (kept_of c.args.pairs.now) c.requires.2.1
    c.write_block-block.new.arena n c.write_block-block.result.bytes c.write_block-block.ensures.bytes c.write_block-block.ensures.block c.write_block-block.auto.arena lengths lengths-length c.write_block-block.ensures.lengths = after_block _ _ _ _ _ _ _ _ _ _ _ _ _ _ _ _ _ _ _ _ _ in
    (done).room

pub returns : goal.returns
returns c =
    let bytes : AreBytes c.args.tables.now = λ j. (c.slice_known-1.given j).fits in
    let n : ℕ = c.write_block-block.result.lengths in
    let lengths : List ℕ = take n c.write_block-block.new.lengths in
    let lengths-length : length lengths ≡ n = let z = c.write_block-block.ensures.few in length-take-le n c.write_block-block.new.lengths (omega (arith, c.write_block-block.auto.lengths)) in
    let done : Opened c.args.tables.now c.args.arena.now (bytes) c.requires.2.0 c.args.end c.requires.1 c.read_header-header.result c.read_header-header.ensures
    c.args.stamp c.args.path.now (kept_of c.args.pairs.now) c.requires.2.1
    c.write_block-block.new.arena n c.write_block-block.result.bytes c.write_block-block.ensures.bytes c.write_block-block.ensures.block c.write_block-block.auto.arena lengths lengths-length c.write_block-block.ensures.lengths = after_block _ _ _ _ _ _ _ _ _ _ _ _ _ _ _ _ _ _ _ _ _ in
    (done).stands c.replace_rows.new.tables c.replace_rows.ensures c.replace_rows.auto.tables
