-- `mem_edit_uploads::uploads::remove_upload` meets its contract: the rows of the upload and its parts are cut out, with their data. Assumes nothing.
use mathlib.Core.Path.{◌≡◌}
use native.Mathlib.Omega.{arith}
use Rattle.machine.specs.State.{without_upload}
use Rattle.mem_layout.specs.Memory.{state_of, Stands}
use Rattle.mem_find.specs.Places.{passed_parts}
use Rattle.mem_find.specs.Known.{OfOpenAt}
use Rattle.mem_find.proofs.Found.{is-some}
use Rattle.mem_find_uploads.proofs.Answers.{open-row-place}
use Rattle.mem_edit.proofs.ObjectEdits.{header-inside}
use Rattle.mem_edit_uploads.proofs.UploadEdits.{removal, removal-at}
use Rattle.mem_edit_uploads.proofs.uploads.remove_upload.Goals as goal

pub pass_parts-parts-requires : goal.pass_parts-parts-requires
pass_parts-parts-requires c =
    let o = c.requires.0.1 in
    rw (c.of.ensures.tables, c.of.ensures.arena) (open-row-place (state_of c.args.tables.now c.args.arena.now) o.0 c.args.here o.1 o.2)

pub read_header-header-requires : goal.read_header-header-requires
read_header-header-requires c = header-inside c.args.tables.now c.args.arena.now (λ j. (c.slice_known-1.given j).fits) c.requires.0.0

pub overflow_sub-rows : goal.overflow_sub-rows
overflow_sub-rows c =
    let a = c.args in
    let told : OfOpenAt a.tables.now a.arena.now a.here (λ s u x. c.pass_parts-parts.result ≡ passed_parts s u x) = rw (c.of.ensures.tables, c.of.ensures.arena) at c.pass_parts-parts.ensures in
    let k = removal-at a.tables.now a.arena.now (λ j. (c.slice_known-1.given j).fits) a.here c.requires.0 a.end c.requires.1 c.read_header-header.result c.read_header-header.ensures c.pass_parts-parts.result told in
    omega (arith, k.some-rows)

pub overflow_sub-n : goal.overflow_sub-n
overflow_sub-n c =
    let a = c.args in
    let told : OfOpenAt a.tables.now a.arena.now a.here (λ s u x. c.pass_parts-parts.result ≡ passed_parts s u x) = rw (c.of.ensures.tables, c.of.ensures.arena) at c.pass_parts-parts.ensures in
    let k = removal-at a.tables.now a.arena.now (λ j. (c.slice_known-1.given j).fits) a.here c.requires.0 a.end c.requires.1 c.read_header-header.result c.read_header-header.ensures c.pass_parts-parts.result told in
    omega (arith, k.span)

pub overflow_sub-m : goal.overflow_sub-m
overflow_sub-m c =
    let a = c.args in
    let told : OfOpenAt a.tables.now a.arena.now a.here (λ s u x. c.pass_parts-parts.result ≡ passed_parts s u x) = rw (c.of.ensures.tables, c.of.ensures.arena) at c.pass_parts-parts.ensures in
    let k = removal-at a.tables.now a.arena.now (λ j. (c.slice_known-1.given j).fits) a.here c.requires.0 a.end c.requires.1 c.read_header-header.result c.read_header-header.ensures c.pass_parts-parts.result told in
    omega (arith, k.size)

pub overflow_sub-after : goal.overflow_sub-after
overflow_sub-after c =
    let a = c.args in
    let told : OfOpenAt a.tables.now a.arena.now a.here (λ s u x. c.pass_parts-parts.result ≡ passed_parts s u x) = rw (c.of.ensures.tables, c.of.ensures.arena) at c.pass_parts-parts.ensures in
    let k = removal-at a.tables.now a.arena.now (λ j. (c.slice_known-1.given j).fits) a.here c.requires.0 a.end c.requires.1 c.read_header-header.result c.read_header-header.ensures c.pass_parts-parts.result told in
    omega (arith, k.uploads)

pub overflow_cast-after : goal.overflow_cast-after
overflow_cast-after c =
    let a = c.args in
    let told : OfOpenAt a.tables.now a.arena.now a.here (λ s u x. c.pass_parts-parts.result ≡ passed_parts s u x) = rw (c.of.ensures.tables, c.of.ensures.arena) at c.pass_parts-parts.ensures in
    let k = removal-at a.tables.now a.arena.now (λ j. (c.slice_known-1.given j).fits) a.here c.requires.0 a.end c.requires.1 c.read_header-header.result c.read_header-header.ensures c.pass_parts-parts.result told in
    omega (arith, k.count, k.few)

pub overflow_sub-after-2 : goal.overflow_sub-after-2
overflow_sub-after-2 c =
    let a = c.args in
    let told : OfOpenAt a.tables.now a.arena.now a.here (λ s u x. c.pass_parts-parts.result ≡ passed_parts s u x) = rw (c.of.ensures.tables, c.of.ensures.arena) at c.pass_parts-parts.ensures in
    let k = removal-at a.tables.now a.arena.now (λ j. (c.slice_known-1.given j).fits) a.here c.requires.0 a.end c.requires.1 c.read_header-header.result c.read_header-header.ensures c.pass_parts-parts.result told in
    omega (arith, k.count)

pub remove_rows-requires : goal.remove_rows-requires
remove_rows-requires c =
    let a = c.args in
    let told : OfOpenAt a.tables.now a.arena.now a.here (λ s u x. c.pass_parts-parts.result ≡ passed_parts s u x) = rw (c.of.ensures.tables, c.of.ensures.arena) at c.pass_parts-parts.ensures in
    let k = removal-at a.tables.now a.arena.now (λ j. (c.slice_known-1.given j).fits) a.here c.requires.0 a.end c.requires.1 c.read_header-header.result c.read_header-header.ensures c.pass_parts-parts.result told in
    k.rows

pub remove-requires : goal.remove-requires
remove-requires c =
    let a = c.args in
    let told : OfOpenAt a.tables.now a.arena.now a.here (λ s u x. c.pass_parts-parts.result ≡ passed_parts s u x) = rw (c.of.ensures.tables, c.of.ensures.arena) at c.pass_parts-parts.ensures in
    let k = removal-at a.tables.now a.arena.now (λ j. (c.slice_known-1.given j).fits) a.here c.requires.0 a.end c.requires.1 c.read_header-header.result c.read_header-header.ensures c.pass_parts-parts.result told in
    k.content

pub overflow_sub-result : goal.overflow_sub-result
overflow_sub-result c =
    let a = c.args in
    let told : OfOpenAt a.tables.now a.arena.now a.here (λ s u x. c.pass_parts-parts.result ≡ passed_parts s u x) = rw (c.of.ensures.tables, c.of.ensures.arena) at c.pass_parts-parts.ensures in
    let k = removal-at a.tables.now a.arena.now (λ j. (c.slice_known-1.given j).fits) a.here c.requires.0 a.end c.requires.1 c.read_header-header.result c.read_header-header.ensures c.pass_parts-parts.result told in
    omega (arith, k.within)

pub overflow_sub-result-2 : goal.overflow_sub-result-2
overflow_sub-result-2 c =
    let a = c.args in
    let told : OfOpenAt a.tables.now a.arena.now a.here (λ s u x. c.pass_parts-parts.result ≡ passed_parts s u x) = rw (c.of.ensures.tables, c.of.ensures.arena) at c.pass_parts-parts.ensures in
    let k = removal-at a.tables.now a.arena.now (λ j. (c.slice_known-1.given j).fits) a.here c.requires.0 a.end c.requires.1 c.read_header-header.result c.read_header-header.ensures c.pass_parts-parts.result told in
    omega (arith, k.rows)

pub overflow_sub-result-3 : goal.overflow_sub-result-3
overflow_sub-result-3 c =
    let a = c.args in
    let told : OfOpenAt a.tables.now a.arena.now a.here (λ s u x. c.pass_parts-parts.result ≡ passed_parts s u x) = rw (c.of.ensures.tables, c.of.ensures.arena) at c.pass_parts-parts.ensures in
    let k = removal-at a.tables.now a.arena.now (λ j. (c.slice_known-1.given j).fits) a.here c.requires.0 a.end c.requires.1 c.read_header-header.result c.read_header-header.ensures c.pass_parts-parts.result told in
    omega (arith, k.content)

pub returns : goal.returns
returns c =
    let a = c.args in
    let told : OfOpenAt a.tables.now a.arena.now a.here (λ s u x. c.pass_parts-parts.result ≡ passed_parts s u x) = rw (c.of.ensures.tables, c.of.ensures.arena) at c.pass_parts-parts.ensures in
    let k = removal-at a.tables.now a.arena.now (λ j. (c.slice_known-1.given j).fits) a.here c.requires.0 a.end c.requires.1 c.read_header-header.result c.read_header-header.ensures c.pass_parts-parts.result told in
    let t' = c.remove_rows.new.tables in
    let a' = c.remove.new.b in
    let stood : OfOpenAt a.tables.now a.arena.now a.here (λ s u x. Stands t' a' (without_upload s u)) =
    λ u x e f.
    (removal a.tables.now a.arena.now (λ j. (c.slice_known-1.given j).fits) c.requires.0.0 a.end c.requires.1 c.read_header-header.result c.read_header-header.ensures u x f a.here e c.pass_parts-parts.result (told u x e f)).stands
    t' a' c.remove_rows.ensures c.remove.ensures c.remove_rows.auto.tables c.remove.auto.b in
    let o = c.requires.0.1 in
    let x = is-some _ o.2 in
    (stood, k.ends t' a' (stood o.0 x.0 o.1 x.1))
