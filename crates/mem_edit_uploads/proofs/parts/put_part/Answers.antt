-- `mem_edit_uploads::parts::put_part` meets its contract: row and data stand in the place of the old ones. Assumes nothing.
use native.Mathlib.Omega.{arith}
use Rattle.mem_edit.proofs.ObjectEdits.{header-inside}
use Rattle.mem_edit_uploads.proofs.PartEdits.{old-inside, Putting, putting}
use Rattle.mem_edit_uploads.proofs.parts.put_part.Goals as goal

pub old_row-old-requires : goal.old_row-old-requires
old_row-old-requires c e =
    let a = c.args in
    let p = c.requires.1 in
    old-inside a.tables.now a.arena.now (λ j. (c.slice_known-1.given j).fits) p.is_whole a.upload a.number p.upload p.is_open a.place (c.requires.0.0 p.upload p.is_open) e

pub read_header-header-requires : goal.read_header-header-requires
read_header-header-requires c = header-inside c.args.tables.now c.args.arena.now (λ j. (c.slice_known-1.given j).fits) c.requires.1.is_whole

pub splice-requires : goal.splice-requires
splice-requires c =
    let known : let a = c.args in
    Putting a.tables.now a.arena.now (λ j. (c.slice_known-1.given j).fits) a.upload a.number a.digest a.content.now c.requires.1 a.place a.end c.requires.0
    c.old_row-old.result c.old_row-old.ensures c.read_header-header.result c.read_header-header.ensures = putting _ _ _ _ _ _ _ _ _ _ _ _ _ _ _ in
    (known).room

pub overflow_cast-h : goal.overflow_cast-h
overflow_cast-h c =
    let known : let a = c.args in
    Putting a.tables.now a.arena.now (λ j. (c.slice_known-1.given j).fits) a.upload a.number a.digest a.content.now c.requires.1 a.place a.end c.requires.0
    c.old_row-old.result c.old_row-old.ensures c.read_header-header.result c.read_header-header.ensures = putting _ _ _ _ _ _ _ _ _ _ _ _ _ _ _ in
    let z = (known).small in omega arith

pub overflow_add-after : goal.overflow_add-after
overflow_add-after c =
    let known : let a = c.args in
    Putting a.tables.now a.arena.now (λ j. (c.slice_known-1.given j).fits) a.upload a.number a.digest a.content.now c.requires.1 a.place a.end c.requires.0
    c.old_row-old.result c.old_row-old.ensures c.read_header-header.result c.read_header-header.ensures = putting _ _ _ _ _ _ _ _ _ _ _ _ _ _ _ in
    let z = (known).few in omega arith

pub overflow_sub-after : goal.overflow_sub-after
overflow_sub-after c =
    let known : let a = c.args in
    Putting a.tables.now a.arena.now (λ j. (c.slice_known-1.given j).fits) a.upload a.number a.digest a.content.now c.requires.1 a.place a.end c.requires.0
    c.old_row-old.result c.old_row-old.ensures c.read_header-header.result c.read_header-header.ensures = putting _ _ _ _ _ _ _ _ _ _ _ _ _ _ _ in
    let z = (known).fewer in omega arith

pub replace_rows-requires : goal.replace_rows-requires
replace_rows-requires c =
    let known : let a = c.args in
    Putting a.tables.now a.arena.now (λ j. (c.slice_known-1.given j).fits) a.upload a.number a.digest a.content.now c.requires.1 a.place a.end c.requires.0
    c.old_row-old.result c.old_row-old.ensures c.read_header-header.result c.read_header-header.ensures = putting _ _ _ _ _ _ _ _ _ _ _ _ _ _ _ in
    (known).rows

pub returns : goal.returns
returns c =
    let known : let a = c.args in
    Putting a.tables.now a.arena.now (λ j. (c.slice_known-1.given j).fits) a.upload a.number a.digest a.content.now c.requires.1 a.place a.end c.requires.0
    c.old_row-old.result c.old_row-old.ensures c.read_header-header.result c.read_header-header.ensures = putting _ _ _ _ _ _ _ _ _ _ _ _ _ _ _ in
    (known).stands c.replace_rows.new.tables c.splice.new.b c.replace_rows.ensures c.splice.ensures c.replace_rows.auto.tables c.splice.auto.b
