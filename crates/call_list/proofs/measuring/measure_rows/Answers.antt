-- `call_list::measuring::measure_rows` meets its contract. The invariant: the records and bytes of the objects passed. Assumes nothing.
use mathlib.Core.Path.{refl, sym, ap, ◌∙◌}
use native.Mathlib.Omega.{arith}
use lib.ListN.{length}
use Rattle.mem_row.specs.declared.Head.{Head}
use Rattle.mem_row.specs.Row.{span}
use Rattle.mem_layout.specs.Memory.{state_of}
use Rattle.mem_layout.proofs.WholeLaws.{whole-stands}
use Rattle.call_list.proofs.Places.{no_place, placed}
use Rattle.call_list.proofs.ObjectRows.{walked_none, row-here, walked-listed, walked-passed}
use Rattle.call_list.proofs.measuring.measure_rows.Goals as goal
use Rattle.call_list.proofs.measuring.measure_rows.Goals.{then-has_row, else-has_row}

pub loop-i-init : goal.loop-i-init
loop-i-init c =
    let s = state_of c.args.memory.tables.now c.args.memory.arena.now in
    (walked_none s c.args.prefix.now c.args.suffix.now, no_place s c.args.prefix.now c.args.suffix.now c.args.places.now, refl)

pub read_head-h-requires : goal.read_head-h-requires
read_head-h-requires c =
    let a = c.args in
    let l = c.loop-i in
    let r = row-here a.memory.tables.now a.memory.arena.now c.args.memory.bytes c.args.memory.is_whole _ _ _ _ _ _ l.invariant.0 _ c.counts-objects.ensures.objects c.loop-i-test.true in
    omega arith

pub has_row-requires : goal.has_row-requires
has_row-requires c =
    let a = c.args in
    let l = c.loop-i in
    let r = row-here a.memory.tables.now a.memory.arena.now c.args.memory.bytes c.args.memory.is_whole _ _ _ _ _ _ l.invariant.0 _ c.counts-objects.ensures.objects c.loop-i-test.true in
    r.inside

pub overflow_cast-at : goal.overflow_cast-at
overflow_cast-at c =
    let a = c.args in
    let l = c.loop-i in
    let r = row-here a.memory.tables.now a.memory.arena.now c.args.memory.bytes c.args.memory.is_whole _ _ _ _ _ _ l.invariant.0 _ c.counts-objects.ensures.objects c.loop-i-test.true in
    omega arith

pub put_u16-requires : goal.put_u16-requires
put_u16-requires c =
    let a = c.args in
    let l = c.loop-i in
    let r = row-here a.memory.tables.now a.memory.arena.now c.args.memory.bytes c.args.memory.is_whole _ _ _ _ _ _ l.invariant.0 _ c.counts-objects.ensures.objects c.loop-i-test.true in
    let w = l.invariant.0.few in
    omega (arith, l.invariant.2, c.requires)

pub overflow_add-records : goal.overflow_add-records
overflow_add-records c =
    let a = c.args in
    let l = c.loop-i in
    let r = row-here a.memory.tables.now a.memory.arena.now c.args.memory.bytes c.args.memory.is_whole _ _ _ _ _ _ l.invariant.0 _ c.counts-objects.ensures.objects c.loop-i-test.true in
    omega (arith, l.invariant.0.few)

pub record_length-bytes-requires : goal.record_length-bytes-requires
record_length-bytes-requires c =
    let a = c.args in
    let l = c.loop-i in
    let r = row-here a.memory.tables.now a.memory.arena.now c.args.memory.bytes c.args.memory.is_whole _ _ _ _ _ _ l.invariant.0 _ c.counts-objects.ensures.objects c.loop-i-test.true in
    r.inside

pub overflow_add-bytes : goal.overflow_add-bytes
overflow_add-bytes c =
    let a = c.args in
    let l = c.loop-i in
    let r = row-here a.memory.tables.now a.memory.arena.now c.args.memory.bytes c.args.memory.is_whole _ _ _ _ _ _ l.invariant.0 _ c.counts-objects.ensures.objects c.loop-i-test.true in
    omega (arith, l.invariant.0.small, c.record_length-bytes.ensures.short)

pub overflow_add-at : goal.overflow_add-at
overflow_add-at c =
    let a = c.args in
    let l = c.loop-i in
    let r = row-here a.memory.tables.now a.memory.arena.now c.args.memory.bytes c.args.memory.is_whole _ _ _ _ _ _ l.invariant.0 _ c.counts-objects.ensures.objects c.loop-i-test.true in
    omega (arith, c.span-at.ensures, ap (λ (x : Head). span x) c.read_head-h.ensures)

pub loop-i-preserved : goal.loop-i-preserved
loop-i-preserved c =
    let a = c.args in
    let l = c.loop-i in
    let r = row-here a.memory.tables.now a.memory.arena.now c.args.memory.bytes c.args.memory.is_whole _ _ _ _ _ _ l.invariant.0 _ c.counts-objects.ensures.objects c.loop-i-test.true in
    let n = c.span-at.ensures ∙ ap (λ (x : Head). span x) c.read_head-h.ensures in
    let few = l.invariant.0.few in
    elim c.if-has_row.branch [
      | then-has_row w ↦ rw (w.records-is, w.bytes-is, w.places-is, w.put_u16.ensures) (
        walked-listed a.memory.tables.now a.memory.arena.now c.args.memory.bytes c.args.memory.is_whole a.prefix.now a.suffix.now l.i l.at l.records l.bytes l.invariant.0 _ c.counts-objects.ensures.objects c.loop-i-test.true c.span-at.result n w.record_length-bytes.result (sym c.has_row.ensures ∙ w.if-has_row.true) w.record_length-bytes.ensures.long w.record_length-bytes.ensures.short,
        placed a.memory.tables.now a.memory.arena.now (state_of a.memory.tables.now a.memory.arena.now) (whole-stands a.memory.tables.now a.memory.arena.now c.args.memory.bytes c.args.memory.is_whole) a.prefix.now a.suffix.now l.places l.i l.at l.records l.bytes l.invariant.0 r.more
            l.invariant.1 (omega (arith, l.invariant.2, c.requires)) r.low (sym c.has_row.ensures ∙ w.if-has_row.true),
        ap length (sym w.put_u16.ensures) ∙ w.put_u16.auto.b ∙ l.invariant.2,
      )
      | else-has_row w ↦ rw (w.records-is, w.bytes-is, w.places-is) (
        walked-passed a.memory.tables.now a.memory.arena.now c.args.memory.bytes c.args.memory.is_whole a.prefix.now a.suffix.now l.i l.at l.records l.bytes l.invariant.0 _ c.counts-objects.ensures.objects c.loop-i-test.true c.span-at.result n (sym c.has_row.ensures ∙ w.if-has_row.false),
        l.invariant.1,
        l.invariant.2,
      )
    ]

pub returns-clause-few : goal.returns-clause-few
returns-clause-few c =
    let m = c.args.memory in
    let w = c.loop-i.invariant.0 in
    let stands = whole-stands m.tables.now m.arena.now m.bytes m.is_whole in
    omega (arith, c.counts-objects.ensures.objects, w.few, w.within, stands.valid.paths)
