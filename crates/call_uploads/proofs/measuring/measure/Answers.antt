-- `call_uploads::measuring::measure` meets its contract. The invariant: the uploads passed are measured, and those that have a record noted. Assumes nothing.
use mathlib.Core.Path.{refl, sym, ap, ◌∙◌}
use native.Mathlib.Omega.{arith}
use lib.ListN.{length}
use Rattle.mem_layout.specs.Memory.{state_of}
use Rattle.mem_layout.proofs.WholeLaws.{whole-stands}
use Rattle.call_uploads.proofs.UploadRows.{first-place}
use Rattle.call_uploads.proofs.Measured.{measured-none, upload-here, measured-listed, measured-passed}
use Rattle.call_uploads.proofs.Noted.{no_note, noted-next}
use Rattle.call_uploads.proofs.measuring.measure.Goals as goal
use Rattle.call_uploads.proofs.measuring.measure.Goals.{then-begins_with, else-begins_with}

pub loop-i-init : goal.loop-i-init
loop-i-init c =
    let s = state_of c.args.memory.whole.tables.now c.args.memory.whole.arena.now in
    (measured-none s c.args.prefix.now c.first_upload-here.result (c.first_upload-here.ensures ∙ first-place s), no_note s c.args.prefix.now c.args.notes.now, refl)

pub read_upload-u-requires : goal.read_upload-u-requires
read_upload-u-requires c =
    let a = c.args in
    let l = c.loop-i in
    let r = upload-here a.memory.whole.tables.now a.memory.whole.arena.now c.args.memory.whole.bytes c.args.memory.whole.is_whole _ _ _ _ _ l.invariant.0 _ c.counts-uploads.ensures.uploads c.loop-i-test.true in
    (r.open_here, r.place)

pub put_note-requires : goal.put_note-requires
put_note-requires c =
    let a = c.args in
    let l = c.loop-i in
    let r = upload-here a.memory.whole.tables.now a.memory.whole.arena.now c.args.memory.whole.bytes c.args.memory.whole.is_whole _ _ _ _ _ l.invariant.0 _ c.counts-uploads.ensures.uploads c.loop-i-test.true in
    let few = l.invariant.0.few in
    (omega (arith, l.invariant.2, c.requires), r.low)

pub overflow_add-records : goal.overflow_add-records
overflow_add-records c =
    let a = c.args in
    let l = c.loop-i in
    let r = upload-here a.memory.whole.tables.now a.memory.whole.arena.now c.args.memory.whole.bytes c.args.memory.whole.is_whole _ _ _ _ _ l.invariant.0 _ c.counts-uploads.ensures.uploads c.loop-i-test.true in
    omega (arith, l.invariant.0.few)

pub overflow_cast-bytes : goal.overflow_cast-bytes
overflow_cast-bytes c =
    let a = c.args in
    let l = c.loop-i in
    let r = upload-here a.memory.whole.tables.now a.memory.whole.arena.now c.args.memory.whole.bytes c.args.memory.whole.is_whole _ _ _ _ _ l.invariant.0 _ c.counts-uploads.ensures.uploads c.loop-i-test.true in
    let u = c.read_upload-u in
    let it = r.read u.result u.ensures.read in
    omega (arith, l.invariant.0.small, it.short, ap length it.path)

pub overflow_add-bytes : goal.overflow_add-bytes
overflow_add-bytes c =
    let a = c.args in
    let l = c.loop-i in
    let r = upload-here a.memory.whole.tables.now a.memory.whole.arena.now c.args.memory.whole.bytes c.args.memory.whole.is_whole _ _ _ _ _ l.invariant.0 _ c.counts-uploads.ensures.uploads c.loop-i-test.true in
    let u = c.read_upload-u in
    let it = r.read u.result u.ensures.read in
    omega (arith, l.invariant.0.small, it.short, ap length it.path)

pub overflow_add-bytes-then-begins_with : goal.overflow_add-bytes-then-begins_with
overflow_add-bytes-then-begins_with c =
    let a = c.args in
    let l = c.loop-i in
    let r = upload-here a.memory.whole.tables.now a.memory.whole.arena.now c.args.memory.whole.bytes c.args.memory.whole.is_whole _ _ _ _ _ l.invariant.0 _ c.counts-uploads.ensures.uploads c.loop-i-test.true in
    let u = c.read_upload-u in
    let it = r.read u.result u.ensures.read in
    omega (arith, l.invariant.0.small, it.short, ap length it.path)

pub loop-i-preserved : goal.loop-i-preserved
loop-i-preserved c =
    let a = c.args in
    let l = c.loop-i in
    let r = upload-here a.memory.whole.tables.now a.memory.whole.arena.now c.args.memory.whole.bytes c.args.memory.whole.is_whole _ _ _ _ _ l.invariant.0 _ c.counts-uploads.ensures.uploads c.loop-i-test.true in
    let u = c.read_upload-u in
    let it = r.read u.result u.ensures.read in
    let few = l.invariant.0.few in
    elim c.if-begins_with.branch [
      | then-begins_with w ↦ rw (w.records-is, w.bytes-is, w.notes-is, w.put_note.ensures) (
        measured-listed a.memory.whole.tables.now a.memory.whole.arena.now c.args.memory.whole.bytes c.args.memory.whole.is_whole a.prefix.now l.i l.here l.records l.bytes l.invariant.0 _ c.counts-uploads.ensures.uploads c.loop-i-test.true u.result it _ (sym c.begins_with.ensures ∙ w.if-begins_with.true) refl,
        noted-next a.memory.whole.tables.now a.memory.whole.arena.now (state_of a.memory.whole.tables.now a.memory.whole.arena.now) (whole-stands a.memory.whole.tables.now a.memory.whole.arena.now c.args.memory.whole.bytes c.args.memory.whole.is_whole) a.prefix.now l.notes l.i l.here l.records l.bytes l.invariant.0 r.more
            l.invariant.1 (omega (arith, l.invariant.2, c.requires)) u.result it (sym c.begins_with.ensures ∙ w.if-begins_with.true),
        ap length (sym w.put_note.ensures) ∙ w.put_note.auto.notes ∙ l.invariant.2,
      )
      | else-begins_with w ↦ rw (w.records-is, w.bytes-is, w.notes-is) (
        measured-passed a.memory.whole.tables.now a.memory.whole.arena.now c.args.memory.whole.bytes c.args.memory.whole.is_whole a.prefix.now l.i l.here l.records l.bytes l.invariant.0 _ c.counts-uploads.ensures.uploads c.loop-i-test.true u.result it (sym c.begins_with.ensures ∙ w.if-begins_with.false),
        l.invariant.1,
        l.invariant.2,
      )
    ]

pub returns-clause-few : goal.returns-clause-few
returns-clause-few c =
    let m = c.args.memory.whole in
    let w = c.loop-i.invariant.0 in
    let stands = whole-stands m.tables.now m.arena.now m.bytes m.is_whole in
    omega (arith, c.counts-uploads.ensures.uploads, w.few, w.within, stands.valid.opens)
