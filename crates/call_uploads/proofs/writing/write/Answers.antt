-- `call_uploads::writing::write` meets its contract. The invariant: the records of the first i notes stand at the front. Assumes nothing.
use Prim.Native.Nat.{ℕ}
use mathlib.Core.List.{List}
use Rattle.call_uploads.proofs.Written.{written_none, row-stands, written-fits, written_next}
use Rattle.call_uploads.proofs.writing.write.Goals as goal

pub loop-i-init : goal.loop-i-init
loop-i-init c = written_none c.args.tables.now c.args.notes.now c.args.answer.now

pub write_row-to-requires : goal.write_row-to-requires
write_row-to-requires c =
    let t : List ℕ = c.args.tables.now in
    let notes : List ℕ = c.args.notes.now in
    let b₀ : List ℕ = c.args.answer.now in
    let g = c.loop-i in
    let n = c.args.records in (
      row-stands (t) (notes) (b₀) g.answer g.i g.to g.invariant c.get_u16-at.result c.get_u16-parts.result c.get_u16-at.ensures c.get_u16-parts.ensures n c.loop-i-test.true c.requires.1,
      written-fits (t) (notes) (b₀) g.answer g.i g.to g.invariant c.get_u16-at.result c.get_u16-parts.result c.get_u16-at.ensures c.get_u16-parts.ensures n c.loop-i-test.true c.requires.2,
    )

pub loop-i-preserved : goal.loop-i-preserved
loop-i-preserved c =
    let t : List ℕ = c.args.tables.now in
    let notes : List ℕ = c.args.notes.now in
    let b₀ : List ℕ = c.args.answer.now in
    let w = c.write_row-to in
    let g = c.loop-i in
    written_next (t) (notes) (b₀) g.answer g.i g.to g.invariant c.get_u16-at.result c.get_u16-parts.result c.get_u16-at.ensures c.get_u16-parts.ensures _ _ w.ensures w.auto.answer
