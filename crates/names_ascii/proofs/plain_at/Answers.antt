-- `names_ascii::plain_at` meets its contract. The invariant: nothing was counted where the first block and the bytes from `end` on are
-- clean. Assumes nothing.
use mathlib.Core.Path.{sym}
use Rattle.names_ascii.proofs.BlockLaws.{slash-first, blocks_start, blocks-next, blocks_end}
use native.Mathlib.Omega.{arith}
use Rattle.names_ascii.proofs.plain_at.Goals as goal

pub returns-then-to-from-le32 : goal.returns-then-to-from-le32
returns-then-to-from-le32 c = c.short_at.ensures

pub returns-then-t-from-eq47 : goal.returns-then-t-from-eq47
returns-then-t-from-eq47 c =
    let a = c.args in
    sym (slash-first a.t.now a.from a.to (omega arith) (omega arith) c.if-t-from-eq47.true)

pub loop-end-init : goal.loop-end-init
loop-end-init c =
    let a = c.args in
    (blocks_start a.t.now a.from a.to (omega arith) (omega arith) (omega arith) c.block-bad.result c.block-bad.ensures.0, omega arith, omega arith, omega arith)

pub loop-end-preserved : goal.loop-end-preserved
loop-end-preserved c =
    let a = c.args in (
      blocks-next a.t.now a.from a.to (omega arith) (omega arith) (omega arith) c.loop-end.bad c.loop-end.end c.loop-end.invariant.0 (omega arith) (omega arith) c.block-bad-in-loop-end.result c.block-bad-in-loop-end.ensures.0,
      omega arith,
      omega arith,
      omega arith,
    )

pub returns : goal.returns
returns c =
    let a = c.args in
    blocks_end a.t.now a.from a.to (omega arith) (omega arith) (omega arith) c.loop-end.bad c.loop-end.end c.loop-end.invariant.0 (omega arith) (omega arith) (omega arith) c.if-t-from-eq47.false
