-- `recording_read::strings::decode` meets its contract. The invariant: what is read from here on, after the m bytes in `out`, is what is read in all.
-- Assumes nothing.
use Prim.Native.Nat.{◌+◌, ◌<◌}
use native.Mathlib.Omega.{arith}
use lib.ListN.{length, take, drop, length-set}
use Rattle.recording.specs.Read.{hex_on}
use Rattle.recording_read.proofs.StringSteps.{unclosed, closed, bad, second, more}
use Rattle.recording_read.proofs.strings.decode.Goals as goal

pub returns-then-h-eq34 : goal.returns-then-h-eq34
returns-then-h-eq34 c =
    let l = c.loop-i in
    let a = c.args in (
      closed (hex_on (take a.n a.out.now) (drop a.at a.s.now)) a.s.now l.out l.m l.i l.invariant.2 c.loop-i-test.true c.if-h-eq34.true,
      omega arith,
      omega arith,
    )

pub returns-in_err-x : goal.returns-in_err-x
returns-in_err-x c =
    let l = c.loop-i in
    let a = c.args in
    rw c.from_residual.ensures (
      bad (hex_on (take a.n a.out.now) (drop a.at a.s.now)) a.s.now l.out l.m l.i l.invariant.2 c.loop-i-test.true
          c.if-h-eq34.false c.byte_at.result 256 c.byte_at.ensures.0 c.in_err-x.ensures (omega arith),
      omega arith,
      omega arith,
    )

pub loop-i-preserved : goal.loop-i-preserved
loop-i-preserved c =
    let l = c.loop-i in
    let a = c.args in
    let x = c.in_ok-x in
    let two : l.i + 1 < length a.s.now =
    second (hex_on (take a.n a.out.now) (drop a.at a.s.now)) a.s.now l.out l.m l.i l.invariant.2 c.loop-i-test.true
    c.if-h-eq34.false c.byte_at.result x.x c.byte_at.ensures.0 x.ensures (omega arith) in (
      rw length-set l.invariant.0,
      omega arith,
      more (hex_on (take a.n a.out.now) (drop a.at a.s.now)) a.s.now l.out l.m l.i l.invariant.2 c.loop-i-test.true
          c.if-h-eq34.false c.byte_at.result x.x c.byte_at.ensures.0 x.ensures (omega arith) (omega arith),
    )

pub returns : goal.returns
returns c =
    let l = c.loop-i in
    let a = c.args in
    (unclosed (hex_on (take a.n a.out.now) (drop a.at a.s.now)) a.s.now l.out l.m l.i l.invariant.2 c.loop-i-test.false, omega arith, omega arith)
