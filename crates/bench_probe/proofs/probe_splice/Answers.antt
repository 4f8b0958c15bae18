-- `bench_probe::probe_splice` meets its contract: what the tests refuse is what does not fit. Assumes nothing.
use mathlib.Core.Path.{ap, refl}
use mathlib.Core.Bool.{not}
use native.Mathlib.Omega.{arith}
use Rattle.bench_probe.proofs.Tests.{failed, passed}
use borrow.Author.Tests.{leb-true, le-leb, lt-leb}
use Prim.Native.Nat.{◌+◌, ◌-◌, ◌≤◌}
use lib.ListN.{length}
use Rattle.bench_probe.proofs.probe_splice.Goals as goal

pub returns-then-not-fits : goal.returns-then-not-fits
returns-then-not-fits c = (simp (failed c.fits.ensures (ap not c.if-not-fits.true)), refl)

pub returns-then-b-used : goal.returns-then-b-used
returns-then-b-used c = (simp (passed c.fits.ensures (ap not c.if-not-fits.false), lt-leb _ _ c.if-b-used.true), refl)

pub overflow_sub-used : goal.overflow_sub-used
overflow_sub-used c =
    let args = c.args in
    omega (arith, leb-true (args.at + args.n) args.used (passed c.fits.ensures (ap not c.if-not-fits.false)))

pub returns-then-not-fits-2 : goal.returns-then-not-fits-2
returns-then-not-fits-2 c = (simp (passed c.fits.ensures (ap not c.if-not-fits.false), le-leb _ _ c.if-b-used.false, failed c.fits-2.ensures (ap not c.if-not-fits-2.true)), refl)

pub splice-requires : goal.splice-requires
splice-requires c =
    let args = c.args in
    let front : args.at + args.n ≤ args.used = leb-true _ _ (passed c.fits.ensures (ap not c.if-not-fits.false)) in
    let back : args.used - args.n + length args.src.now ≤ length args.b.now = leb-true _ _ (passed c.fits-2.ensures (ap not c.if-not-fits-2.false)) in
    (front, (omega arith, omega arith))

pub returns : goal.returns
returns c = (simp (passed c.fits.ensures (ap not c.if-not-fits.false), le-leb _ _ c.if-b-used.false, passed c.fits-2.ensures (ap not c.if-not-fits-2.false)), c.splice.ensures)
