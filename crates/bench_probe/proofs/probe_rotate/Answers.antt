-- `bench_probe::probe_rotate` meets its contract: what the tests refuse is what does not fit. Assumes nothing.
use mathlib.Core.Path.{ap, refl}
use mathlib.Core.Bool.{not}
use native.Mathlib.Omega.{arith}
use Rattle.bench_probe.proofs.Tests.{failed, passed}
use borrow.Author.Tests.{leb-true}
use Prim.Native.Nat.{◌+◌}
use lib.ListN.{length}
use Rattle.bench_probe.proofs.probe_rotate.Goals as goal

pub returns-then-not-fits : goal.returns-then-not-fits
returns-then-not-fits c = (simp (failed c.fits.ensures (ap not c.if-not-fits.true)), refl)

pub overflow_add-at : goal.overflow_add-at
overflow_add-at c =
    let args = c.args in
    omega (arith, leb-true (args.at + args.left) (length args.b.now) (passed c.fits.ensures (ap not c.if-not-fits.false)))

pub returns-then-not-fits-2 : goal.returns-then-not-fits-2
returns-then-not-fits-2 c = (simp (passed c.fits.ensures (ap not c.if-not-fits.false), failed c.fits-2.ensures (ap not c.if-not-fits-2.true)), refl)

pub rotate-requires : goal.rotate-requires
rotate-requires c = leb-true _ _ (passed c.fits-2.ensures (ap not c.if-not-fits-2.false))

pub returns : goal.returns
returns c = (simp (passed c.fits.ensures (ap not c.if-not-fits.false), passed c.fits-2.ensures (ap not c.if-not-fits-2.false)), c.rotate.ensures)
