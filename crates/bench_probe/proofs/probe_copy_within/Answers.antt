-- `bench_probe::probe_copy_within` meets its contract: what the tests refuse is what does not fit. Assumes nothing.
use mathlib.Core.Path.{ap, refl}
use mathlib.Core.Bool.{not}
use Rattle.bench_probe.proofs.Tests.{failed, passed}
use borrow.Author.Tests.{leb-true}
use Rattle.bench_probe.proofs.probe_copy_within.Goals as goal

pub returns-then-not-fits : goal.returns-then-not-fits
returns-then-not-fits c = (simp (failed c.fits.ensures (ap not c.if-not-fits.true)), refl)

pub returns-then-not-fits-2 : goal.returns-then-not-fits-2
returns-then-not-fits-2 c = (simp (passed c.fits.ensures (ap not c.if-not-fits.false), failed c.fits-2.ensures (ap not c.if-not-fits-2.true)), refl)

pub copy_within-requires : goal.copy_within-requires
copy_within-requires c = (leb-true _ _ (passed c.fits.ensures (ap not c.if-not-fits.false)), leb-true _ _ (passed c.fits-2.ensures (ap not c.if-not-fits-2.false)))

pub returns : goal.returns
returns c = (simp (passed c.fits.ensures (ap not c.if-not-fits.false), passed c.fits-2.ensures (ap not c.if-not-fits-2.false)), c.copy_within.ensures)
