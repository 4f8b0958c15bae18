-- `pairs::front::fits` meets its contract. Assumes nothing.
use native.Mathlib.Omega.{arith}
use borrow.Author.Tests.{le-ltb}
use Rattle.pairs.proofs.FrontLaws.{fits-none, fits-short, fits-value}
use Rattle.pairs.proofs.front.fits.Goals as goal

pub returns-then-n-lt1 : goal.returns-then-n-lt1
returns-then-n-lt1 c = fits-none c.args.rest.now (omega arith)

pub returns-then-m-n : goal.returns-then-m-n
returns-then-m-n c =
    let m = c.middle-m in
    fits-value c.args.rest.now m.result c.wide.result m.ensures.0 (omega arith) c.wide.ensures.0

pub returns-else-m-n : goal.returns-else-m-n
returns-else-m-n c = rw (le-ltb c.middle-m.result _ c.if-m-n.false) (fits-short c.args.rest.now c.middle-m.result c.middle-m.ensures.0 (omega arith))
