-- `bench_probe::put_digest` meets its contract: sixteen bytes over sixteen. Assumes nothing.
use mathlib.Core.Path.{refl, ◌∙◌}
use borrow.Author.Tests.{eq-eqb, ne_eqb}
use Rattle.base_md5.specs.Md5.{bytes_of}
use Rattle.bench_probe.proofs.Tests.{whole}
use Rattle.bench_probe.proofs.put_digest.Goals as goal

pub returns-then-unfit : goal.returns-then-unfit
returns-then-unfit c = (simp (ne_eqb _ _ c.if-unfit.true), refl)

pub returns : goal.returns
returns c =
    let sixteen = c.if-unfit.false in
    (simp (eq-eqb _ _ sixteen), c.put.ensures ∙ whole c.args.out.now (bytes_of c.args.v) 16 sixteen)
