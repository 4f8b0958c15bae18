-- `names_ascii::plain` meets its contract. The invariant: the faults counted and those to come are all of the path's. Assumes nothing.
use mathlib.Core.Path.{◌≡◌}
use native.Mathlib.Omega.{arith}
use lib.ListN.{get_or}
use Rattle.names_ascii.specs.Faults.{faults}
use Rattle.names_ascii.proofs.FaultLaws.{fault-small, no-faults, fault-here, faults-end}
use Rattle.names_ascii.proofs.plain.Goals as goal

pub overflow_add-bad : goal.overflow_add-bad
overflow_add-bad c = omega (arith, c.fault-bad.ensures, fault-small c.loop-b.before (get_or c.args.p.now c.loop-b.b-index 0))

pub loop-b-preserved : goal.loop-b-preserved
loop-b-preserved c =
    let l = c.loop-b in
    let p = c.args.p.now in
    let here = fault-here l.before p l.b-index c.loop-b-test.true in
    (omega (arith, c.fault-bad.ensures), omega (arith, c.fault-bad.ensures, fault-small l.before (get_or p l.b-index 0)))

pub returns : goal.returns
returns c =
    let l = c.loop-b in
    let p = c.args.p.now in
    let e : l.bad ≡ faults 47 p = omega (arith, faults-end l.before p l.b-index c.loop-b-test.false) in
    rw e (no-faults 47 p)
