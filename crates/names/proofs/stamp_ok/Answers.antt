-- `names::stamp_ok` meets its contract: 64 bits hold no larger stamp. Assumes nothing.
use native.Mathlib.Omega.{arith}
use Rattle.machine.specs.Names.{stamp_ok}
use Prim.Native.Nat.{◌≤◌}
use mathlib.Core.Bool.{and-true}
use borrow.Author.Tests.{le-leb}
use Rattle.names.proofs.stamp_ok.Goals as goal

pub returns : goal.returns
unfolding stamp_ok
returns c =
    let fits : c.args.stamp ≤ 18446744073709551615 = omega arith in
    rw (le-leb _ _ fits, and-true)
