-- `bench_probe::fits` meets its contract: the tests are of the sum. Assumes nothing.
use Prim.Native.Nat.{◌+◌, ◌≤◌, ◌<◌}
use mathlib.Core.Path.{sym}
use borrow.Author.Tests.{le-leb, lt-leb}
use native.Mathlib.Omega.{arith}
use Rattle.bench_probe.proofs.fits.Goals as goal

pub returns-then-len-at : goal.returns-then-len-at
returns-then-len-at c =
    let args = c.args in
    let h : args.len < args.at + args.n = omega arith in
    sym (lt-leb _ _ h)

pub returns-then-len-at-2 : goal.returns-then-len-at-2
returns-then-len-at-2 c =
    let args = c.args in
    let h : args.len < args.at + args.n = omega arith in
    sym (lt-leb _ _ h)

pub returns : goal.returns
returns c =
    let args = c.args in
    let h : args.at + args.n ≤ args.len = omega arith in
    sym (le-leb _ _ h)
