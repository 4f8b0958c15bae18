-- `names_utf8::pairs` meets its contract. The invariant: from i to k stand such letters. Assumes nothing.
use mathlib.Core.Path.{ap, ◌≡◌}
use mathlib.Core.Bool.{not}
use Prim.Native.Nat.{◌+◌, ◌-◌, ◌<◌}
use lib.ListN.{get_or}
use borrow.Author.Tests.{not-false}
use Rattle.names_utf8.proofs.LetterLaws.{run_none, run_more}
use native.Mathlib.Omega.{arith}
use Rattle.names_utf8.proofs.pairs.Goals as goal

pub loop-k-init : goal.loop-k-init
loop-k-init c = run_none c.args.p.now c.args.i (omega arith)

pub returns-then-not-pair : goal.returns-then-not-pair
returns-then-not-pair c =
    let a = c.args in
    let e : a.i + (c.loop-k.k - a.i) ≡ c.loop-k.k = omega (arith, c.loop-k.invariant.forward) in
    rw e c.loop-k.invariant

pub loop-k-preserved : goal.loop-k-preserved
loop-k-preserved c =
    let a = c.args in
    let known : get_or a.p.now c.loop-k.k 0 < 256 = omega (arith, c.shared_slice_known-1.given c.loop-k.k) in
    run_more a.p.now a.i c.loop-k.k known (omega (arith, c.loop-k.invariant.inside)) c.loop-k.invariant (c.pair.ensures (not-false _ (ap not c.if-not-pair.false)))

pub returns : goal.returns
returns c =
    let a = c.args in
    let e : a.i + (c.loop-k.k - a.i) ≡ c.loop-k.k = omega (arith, c.loop-k.invariant.forward) in
    rw e c.loop-k.invariant
