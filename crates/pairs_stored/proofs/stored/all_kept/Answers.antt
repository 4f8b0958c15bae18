-- `pairs_stored::stored::all_kept` meets its contract. The invariant: the pairs not yet passed decide, after the last key. Assumes nothing.
use mathlib.Core.Path.{ap}
use mathlib.Core.Bool.{not}
use Prim.Native.Nat.{ℕ, ◌≤◌}
use mathlib.Core.List.{List}
use native.Mathlib.Omega.{arith}
use lib.ListN.{length}
use Rattle.machine.proofs.Tests.{said-no, said-yes}
use Rattle.pairs_stored.proofs.Storing.{kept-none, kept-odd, kept-all, kept-no, kept_next, pair_inside}
use Rattle.pairs_stored.proofs.stored.all_kept.Goals as goal

pub loop-i-init : goal.loop-i-init
loop-i-init c = kept-none c.args.lengths.now c.args.bytes.now c.requires.1

pub returns-then-lengths-i : goal.returns-then-lengths-i
returns-then-lengths-i c =
    let ls : List ℕ = c.args.lengths.now in
    let bs : List ℕ = c.args.bytes.now in
    let l = c.loop-i in
    kept-odd (ls) (bs) l.from l.to l.at l.i l.invariant (omega arith) (omega arith)

pub slice_bounds-kept_after-end-in-loop-i : goal.slice_bounds-kept_after-end-in-loop-i
slice_bounds-kept_after-end-in-loop-i c =
    let ls : List ℕ = c.args.lengths.now in
    let bs : List ℕ = c.args.bytes.now in
    let inside : c.end-v.result ≤ length (bs) = let l = c.loop-i in
    pair_inside (ls) (bs) l.from l.to l.at l.i l.invariant c.end-k.result c.end-v.result (omega arith) c.end-k.ensures c.end-v.ensures in
    omega (arith, inside)

pub slice_bounds-kept_after-end-in-loop-i-2 : goal.slice_bounds-kept_after-end-in-loop-i-2
slice_bounds-kept_after-end-in-loop-i-2 c =
    let ls : List ℕ = c.args.lengths.now in
    let bs : List ℕ = c.args.bytes.now in
    let inside : c.end-v.result ≤ length (bs) = let l = c.loop-i in
    pair_inside (ls) (bs) l.from l.to l.at l.i l.invariant c.end-k.result c.end-v.result (omega arith) c.end-k.ensures c.end-v.ensures in
    omega (arith, inside)

pub returns-then-not-kept_after : goal.returns-then-not-kept_after
returns-then-not-kept_after c =
    let ls : List ℕ = c.args.lengths.now in
    let bs : List ℕ = c.args.bytes.now in
    let l = c.loop-i in
    kept-no (ls) (bs) l.from l.to l.at l.i l.invariant c.end-k.result c.end-v.result (omega arith) c.end-k.ensures c.end-v.ensures
    (said-no c.kept_after.ensures (ap not c.if-not-kept_after.true))

pub loop-i-preserved : goal.loop-i-preserved
loop-i-preserved c =
    let ls : List ℕ = c.args.lengths.now in
    let bs : List ℕ = c.args.bytes.now in
    let l = c.loop-i in
    kept_next (ls) (bs) l.from l.to l.at l.i l.invariant c.end-k.result c.end-v.result (omega arith) c.end-k.ensures c.end-v.ensures
    (said-yes c.kept_after.ensures (ap not c.if-not-kept_after.false))

pub returns : goal.returns
returns c =
    let ls : List ℕ = c.args.lengths.now in
    let bs : List ℕ = c.args.bytes.now in
    let l = c.loop-i in
    kept-all (ls) (bs) l.from l.to l.at l.i l.invariant (omega arith)
