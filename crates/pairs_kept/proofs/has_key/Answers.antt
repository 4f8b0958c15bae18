-- `pairs_kept::has_key` meets its contract. The invariant: the pairs not yet passed decide. Assumes nothing.
use Prim.Native.Nat.{ℕ}
use mathlib.Core.List.{List}
use native.Mathlib.Omega.{arith}
use Rattle.machine.specs.Pairs.{has_key}
use Rattle.pairs_kept.proofs.Keeping.{has-yes, has_no}
use Rattle.pairs.proofs.Passing.{from-fits, here-fits, undecided-none, decided, undecided-next, undecided-all}
use Rattle.pairs_kept.proofs.has_key.Goals as goal

pub loop-at-init : goal.loop-at-init
loop-at-init c = undecided-none (has_key c.args.key.now) c.args.pairs.now c.requires

pub key-requires : goal.key-requires
key-requires c =
    let bytes : List ℕ = c.args.pairs.now in
    from-fits (bytes) c.loop-at.at (omega arith) c.loop-at.invariant.formed

pub returns-then-equal : goal.returns-then-equal
returns-then-equal c =
    let bytes : List ℕ = c.args.pairs.now in
    let sought : List ℕ = c.args.key.now in
    let at = c.loop-at.at in
    decided (has_key (sought)) (bytes) at c.loop-at.invariant (omega arith) _
    (λ r _. has-yes (bytes) at (sought) _ _ c.key.ensures c.equal.ensures r c.if-equal.true)

pub end-at-requires : goal.end-at-requires
end-at-requires c =
    let bytes : List ℕ = c.args.pairs.now in
    (omega arith, here-fits (bytes) c.loop-at.at (omega arith) c.loop-at.invariant.formed)

pub loop-at-preserved : goal.loop-at-preserved
loop-at-preserved c =
    let bytes : List ℕ = c.args.pairs.now in
    let sought : List ℕ = c.args.key.now in
    let at = c.loop-at.at in
    let r = c.end-at.result in
    let e = c.end-at.ensures in
    undecided-next (has_key (sought)) (bytes) at c.loop-at.invariant (omega arith) r e.0 e.2
    (has_no (bytes) at (sought) _ _ c.key.ensures c.equal.ensures r c.if-equal.false)

pub returns : goal.returns
returns c =
    let bytes : List ℕ = c.args.pairs.now in
    let sought : List ℕ = c.args.key.now in
    undecided-all (has_key (sought)) (bytes) c.loop-at.at c.loop-at.invariant (omega arith)
