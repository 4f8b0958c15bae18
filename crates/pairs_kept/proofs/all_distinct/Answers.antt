-- `pairs_kept::all_distinct` meets its contract. The invariant: the pairs not yet passed decide. Assumes nothing.
use Prim.Native.Nat.{ℕ}
use mathlib.Core.Path.{sym, ◌∙◌}
use mathlib.Core.List.{List}
use native.Mathlib.Omega.{arith}
use Rattle.machine.specs.Pairs.{kept, distinct_keys}
use Rattle.pairs_kept.proofs.Keeping.{again-yes, again-no}
use Rattle.pairs.proofs.Passing.{from-there, from-formed, here-fits, undecided-none, decided, undecided-next, undecided-all}
use Rattle.pairs_kept.proofs.all_distinct.Goals as goal

pub loop-at-init : goal.loop-at-init
loop-at-init c = undecided-none (λ l. distinct_keys (kept l)) c.args.pairs.now c.requires

pub comes_again-requires : goal.comes_again-requires
comes_again-requires c =
    let bytes : List ℕ = c.args.pairs.now in
    (from-there (bytes) c.loop-at.at (omega arith), from-formed (bytes) c.loop-at.at (omega arith) c.loop-at.invariant.formed)

pub returns-then-comes_again : goal.returns-then-comes_again
returns-then-comes_again c =
    let bytes : List ℕ = c.args.pairs.now in
    let y = sym c.comes_again.ensures ∙ c.if-comes_again.true in
    decided (λ l. distinct_keys (kept l)) (bytes) c.loop-at.at c.loop-at.invariant (omega arith) _ (λ r is. again-yes (bytes) c.loop-at.at r is y)

pub end-at-requires : goal.end-at-requires
end-at-requires c =
    let bytes : List ℕ = c.args.pairs.now in
    (omega arith, here-fits (bytes) c.loop-at.at (omega arith) c.loop-at.invariant.formed)

pub loop-at-preserved : goal.loop-at-preserved
loop-at-preserved c =
    let bytes : List ℕ = c.args.pairs.now in
    let n = sym c.comes_again.ensures ∙ c.if-comes_again.false in
    let r = c.end-at.result in
    let e = c.end-at.ensures in
    undecided-next (λ l. distinct_keys (kept l)) (bytes) c.loop-at.at c.loop-at.invariant (omega arith) r e.0 e.2 (again-no (bytes) c.loop-at.at r e.0 n)

pub returns : goal.returns
returns c =
    let bytes : List ℕ = c.args.pairs.now in
    undecided-all (λ l. distinct_keys (kept l)) (bytes) c.loop-at.at c.loop-at.invariant (omega arith)
