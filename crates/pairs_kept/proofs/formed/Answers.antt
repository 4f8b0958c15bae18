-- `pairs_kept::formed` meets its contract. The invariant: the pairs not yet passed decide. Assumes nothing.
use mathlib.Core.Bool.{not}
use Prim.Native.Nat.{ℕ}
use mathlib.Core.Path.{refl, sym, ap, ◌∙◌}
use mathlib.Core.List.{List}
use native.Mathlib.Omega.{arith}
use Rattle.machine.specs.Pairs.{every, pair_ok}
use Rattle.machine.proofs.Tests.{said-no, said-yes}
use Rattle.pairs.proofs.Passing.{none_left, formed-no, ok-fits, formed-next}
use Rattle.pairs_kept.proofs.formed.Goals as goal

pub loop-at-init : goal.loop-at-init
loop-at-init c = (omega arith, refl)

pub returns-then-not-pair_ok : goal.returns-then-not-pair_ok
returns-then-not-pair_ok c =
    let bytes : List ℕ = c.args.pairs.now in
    formed-no (bytes) c.loop-at.at (omega arith) c.loop-at.invariant.1 (said-no c.pair_ok.ensures (ap not c.if-not-pair_ok.true))

pub end-at-requires : goal.end-at-requires
end-at-requires c =
    let bytes : List ℕ = c.args.pairs.now in
    (omega arith, ok-fits (bytes) c.loop-at.at (omega arith) c.loop-at.invariant.1 (said-yes c.pair_ok.ensures (ap not c.if-not-pair_ok.false)))

pub loop-at-preserved : goal.loop-at-preserved
loop-at-preserved c =
    let bytes : List ℕ = c.args.pairs.now in
    let y = said-yes c.pair_ok.ensures (ap not c.if-not-pair_ok.false) in
    (c.end-at.ensures.2, formed-next (bytes) c.loop-at.at (omega arith) c.loop-at.invariant.1 y c.end-at.result c.end-at.ensures.0)

pub returns : goal.returns
returns c =
    let bytes : List ℕ = c.args.pairs.now in
    sym (ap (every pair_ok) (none_left (bytes) c.loop-at.at (omega arith))) ∙ c.loop-at.invariant.1
