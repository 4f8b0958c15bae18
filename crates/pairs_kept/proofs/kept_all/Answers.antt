-- `pairs_kept::kept_all` meets its contract. The invariant: what is summed and what is to come are all. Assumes nothing.
use Prim.Native.Nat.{ℕ}
use mathlib.Core.Path.{refl}
use mathlib.Core.List.{List}
use native.Mathlib.Omega.{arith}
use lib.ListN.{length}
use Rattle.machine.specs.Pairs.{kept, pairs_held}
use Rattle.pairs_kept.proofs.Keeping.{count-cons, held_cons}
use Rattle.pairs.proofs.Passing.{from-fits, here-fits, summed-none, summed-next, summed-all, from-inside, from-size}
use Rattle.pairs_kept.proofs.kept_all.Goals as goal

pub loop-at-init : goal.loop-at-init
loop-at-init c =
    let ps : List ℕ = c.args.pairs.now in
    let ps = c.args.pairs.now in
    (summed-none (λ l. length (kept l)) ps c.requires, summed-none (λ l. pairs_held (kept l)) ps c.requires)

pub kept_first-first-requires : goal.kept_first-first-requires
kept_first-first-requires c =
    let ps : List ℕ = c.args.pairs.now in
    from-fits (ps) c.loop-at.at (omega arith) c.loop-at.invariant.0.formed

pub overflow_add-n : goal.overflow_add-n
overflow_add-n c = omega (arith, c.loop-at.invariant.0.few, c.kept_first-first.ensures.2)

pub overflow_add-bytes : goal.overflow_add-bytes
overflow_add-bytes c =
    let ps : List ℕ = c.args.pairs.now in
    omega (arith, c.loop-at.invariant.1.few, c.kept_first-first.ensures.3, from-inside (ps) c.loop-at.at (omega arith) c.loop-at.invariant.0.formed)

pub end-at-requires : goal.end-at-requires
end-at-requires c =
    let ps : List ℕ = c.args.pairs.now in
    (omega arith, here-fits (ps) c.loop-at.at (omega arith) c.loop-at.invariant.0.formed)

pub loop-at-preserved : goal.loop-at-preserved
loop-at-preserved c =
    let ps : List ℕ = c.args.pairs.now in
    let o = c.kept_first-first in
    let e = c.end-at.ensures in (
      summed-next (λ l. length (kept l)) (ps) c.loop-at.at c.loop-at.n c.loop-at.invariant.0 count-cons
          c.end-at.result o.result.pairs (omega arith) e.0 e.2 o.ensures.0 (omega (arith, e, o.ensures.2)),
      summed-next (λ l. pairs_held (kept l)) (ps) c.loop-at.at c.loop-at.bytes c.loop-at.invariant.1 held_cons
          c.end-at.result o.result.bytes (omega arith) e.0 e.2 o.ensures.1 (omega (arith, e, o.ensures.3, from-size (ps) c.loop-at.at)),
    )

pub returns : goal.returns
returns c =
    let ps : List ℕ = c.args.pairs.now in (
      summed-all (λ l. length (kept l)) (ps) c.loop-at.at c.loop-at.n c.loop-at.invariant.0 refl (omega arith),
      summed-all (λ l. pairs_held (kept l)) (ps) c.loop-at.at c.loop-at.bytes c.loop-at.invariant.1 refl (omega arith),
    )
