-- `names_ascii::faults` meets its contract. The invariant: the faults counted and those to come are all; `k` is the place. Assumes nothing.
use Prim.Native.Nat.{ℕ, ◌-◌}
use mathlib.Core.Path.{◌≡◌, ap, ◌∙◌}
use mathlib.Core.Bool.{cond}
use lib.Dec.{ltb}
use native.Mathlib.Omega.{arith}
use lib.ListN.{get_or}
use Rattle.names_ascii.specs.Faults.{fault_of}
use Rattle.names_ascii.proofs.BlockLaws.{place, turn, turn_small, beside_end}
use Rattle.names_ascii.proofs.faults.Goals as goal

pub loop-i-init : goal.loop-i-init
loop-i-init c =
    let e : place c.args.n 0 ≡ 32 - c.args.n = omega arith in
    (rw e (omega arith), omega arith, omega arith)

pub overflow_add-bad : goal.overflow_add-bad
overflow_add-bad c =
    let said : let a = c.args in
    c.counted-bad.result ≡ cond (ltb c.loop-i.k 32) 0 (fault_of (get_or a.before.now c.loop-i.i 0) (get_or a.s.now c.loop-i.i 0)) = c.counted-bad.ensures ∙ ap (λ (f : ℕ). cond (ltb c.loop-i.k 32) 0 f) c.fault.ensures in
    let a = c.args in
    omega (arith, turn_small c.loop-i.k c.counted-bad.result (get_or a.before.now c.loop-i.i 0) (get_or a.s.now c.loop-i.i 0) (said))

pub loop-i-preserved : goal.loop-i-preserved
loop-i-preserved c =
    let said : let a = c.args in
    c.counted-bad.result ≡ cond (ltb c.loop-i.k 32) 0 (fault_of (get_or a.before.now c.loop-i.i 0) (get_or a.s.now c.loop-i.i 0)) = c.counted-bad.ensures ∙ ap (λ (f : ℕ). cond (ltb c.loop-i.k 32) 0 f) c.fault.ensures in
    let a = c.args in
    let x = get_or a.before.now c.loop-i.i 0 in
    let y = get_or a.s.now c.loop-i.i 0 in (
      turn a.before.now a.s.now a.n c.loop-i.i c.loop-i.k c.counted-bad.result c.loop-i.bad _ (omega arith) (omega arith) (omega arith) (omega arith) c.loop-i.invariant.1 (said) c.loop-i.invariant.0,
      omega arith,
      omega (arith, turn_small c.loop-i.k c.counted-bad.result x y (said)),
    )

pub returns : goal.returns
returns c =
    let a = c.args in
    let e : place a.n c.loop-i.i ≡ 32 = omega arith in
    let end = beside_end a.before.now a.s.now 32 (omega arith) in
    let all = rw e at c.loop-i.invariant.0 in
    omega arith
