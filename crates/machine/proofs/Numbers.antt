-- "Numbers are never used again": N never falls, and a call that answers a number answers N and adds 1 to it.
-- Assumes nothing.
use Prim.Native.Nat.{ℕ, ◌+◌, ◌≤◌, ◌<◌}
use mathlib.Core.Path.{◌≡◌, refl, sym, ap, ◌∙◌}
use mathlib.Core.Bool.{false≢true}
use mathlib.Core.List.{List, [], ◌∷◌, ◌++◌}
use native.Mathlib.Omega.{arith}
use borrow.Author.Tests.{eq-eqb}
use Rattle.machine.specs.State.{State}
use Rattle.machine.specs.Calls.{Call, Answer, number, Reply}
use Rattle.machine.specs.Steps.{reply, next}
use Rattle.machine.specs.Lists.{Trace, trace, final}
use Rattle.machine.specs.Demand3.{Kind, answers, calls}
use Rattle.machine.proofs.Traces.{cut}
use Rattle.machine.proofs.Effects.{Effects, stop, sets, removes, closes, Does, opens-upload, sets-part, has-effects, step-does}

effects-number : {A : ℕ} {s a b : State} → Effects A s a b → b.N ≡ a.N
effects-number stop = refl
effects-number (sets p x h more) = effects-number more
effects-number (removes p more) = effects-number more
effects-number (closes u x e more) = effects-number more

module _ (A : ℕ) (s : State) where
  does-kept : {k : Kind} {r : Answer} {s' : State} → Does A s k r s' → s.N ≤ s'.N
  does-kept (opens-upload t p m h k c r l) = omega arith
  does-kept (sets-part u x n d h e c r) = omega arith
  does-kept (has-effects q w more) = omega (arith, effects-number more)

  pub number-kept : (c : Call) → s.N ≤ (next A s c).N
  number-kept c = step-does A s (λ r s'. s.N ≤ s'.N) c (λ n. omega arith) (λ r out s' d. does-kept d)

  -- an accepted call answers no number, or answers N and adds 1 to it
  does-answered : (n : ℕ) {k : Kind} {r : Answer} {s' : State} → Does A s k r s' → r ≡ number n → (n ≡ s.N) × (s'.N ≡ s.N + 1)
  does-answered n (opens-upload t p m h k c r l) e = ((cc), refl)
  does-answered n (sets-part u x m d h i c r) e = absurd (let z : ◌≡◌ {A = ℕ} 0 1 = cc in omega arith)
  does-answered n (has-effects q w more) e = absurd (false≢true (sym (w n) ∙ ap (answers n) e ∙ eq-eqb n n refl))

  pub number-answered : (c : Call) (n : ℕ) → (reply A s c).answer ≡ number n → (n ≡ s.N) × ((next A s c).N ≡ s.N + 1)
  number-answered c n =
      step-does A s (λ r s'. r.answer ≡ number n → (n ≡ s.N) × (s'.N ≡ s.N + 1)) c
      (λ k e. absurd (let z : ◌≡◌ {A = ℕ} 0 1 = cc in omega arith)) (λ r out s' d. does-answered n d)

numbers-kept : (A : ℕ) (s : State) (cs : List Call) → s.N ≤ (final A s cs).N
numbers-kept A s [] = omega arith
numbers-kept A s (c ∷ cs) = omega (arith, number-kept A s c, numbers-kept A (next A s c) cs)

-- a number that a call of the list answers is below every number answered after it
pub numbers-ascend : (A : ℕ) (s : State) (cs : List Call) (before between after : Trace) (c d : Call) (r q : Reply) (m n : ℕ) →
    trace A s cs ≡ before ++ (c, r) ∷ (between ++ (d, q) ∷ after) → r.answer ≡ number m → q.answer ≡ number n → m < n
numbers-ascend A s cs before between after c d r q m n e hm hn =
    let k = cut A s cs before (between ++ (d, q) ∷ after) c r e in
    let t = final A s (calls before) in
    let w = number-answered A t c m (ap (λ (x : Reply). x.answer) k.replied ∙ hm) in
    let t' = next A t c in
    let j = cut A t' k.rest between after d q k.last in
    let z = number-answered A (final A t' (calls between)) d n (ap (λ (x : Reply). x.answer) j.replied ∙ hn) in
    omega (arith, w.0, w.1, z.0, numbers-kept A t' (calls between))
