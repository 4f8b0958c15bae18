-- A trace cut at a call, and what two lists one after the other answer and leave.
-- Assumes nothing.
use Prim.Native.Nat.{ℕ}
use mathlib.Core.Path.{◌≡◌, refl, sym, ap, ◌∙◌, subst}
use mathlib.Core.List.{List, [], ◌∷◌, ◌++◌}
use native.Mathlib.Omega.{arith}
use Rattle.machine.specs.State.{State}
use Rattle.machine.specs.Calls.{Call, Reply}
use Rattle.machine.specs.Steps.{reply, next}
use Rattle.machine.specs.Lists.{Trace, trace, final}
use Rattle.machine.specs.Demand3.{calls}

-- what stands before the call is a trace, its reply is that of the state there, and what stands after it is a trace from the state after
pub record Cut (A : ℕ) (s : State) (before : Trace) (c : Call) (r : Reply) (after : Trace) : Type 0 where
  pub first : trace A s (calls before) ≡ before
  pub replied : reply A (final A s (calls before)) c ≡ r
  pub rest : List Call
  pub last : trace A (next A (final A s (calls before)) c) rest ≡ after

pub cut : (A : ℕ) (s : State) (cs : List Call) (before after : Trace) (c : Call) (r : Reply) → trace A s cs ≡ before ++ (c, r) ∷ after → Cut A s before c r after
cut A s [] [] after c r e = absurd (let z : ◌≡◌ {A = ℕ} 0 1 = cc in omega arith)
cut A s (k ∷ cs) [] after c r e =
    let h : ◌≡◌ {A = Call × Reply} (k, reply A s k) (c, r) = cc in
    let l : trace A (next A s k) cs ≡ after = cc in
    let q : k ≡ c = ap (λ (w : Call × Reply). w.0) h in
    record { first = refl; replied = ap (reply A s) (sym q) ∙ ap (λ (w : Call × Reply). w.1) h; rest = cs; last = rw (← q) l }
cut A s [] (w ∷ before) after c r e = absurd (let z : ◌≡◌ {A = ℕ} 0 1 = cc in omega arith)
cut A s (k ∷ cs) (w ∷ before) after c r e =
    let h : ◌≡◌ {A = Call × Reply} (k, reply A s k) w = cc in
    let i = cut A (next A s k) cs before after c r (cc) in
    subst (λ (w : Call × Reply). Cut A s (w ∷ before) c r after) h
    (record { first = ap (λ (t : Trace). (k, reply A s k) ∷ t) i.first; replied = i.replied; rest = i.rest; last = i.last })

pub final-append : (A : ℕ) (s : State) (cs ds : List Call) → final A s (cs ++ ds) ≡ final A (final A s cs) ds
final-append A s [] ds = refl
final-append A s (c ∷ cs) ds = final-append A (next A s c) cs ds

pub trace-append : (A : ℕ) (s : State) (cs ds : List Call) → trace A s (cs ++ ds) ≡ trace A s cs ++ trace A (final A s cs) ds
trace-append A s [] ds = refl
trace-append A s (c ∷ cs) ds = ap (λ (t : Trace). (c, reply A s c) ∷ t) (trace-append A (next A s c) cs ds)

pub calls-trace : (A : ℕ) (s : State) (cs : List Call) → calls (trace A s cs) ≡ cs
calls-trace A s [] = refl
calls-trace A s (c ∷ cs) = ap (λ (l : List Call). c ∷ l) (calls-trace A (next A s c) cs)
