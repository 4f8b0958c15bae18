-- Calls that leave what a call leaves, made in its place in another run. Assumes nothing.
use Prim.Native.Nat.{ℕ}
use mathlib.Core.Path.{◌≡◌, refl, sym, ap, ap₂, ◌∙◌}
use mathlib.Core.List.{List, ◌∷◌, ◌++◌}
use Rattle.machine.specs.State.{State, fresh}
use Rattle.machine.specs.Calls.{Call, Reply}
use Rattle.machine.specs.Steps.{reply, next}
use Rattle.machine.specs.Lists.{Trace, trace, final}
use Rattle.machine.specs.Demand3.{calls}
use Rattle.machine.proofs.Traces.{cut, trace-append, calls-trace}
use Rattle.machine.proofs.InPlace.{same-in-place}
use Rattle.mem_layout.proofs.StandsLaws.{stands-state}
use Rattle.call_contract.specs.Made.{Memory}
use Rattle.store_history.specs.Runs.{FromFresh}
use Rattle.store_history.specs.InPlace.{SameRuns}
use Rattle.store_history.proofs.Running.{from-fresh}
use Rattle.store_history.proofs.Demand3.{calls-append}

module _ (A : ℕ) (t : Trace) (m : Memory) (f : FromFresh A t m) (before later : Trace) (c : Call) (r : Reply) (e : t ≡ before ++ (c, r) ∷ later) where
  -- the machine's state where the call is made, and its reply there
  abbrev pub there : State
  there = final A fresh (calls before)

  pub replied : reply A there c ≡ r
  replied = (cut A fresh (calls t) before later c r (sym (from-fresh A t m f).0 ∙ e)).replied

  pub same_runs : (ds : List Call) (t₂ : Trace) (m₂ : Memory) → FromFresh A t₂ m₂ → calls t₂ ≡ calls before ++ (ds ++ calls later) →
      next A there c ≡ final A there ds → SameRuns before later m ds t₂ m₂
  same_runs ds t₂ m₂ f₂ e₂ is =
      let k = cut A fresh (calls t) before later c r (sym (from-fresh A t m f).0 ∙ e) in
      let after-calls : calls later ≡ k.rest = ap calls (sym k.last) ∙ calls-trace A (next A there c) k.rest in
      let last-is : trace A (final A there ds) (calls later) ≡ later = ap₂ (λ (z : State) (cs : List Call). trace A z cs) (sym is) after-calls ∙ k.last in
      record {
        state =
            stands-state _ _ _ (from-fresh A t₂ m₂ f₂).1 ∙ ap (final A fresh) e₂
            ∙ sym (stands-state _ _ _ (from-fresh A t m f).1 ∙ ap (final A fresh) (ap calls e ∙ calls-append before ((c, r) ∷ later))
            ∙ (same-in-place A (calls before) c ds (calls later) is).state);
        made = trace A there ds;
        are = calls-trace A there ds;
        answers =
            (from-fresh A t₂ m₂ f₂).0 ∙ ap (trace A fresh) e₂ ∙ trace-append A fresh (calls before) (ds ++ calls later)
            ∙ ap₂ (λ (x y : Trace). x ++ y) k.first (trace-append A there ds (calls later) ∙ ap (λ (x : Trace). trace A there ds ++ x) last-is);
      }

  -- their answers are the machine's
  pub made-is : (ds : List Call) (t₂ : Trace) (m₂ : Memory) (f₂ : FromFresh A t₂ m₂) (e₂ : calls t₂ ≡ calls before ++ (ds ++ calls later))
      (is : next A there c ≡ final A there ds) → (same_runs ds t₂ m₂ f₂ e₂ is).made ≡ trace A there ds
  unfolding same_runs
  made-is ds t₂ m₂ f₂ e₂ is = refl
