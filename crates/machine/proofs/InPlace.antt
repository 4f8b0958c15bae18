-- Calls that leave the state that a call leaves may stand in its place. Assumes nothing.
use Prim.Native.Nat.{ℕ}
use mathlib.Core.Path.{◌≡◌, sym, ap, ◌∙◌}
use mathlib.Core.List.{List, ◌∷◌, ◌++◌}
use Rattle.machine.specs.State.{State, fresh}
use Rattle.machine.specs.Calls.{Call}
use Rattle.machine.specs.Steps.{reply, next}
use Rattle.machine.specs.Lists.{Trace, trace, final}
use Rattle.machine.specs.InPlace.{SameInPlace}
use Rattle.machine.proofs.Traces.{final-append, trace-append, calls-trace}

pub same-in-place : (A : ℕ) (before : List Call) (c : Call) (ds later : List Call) →
    next A (final A fresh before) c ≡ final A (final A fresh before) ds → SameInPlace A before c ds later
same-in-place A before c ds later is =
    let there : State = final A fresh before in
    record {
      state = final-append A fresh before (c ∷ later) ∙ ap (λ (z : State). final A z later) is
          ∙ sym (final-append A fresh before (ds ++ later) ∙ final-append A there ds later);
      last = trace A (next A there c) later;
      with_call = (reply A there c, trace-append A fresh before (c ∷ later));
      with-others = (
        trace A there ds,
        calls-trace A there ds,
        trace-append A fresh before (ds ++ later)
            ∙ ap (λ (t : Trace). trace A fresh before ++ t) (trace-append A there ds later ∙ ap (λ (z : State). trace A there ds ++ trace A z later) (sym is)),
      );
    }
