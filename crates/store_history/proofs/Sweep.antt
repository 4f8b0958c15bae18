-- A run with an accepted SWEEP answers and ends as a run with its single ABORTs in its place. Assumes nothing.
use Prim.Native.Nat.{ℕ}
use mathlib.Core.Path.{◌≡◌, sym, ap, subst, ◌∙◌}
use mathlib.Core.Bool.{true}
use mathlib.Core.List.{List, ◌∷◌, ◌++◌}
use lib.Dec.{ltb}
use lib.ListN.{length, length-map}
use Rattle.machine.specs.State.{State, fresh}
use Rattle.machine.specs.Calls.{Call, ABORT, SWEEP, swept, Reply}
use Rattle.machine.specs.Steps.{due, to_sweep}
use Rattle.machine.specs.Lists.{Trace, trace, final}
use Rattle.machine.specs.Demand3.{accepted, calls}
use Rattle.machine.specs.Sweep.{single_aborts, AllAccepted}
use Rattle.machine.proofs.Traces.{calls-trace}
use Rattle.machine.proofs.Sweep.{as-aborts}
use Rattle.machine.proofs.KeepsValid.{fresh-valid, final-valid}
use Rattle.call_contract.specs.Made.{Memory}
use Rattle.store_history.specs.Runs.{FromFresh}
use Rattle.store_history.specs.Sweep.{SameAsAborts}
use Rattle.store_history.proofs.InPlace.{replied, same_runs, made-is}

trace-length : (A : ℕ) (s : State) (cs : List Call) → length (trace A s cs) ≡ length cs
trace-length A s cs = sym (length-map (trace A s cs) (λ (e : Call × Reply). e.0)) ∙ ap length (calls-trace A s cs)

pub same-as-aborts : (A : ℕ) (t : Trace) (m : Memory) → FromFresh A t m → (t₂ : Trace) (m₂ : Memory) → FromFresh A t₂ m₂ →
    (before later : Trace) (stamp most : ℕ) (r : Reply) → t ≡ before ++ (SWEEP stamp most, r) ∷ later → accepted r ≡ true →
    calls t₂ ≡ calls before ++ (single_aborts (to_sweep stamp most (final A fresh (calls before)).U) ++ calls later) →
    SameAsAborts A before stamp most r later m t₂ m₂
same-as-aborts A t m f t₂ m₂ f₂ before later stamp most r e ok e₂ =
    let c : Call = SWEEP stamp most in
    let s : State = final A fresh (calls before) in
    let us : List ℕ = to_sweep stamp most s.U in
    let h = as-aborts A s stamp most in
    let here = replied A t m f before later c r e in
    let ok' = ap accepted here ∙ ok in
    let made : trace A s (single_aborts us) ≡ _ = sym (made-is A t m f before later c r e (single_aborts us) t₂ m₂ f₂ e₂ (h.state ok')) in
    let so-many = sym (ap length made) ∙ trace-length A s (single_aborts us) ∙ length-map us ABORT ∙ h.count in
    record {
      same = same_runs A t m f before later c r e (single_aborts us) t₂ m₂ f₂ e₂ (h.state ok');
      each-accepted = subst AllAccepted made (h.each-accepted (final-valid A fresh (calls before) (fresh-valid A)));
      count = (_, ap (λ (x : Reply). x.answer) (sym here ∙ h.replies ok') ∙ ap (λ (k : ℕ). swept k (ltb most (length (due stamp s.U)))) (sym so-many));
    }
