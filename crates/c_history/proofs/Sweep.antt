-- From C: a list with an accepted SWEEP answers and ends as one with its single ABORTs in its place. Assumes nothing.
use Prim.Native.Nat.{ℕ}
use mathlib.Core.Path.{◌≡◌}
use mathlib.Core.Bool.{true}
use mathlib.Core.List.{List, ◌∷◌, ◌++◌}
use Rattle.machine.specs.State.{fresh}
use Rattle.machine.specs.Calls.{SWEEP, Reply}
use Rattle.machine.specs.Steps.{to_sweep}
use Rattle.machine.specs.Lists.{Trace, final}
use Rattle.machine.specs.Demand3.{accepted, calls}
use Rattle.machine.specs.Sweep.{single_aborts}
use Rattle.call_contract.specs.Made.{Memory}
use Rattle.store_history.specs.Sweep.{SameAsAborts}
use Rattle.store_history.proofs.Sweep as history
use Rattle.c_history.specs.Events.{Event, heard}
use Rattle.c_history.specs.Lists.{CFromFresh}
use Rattle.c_history.proofs.Demand3.{from-fresh}

pub same-as-aborts : (A : ℕ) (es : List Event) (m : Memory) → CFromFresh A es m → (es₂ : List Event) (m₂ : Memory) → CFromFresh A es₂ m₂ →
    (before later : Trace) (stamp most : ℕ) (r : Reply) → heard es ≡ before ++ (SWEEP stamp most, r) ∷ later → accepted r ≡ true →
    calls (heard es₂) ≡ calls before ++ (single_aborts (to_sweep stamp most (final A fresh (calls before)).U) ++ calls later) →
    SameAsAborts A before stamp most r later m (heard es₂) m₂
same-as-aborts A es m f es₂ m₂ f₂ = history.same-as-aborts A (heard es) m (from-fresh A es m f) (heard es₂) m₂ (from-fresh A es₂ m₂ f₂)
