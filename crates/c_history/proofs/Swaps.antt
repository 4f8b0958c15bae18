-- From C: two lists of exported calls, where what C hears of one comes from the other by swaps. Assumes nothing.
use Prim.Native.Nat.{ℕ}
use mathlib.Core.List.{List}
use Rattle.machine.specs.State.{fresh}
use Rattle.machine.specs.Demand3.{calls}
use Rattle.machine.specs.Swaps.{Swaps}
use Rattle.call_contract.specs.Made.{Memory}
use Rattle.store_history.specs.Swaps.{SwappedRuns}
use Rattle.store_history.proofs.Swaps as history
use Rattle.c_history.specs.Events.{Event, heard}
use Rattle.c_history.specs.Lists.{CFromFresh}
use Rattle.c_history.proofs.Demand3.{from-fresh}

pub swapped-from-fresh : (A : ℕ) (es es₂ : List Event) (m m₂ : Memory) → CFromFresh A es m → CFromFresh A es₂ m₂ →
    Swaps A fresh (calls (heard es)) (calls (heard es₂)) → SwappedRuns A (heard es) m (heard es₂) m₂
swapped-from-fresh A es es₂ m m₂ f f₂ = history.swapped-from-fresh A (heard es) (heard es₂) m m₂ (from-fresh A es m f) (from-fresh A es₂ m₂ f₂)
