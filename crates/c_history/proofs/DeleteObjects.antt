-- From C: a list with an accepted DELETE_OBJECTS answers and ends as one with its single deletes in its place. Assumes nothing.
use Prim.Native.Nat.{ℕ}
use mathlib.Core.Path.{◌≡◌}
use mathlib.Core.Bool.{true}
use mathlib.Core.List.{List, ◌∷◌, ◌++◌}
use Rattle.machine.specs.Names.{Bytes}
use Rattle.machine.specs.Calls.{DELETE-OBJECTS, NamePlace, Reply}
use Rattle.machine.specs.Lists.{Trace}
use Rattle.machine.specs.Demand3.{accepted, calls}
use Rattle.machine.specs.DeleteObjects.{single_deletes}
use Rattle.call_contract.specs.Made.{Memory}
use Rattle.store_history.specs.DeleteObjects.{SameAsDeletes}
use Rattle.store_history.proofs.DeleteObjects as history
use Rattle.c_history.specs.Events.{Event, heard}
use Rattle.c_history.specs.Lists.{CFromFresh}
use Rattle.c_history.proofs.Demand3.{from-fresh}

pub same-as-deletes : (A : ℕ) (es : List Event) (m : Memory) → CFromFresh A es m → (es₂ : List Event) (m₂ : Memory) → CFromFresh A es₂ m₂ →
    (before later : Trace) (names : Bytes) (ps : List NamePlace) (left_over : ℕ) (b : Bytes) (r : Reply) →
    heard es ≡ before ++ (DELETE-OBJECTS names ps left_over b, r) ∷ later → accepted r ≡ true →
    calls (heard es₂) ≡ calls before ++ (single_deletes names ps ++ calls later) → SameAsDeletes before names ps b r later m (heard es₂) m₂
same-as-deletes A es m f es₂ m₂ f₂ = history.same-as-deletes A (heard es) m (from-fresh A es m f) (heard es₂) m₂ (from-fresh A es₂ m₂ f₂)
