-- A run with an accepted DELETE_OBJECTS answers and ends as a run with its single deletes in its place. Assumes nothing.
use Prim.Native.Nat.{ℕ}
use mathlib.Core.Path.{◌≡◌, sym, ap, ◌∙◌}
use mathlib.Core.Bool.{true}
use mathlib.Core.List.{List, ◌∷◌, ◌++◌}
use lib.ListN.{length, drop}
use Rattle.machine.specs.Names.{Bytes}
use Rattle.machine.specs.State.{State, fresh}
use Rattle.machine.specs.Calls.{Call, DELETE-OBJECTS, NamePlace, Reply}
use Rattle.machine.specs.Lists.{Trace, final}
use Rattle.machine.specs.Demand3.{accepted, calls}
use Rattle.machine.specs.DeleteObjects.{single_deletes, results_of}
use Rattle.machine.proofs.DeleteObjects.{as-deletes}
use Rattle.call_contract.specs.Made.{Memory}
use Rattle.store_history.specs.Runs.{FromFresh}
use Rattle.store_history.specs.DeleteObjects.{SameAsDeletes}
use Rattle.store_history.proofs.InPlace.{replied, same_runs, made-is}

pub same-as-deletes : (A : ℕ) (t : Trace) (m : Memory) → FromFresh A t m → (t₂ : Trace) (m₂ : Memory) → FromFresh A t₂ m₂ →
    (before later : Trace) (names : Bytes) (ps : List NamePlace) (left_over : ℕ) (b : Bytes) (r : Reply) →
    t ≡ before ++ (DELETE-OBJECTS names ps left_over b, r) ∷ later → accepted r ≡ true →
    calls t₂ ≡ calls before ++ (single_deletes names ps ++ calls later) → SameAsDeletes before names ps b r later m t₂ m₂
same-as-deletes A t m f t₂ m₂ f₂ before later names ps left_over b r e ok e₂ =
    let c : Call = DELETE-OBJECTS names ps left_over b in
    let s : State = final A fresh (calls before) in
    let h = as-deletes A s names ps left_over b in
    let here = replied A t m f before later c r e in
    let ok' = ap accepted here ∙ ok in
    record {
      same = same_runs A t m f before later c r e (single_deletes names ps) t₂ m₂ f₂ e₂ (h.state ok');
      buffer = ap (λ (x : Reply). x.buffers.answer) (sym here ∙ h.replies ok')
          ∙ ap (λ (x : Trace). results_of x ++ drop (length ps) b) (sym (made-is A t m f before later c r e (single_deletes names ps) t₂ m₂ f₂ e₂ (h.state ok')));
    }
