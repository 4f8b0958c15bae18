-- Document 02, E4, of every two runs from memory that stands for one state, so from FRESH too. Assumes nothing.
use Prim.Native.Nat.{ℕ}
use mathlib.Core.Path.{◌≡◌, refl, sym, ap, ◌∙◌, subst}
use lib.ListN.{length}
use Rattle.machine.specs.State.{State, fresh}
use Rattle.machine.specs.Lists.{Trace, trace, final}
use Rattle.machine.specs.Demand3.{calls}
use Rattle.machine.specs.Swaps.{Swaps, Moved, writing}
use Rattle.machine.proofs.Swaps.{same_end}
use Rattle.mem_layout.specs.Memory.{Stands}
use Rattle.call_contract.specs.Made.{Memory}
use Rattle.store_history.specs.Runs.{Run, FromFresh}
use Rattle.store_history.specs.Swaps.{BothStand, SwappedRuns}
use Rattle.store_history.proofs.Running.{agrees}

-- E4 of two runs
pub swapped-runs : (A : ℕ) (s : State) (t u : Trace) (m n m' n' : Memory) → BothStand A s m n → Run t m m' → Run u n n'
    → Swaps A s (calls t) (calls u) → SwappedRuns A t m' u n'
swapped-runs A s t u m n m' n' h p q w =
    let a = agrees s h.first p in
    let b = agrees s h.second q in
    let e = same_end A s (rw h.first-arena at h.first.valid) w in
    let x : t ≡ trace A s (calls t) = rw h.first-arena at a.answers in
    let y : u ≡ trace A s (calls u) = rw h.second-arena at b.answers in
    record {
      state = final A s (calls t);
      ends = record {
        first = rw h.first-arena at a.stands;
        second = subst (Stands n'.tables n'.arena) e.state (rw h.second-arena at b.stands);
        first-arena = a.arena ∙ h.first-arena;
        second-arena = b.arena ∙ h.second-arena;
      };
      replies = subst (λ (z : Trace). Moved z u) (sym x) (subst (Moved (trace A s (calls t))) (sym y) e.replies);
      logs = λ path. ap (writing path) y ∙ e.logs path ∙ sym (ap (writing path) x);
    }

-- E4 of two runs from FRESH, each over memory of its own
pub swapped-from-fresh : (A : ℕ) (t u : Trace) (m n : Memory) → FromFresh A t m → FromFresh A u n → Swaps A fresh (calls t) (calls u) → SwappedRuns A t m u n
swapped-from-fresh A t u m n f g w =
    swapped-runs A fresh t u f.start g.start m n
    (record {
      first = f.fresh.bytes refl;
      second = g.fresh.bytes refl;
      first-arena = ap length f.fresh.arena ∙ f.arena;
      second-arena = ap length g.fresh.arena ∙ g.arena;
    })
    f.run g.run w
