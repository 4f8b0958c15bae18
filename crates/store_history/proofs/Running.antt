-- A run answers as the machine does, and leaves memory that stands for the machine's state. Assumes nothing.
use Prim.Native.Nat.{ℕ}
use native.Mathlib.Decide.{ℕ_discrete}
use mathlib.Core.Path.{◌≡◌, refl, sym, ap, ap₂, ◌∙◌, subst}
use mathlib.Core.Bool.{true}
use mathlib.Core.List.{[], ◌∷◌, ◌++◌}
use lib.ListN.{length}
use Rattle.machine.specs.State.{State, fresh}
use Rattle.machine.specs.Calls.{Call, Reply}
use Rattle.machine.specs.Steps.{reply, next}
use Rattle.machine.specs.Lists.{Trace, trace, final}
use Rattle.machine.specs.Demand3.{calls}
use Rattle.mem_layout.specs.Memory.{Stands}
use Rattle.mem_layout.proofs.StandsLaws.{stands-state, stands-whole}
use Rattle.call_contract.specs.Made.{Memory, whole_memory, state_in, meant_reply, meant_state, Made}
use Rattle.store_history.specs.Runs.{Run, stop, call, FromFresh}

-- one call over memory that stands for s
pub record Stepped (s : State) (c : Call) (m : Memory) (r : Reply) (m' : Memory) : Type 0 where
  pub answer : r ≡ reply (length m.arena) s c
  pub stands : Stands m'.tables m'.arena (next (length m.arena) s c)

pub steps : (s : State) (c : Call) (m : Memory) (r : Reply) (m' : Memory) → Stands m.tables m.arena s → Made c m r m' → Stepped s c m r m'
unfolding meant_reply meant_state
steps s c m r m' h made =
    let w : whole_memory m ≡ true = stands-whole m.tables m.arena s h in
    let e : state_in m ≡ s = stands-state m.tables m.arena s h in
    let q : meant_state c m ≡ next (length m.arena) s c = rw (w, e) in
    let a : meant_reply c m ≡ reply (length m.arena) s c = rw (w, e) in
    record { answer = made.answers ∙ a; stands = go e q (ℕ_discrete r.result 0) }
  where
    go : state_in m ≡ s → meant_state c m ≡ next (length m.arena) s c → Dec (r.result ≡ 0) → Stands m'.tables m'.arena (next (length m.arena) s c)
    go e q (yes z) = rw q at (made.bytes z)
    go e q (no z) =
        let same = made.refusal z in
        let kept : s ≡ next (length m.arena) s c = sym e ∙ ap state_in (sym same) ∙ made.state ∙ q in
        subst (λ (x : State). Stands m'.tables m'.arena x) kept (rw same h)

-- a run over memory that stands for s
pub record Agrees (s : State) (t : Trace) (m m' : Memory) : Type 0 where
  pub answers : t ≡ trace (length m.arena) s (calls t)
  pub stands : Stands m'.tables m'.arena (final (length m.arena) s (calls t))
  pub arena : length m'.arena ≡ length m.arena

pub agrees : {t : Trace} {m m' : Memory} (s : State) → Stands m.tables m.arena s → Run t m m' → Agrees s t m m'
agrees s h stop = record { answers = refl; stands = h; arena = refl }
agrees s h (call {c} {r} {t} {m} {m₁} {m₂} made rest) =
    let one = steps s c m r m₁ h made in
    let l = made.arena-length in
    let later = agrees (next (length m.arena) s c) one.stands rest in
    record {
      answers = ap₂ (λ (x : Reply) (y : Trace). (c, x) ∷ y) one.answer (rw l at later.answers);
      stands = rw l at later.stands;
      arena = later.arena ∙ l;
    }

-- a run cut in two
pub record Halves (t₁ t₂ : Trace) (m m' : Memory) : Type 0 where
  pub between : Memory
  pub first : Run t₁ m between
  pub second : Run t₂ between m'

pub halves : (t₁ t₂ : Trace) (m m' : Memory) → Run (t₁ ++ t₂) m m' → Halves t₁ t₂ m m'
halves [] t₂ m m' r = record { between = m; first = stop; second = r }
halves (e ∷ t₁) t₂ m m' (call {m₁} {m₂} made rest) =
    let h = halves t₁ t₂ m₁ m₂ rest in
    record { between = h.between; first = call made h.first; second = h.second }

-- a run from FRESH
pub from-fresh : (A : ℕ) (t : Trace) (m : Memory) (f : FromFresh A t m) → (t ≡ trace A fresh (calls t)) × Stands m.tables m.arena (final A fresh (calls t))
from-fresh A t m f =
    let a = agrees fresh (f.fresh.bytes refl) f.run in
    let l : length f.start.arena ≡ A = ap length f.fresh.arena ∙ f.arena in
    (rw l at a.answers, rw l at a.stands)
