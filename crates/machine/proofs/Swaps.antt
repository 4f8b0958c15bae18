-- Document 02, E4, for lists: swaps, one after the other, keep the state at the end and each call's reply.
-- Assumes nothing.
use Prim.Native.Nat.{ℕ}
use mathlib.Core.Path.{◌≡◌, refl, sym, ap, ap₂, ◌∙◌, subst}
use mathlib.Core.Bool.{Bool, true, false, cond, false≢true}
use mathlib.Core.List.{List, [], ◌∷◌, ◌++◌}
use mathlib.Core.Option.{Option, none, some}
use Rattle.base_order.proofs.OrderLaws.{same_true}
use Rattle.machine.specs.Map.{is_some}
use Rattle.machine.specs.Names.{Bytes}
use Rattle.machine.specs.State.{State}
use Rattle.machine.specs.Calls.{Call, Reply}
use Rattle.machine.specs.Steps.{reply, next}
use Rattle.machine.specs.Lists.{Trace, trace, final}
use Rattle.machine.specs.Valid.{Valid}
use Rattle.machine.specs.Demand3.{NeverFull}
use Rattle.machine.specs.Swaps.{writes, Apart, EitherOrder, Commute, Swaps, Moved, is_same_path, writing, SameEnd}
use Rattle.machine.specs.Swaps as swaps
use Rattle.machine.proofs.KeepsValid.{final-valid}
use Rattle.machine.proofs.Traces.{final-append, trace-append}
use Rattle.machine.proofs.Apart.{commute}

-- one swap
module _ (A : ℕ) (s : State) (v : Valid A s) (before : List Call) (c d : Call) (later : List Call) (a : Apart c d) (e : EitherOrder A (final A s before) c d) where
  here : State
  here = final A s before

  commutes : Commute A here c d
  unfolding here
  commutes = commute A here c d (final-valid A s before v) a e

  final-swap : final A s (before ++ d ∷ c ∷ later) ≡ final A s (before ++ c ∷ d ∷ later)
  unfolding here
  final-swap = final-append A s before (d ∷ c ∷ later) ∙ ap (λ (z : State). final A z later) commutes.state ∙ sym (final-append A s before (c ∷ d ∷ later))

  -- both traces, the two entries the same in both
  rest : Trace
  rest = trace A (next A (next A here c) d) later

  trace-here : trace A s (before ++ c ∷ d ∷ later) ≡ trace A s before ++ (c, reply A here c) ∷ (d, reply A here d) ∷ rest
  unfolding here rest
  trace-here =
      trace-append A s before (c ∷ d ∷ later)
      ∙ ap (λ (r : Reply). trace A s before ++ (c, reply A here c) ∷ (d, r) ∷ rest) commutes.second

  trace-swapped : trace A s (before ++ d ∷ c ∷ later) ≡ trace A s before ++ (d, reply A here d) ∷ (c, reply A here c) ∷ rest
  unfolding here rest
  trace-swapped =
      trace-append A s before (d ∷ c ∷ later)
      ∙ ap₂ (λ (r : Reply) (z : State). trace A s before ++ (d, reply A here d) ∷ (c, r) ∷ trace A z later) commutes.first commutes.state

  moved : {t : Trace} → Moved (trace A s (before ++ d ∷ c ∷ later)) t → Moved (trace A s (before ++ c ∷ d ∷ later)) t
  moved {t} m =
      subst (λ (x : Trace). Moved x t) (sym trace-here)
      (swaps.Moved.swap (trace A s before) (c, reply A here c) (d, reply A here d) rest a (subst (λ (x : Trace). Moved x t) trace-swapped m))

-- the entries of one path keep their order
path-true : (x y : Option Bytes) → is_same_path x y ≡ true → y ≡ x
path-true none none h = refl
path-true none (some q) h = absurd (false≢true h)
path-true (some p) none h = absurd (false≢true h)
path-true (some p) (some q) h = ap some (sym (same_true p q h))

not-both : (x : Option Bytes) (c d : Call) → Apart c d → writes c ≡ x → writes d ≡ x → ⊥
not-both none c d a p q = false≢true (sym (ap is_some p) ∙ a.first)
not-both (some x) c d a p q = a.both-write x p q

path-pair : (x : Option Bytes) (e f : Call × Reply) (t : Trace) → Apart e.0 f.0 → writing x (f ∷ e ∷ t) ≡ writing x (e ∷ f ∷ t)
path-pair x e f t a = go (is_same_path x (writes e.0)) (is_same_path x (writes f.0)) (path-true x (writes e.0)) (path-true x (writes f.0))
  where
    go : (y z : Bool) → (y ≡ true → writes e.0 ≡ x) → (z ≡ true → writes f.0 ≡ x) →
        cond z (f ∷ cond y (e ∷ writing x t) (writing x t)) (cond y (e ∷ writing x t) (writing x t))
        ≡ cond y (e ∷ cond z (f ∷ writing x t) (writing x t)) (cond z (f ∷ writing x t) (writing x t))
    go true true h k = absurd (not-both x e.0 f.0 a (h refl) (k refl))
    go true false h k = refl
    go false true h k = refl
    go false false h k = refl

path-swap : (x : Option Bytes) (before : Trace) (e f : Call × Reply) (later : Trace) → Apart e.0 f.0 → writing x (before ++ f ∷ e ∷ later) ≡ writing x (before ++ e ∷ f ∷ later)
path-swap x [] e f later a = path-pair x e f later a
path-swap x (g ∷ before) e f later a =
    ap (λ (t : Trace). cond (is_same_path x (writes g.0)) (g ∷ t) t) (path-swap x before e f later a)

path-moved : (x : Option Bytes) {t u : Trace} → Moved t u → writing x u ≡ writing x t
path-moved x swaps.Moved.same = refl
path-moved x (swaps.Moved.swap before e f later a m) = path-moved x m ∙ path-swap x before e f later a

-- E4's law for two lists
final-swaps : (A : ℕ) (s : State) {cs ds : List Call} → Valid A s → Swaps A s cs ds → final A s ds ≡ final A s cs
final-swaps A s v swaps.Swaps.same = refl
final-swaps A s v (swaps.Swaps.swap before c d later a e w) = final-swaps A s v w ∙ final-swap A s v before c d later a e

moved-swaps : (A : ℕ) (s : State) {cs ds : List Call} → Valid A s → Swaps A s cs ds → Moved (trace A s cs) (trace A s ds)
moved-swaps A s v swaps.Swaps.same = swaps.Moved.same
moved-swaps A s v (swaps.Swaps.swap before c d later a e w) = moved A s v before c d later a e (moved-swaps A s v w)

pub same_end : (A : ℕ) (s : State) {cs ds : List Call} → Valid A s → Swaps A s cs ds → SameEnd A s cs ds
same_end A s v w =
    let m = moved-swaps A s v w in
    record { state = final-swaps A s v w; replies = m; logs = λ x. path-moved x m }

-- where no call of either list is refused by 4 or 5, neither is one of the two calls
never-later : (A : ℕ) (s : State) (before cs : List Call) → NeverFull (trace A s (before ++ cs)) → NeverFull (trace A (final A s before) cs)
never-later A s [] cs n = n
never-later A s (c ∷ before) cs n = never-later A (next A s c) before cs n.2

pub either_order : (A : ℕ) (s : State) (before : List Call) (c d : Call) (later : List Call) →
    NeverFull (trace A s (before ++ c ∷ d ∷ later)) → NeverFull (trace A s (before ++ d ∷ c ∷ later)) → EitherOrder A (final A s before) c d
either_order A s before c d later n n' =
    let x = never-later A s before (c ∷ d ∷ later) n in
    let y = never-later A s before (d ∷ c ∷ later) n' in
    record {
      first = record { table = x.0; arena = x.1 };
      then-second = record { table = x.2.0; arena = x.2.1 };
      second = record { table = y.0; arena = y.1 };
      then-first = record { table = y.2.0; arena = y.2.1 };
    }
