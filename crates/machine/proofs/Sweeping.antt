-- What the ABORTs of a sweep leave, and that each is of an open upload.
-- Assumes nothing.
use Prim.Native.Nat.{ℕ, zero, suc}
use mathlib.Core.Path.{◌≡◌, refl, sym, ap, ◌∙◌, subst}
use mathlib.Core.Bool.{Bool, true, false, ◌||◌, false≢true}
use mathlib.Core.List.{List, [], ◌∷◌, map}
use mathlib.Core.Option.{Option, none, some}
use borrow.Author.Tests.{eqb-true, eqb-false}
use lib.Dec.{eqb}
use lib.ListN.{take}
use Rattle.base_order.proofs.OrderLaws.{numbers}
use Rattle.machine.specs.Map.{Map, by_number, lookup, remove, Ascending}
use Rattle.machine.specs.State.{Upload, State, with_u, without_upload}
use Rattle.machine.specs.Calls.{nothing, no_buffers, badRequest, accept, given}
use Rattle.machine.specs.Steps.{abort_at, due, to_sweep, after_aborts, after}
use Rattle.machine.specs.ListFits.{member}
use Rattle.machine.proofs.MapLaws.{lookup-remove, lookup-remove-other, remove_absent, ascending-remove}
use Rattle.machine.proofs.MapKeep.{keep-first}

-- refused or not, the upload is not open after its ABORT, and all else is as it was
pub abort-leaves : (s : State) (u : ℕ) → after s (abort_at s u) ≡ without_upload s u
unfolding abort_at given
abort-leaves s u = go (lookup by_number u s.U) refl
  where
    go : (o : Option Upload) → lookup by_number u s.U ≡ o → after s (given o badRequest λ x. accept nothing no_buffers (without_upload s u)) ≡ without_upload s u
    go none e = ap (with_u s) (sym (remove_absent numbers u s.U e))
    go (some x) e = refl

-- no ABORT changes an object
pub aborts-objects : (s : State) (us : List ℕ) → (after_aborts s us).O ≡ s.O
aborts-objects s [] = refl
aborts-objects s (u ∷ us) = aborts-objects (after s (abort_at s u)) us ∙ ap (λ (z : State). z.O) (abort-leaves s u)

-- an open upload's ABORT is accepted
pub abort-accepted : (s : State) (u : ℕ) (x : Upload) → lookup by_number u s.U ≡ some x → abort_at s u ≡ accept nothing no_buffers (without_upload s u)
unfolding abort_at given
abort-accepted s u x e = rw e

-- the first that is due is open, and after its ABORT the others are due
pub first-due : (t u : ℕ) (x : Upload) (rest m : Map ℕ Upload) → Ascending by_number m → due t m ≡ (u, x) ∷ rest →
    (lookup by_number u m ≡ some x) × (due t (remove by_number u m) ≡ rest)
unfolding due
first-due t u x rest m a e = keep-first numbers _ u x rest m a e

-- one ABORT, and those of a sweep of one upload less
pub one-swept : (t n u : ℕ) (x : Upload) (rest : Map ℕ Upload) (s : State) → Ascending by_number s.U → due t s.U ≡ (u, x) ∷ rest →
    to_sweep t (suc n) s.U ≡ u ∷ to_sweep t n (without_upload s u).U
one-swept t n u x rest s a e =
    ap (λ (d : Map ℕ Upload). map (λ (w : ℕ × Upload). w.0) (take (suc n) d)) e
    ∙ ap (λ (d : Map ℕ Upload). u ∷ map (λ (w : ℕ × Upload). w.0) (take n d)) (sym (first-due t u x rest s.U a e).1)

-- An upload that a sweep aborts --------------------------------------------------------------------------------------------

-- one that is not open stays so
out-after : (u v : ℕ) (m : Map ℕ Upload) → Ascending by_number m → lookup by_number u m ≡ none → lookup by_number u (remove by_number v m) ≡ none
out-after u v m a e = go (eqb u v) refl
  where
    go : (b : Bool) → eqb u v ≡ b → lookup by_number u (remove by_number v m) ≡ none
    go true q = rw (eqb-true u v q) (lookup-remove numbers v m a)
    go false q = lookup-remove-other numbers u v m a (eqb-false u v q) ∙ e

stays-gone : (u : ℕ) (us : List ℕ) (s : State) → Ascending by_number s.U → lookup by_number u s.U ≡ none → lookup by_number u (after_aborts s us).U ≡ none
stays-gone u [] s a e = e
stays-gone u (v ∷ us) s a e =
    subst (λ (z : State). lookup by_number u (after_aborts z us).U ≡ none) (sym (abort-leaves s v))
    (stays-gone u us (without_upload s v) (ascending-remove numbers v s.U a) (out-after u v s.U a e))

-- it was open, and is not after the sweep
abbrev Ends : (u : ℕ) (s : State) (us : List ℕ) → Type 0
Ends u s us = (x : Upload) × (lookup by_number u s.U ≡ some x) × (lookup by_number u (after_aborts s us).U ≡ none)

one-ends : (u v : ℕ) (x : Upload) (us : List ℕ) (s : State) → Ascending by_number s.U → lookup by_number v s.U ≡ some x → member u (v ∷ us) ≡ true
    → (member u us ≡ true → Ends u (without_upload s v) us) → Ends u s (v ∷ us)
one-ends u v x us s a e h more =
    let w = go (eqb u v) refl h in
    (w.0, w.1, subst (λ (z : State). lookup by_number u (after_aborts z us).U ≡ none) (sym (abort-leaves s v)) w.2)
  where
    go : (b : Bool) → eqb u v ≡ b → b || member u us ≡ true
        → (y : Upload) × (lookup by_number u s.U ≡ some y) × (lookup by_number u (after_aborts (without_upload s v) us).U ≡ none)
    go true q h =
        let is = eqb-true u v q in
        (x, rw is e, rw is (stays-gone v us (without_upload s v) (ascending-remove numbers v s.U a) (lookup-remove numbers v s.U a)))
    go false q h = let w = more h in (w.0, sym (lookup-remove-other numbers u v s.U a (eqb-false u v q)) ∙ w.1, w.2)

pub swept-ends : (t u n : ℕ) (s : State) → Ascending by_number s.U → member u (to_sweep t n s.U) ≡ true → Ends u s (to_sweep t n s.U)
swept-ends t u zero s a h = absurd (false≢true h)
swept-ends t u (suc n) s a h = go (due t s.U) refl λ v. swept-ends t u n (without_upload s v) (ascending-remove numbers v s.U a)
  where
    go : (d : Map ℕ Upload) → due t s.U ≡ d
        → ((v : ℕ) → member u (to_sweep t n (without_upload s v).U) ≡ true → Ends u (without_upload s v) (to_sweep t n (without_upload s v).U))
        → Ends u s (to_sweep t (suc n) s.U)
    go [] e more = absurd (false≢true (rw e at h))
    go ((v, x) ∷ rest) e more =
        let is = one-swept t n v x rest s a e in
        rw is (one-ends u v x (to_sweep t n (without_upload s v).U) s a (first-due t v x rest s.U a e).0 (rw is at h) (more v))
