-- SWEEP does what its single ABORT calls do, from any state and amid any list; in a valid state each of them is accepted.
-- Assumes nothing.
use Prim.Native.Nat.{ℕ, zero, suc}
use mathlib.Core.Path.{◌≡◌, refl, sym, ap, ◌∙◌, subst}
use mathlib.Core.Bool.{Bool, true, false, false≢true}
use mathlib.Core.List.{List, [], ◌∷◌, map}
use lib.ListN.{take, length-take, length-map}
use Rattle.base_order.proofs.OrderLaws.{numbers}
use Rattle.machine.specs.Map.{Map, by_number, Ascending}
use Rattle.machine.specs.State.{Upload, State, fresh, without_upload}
use Rattle.machine.specs.Calls.{Call, SWEEP, nothing, no_buffers, badRequest, Answer, accept, Outcome, ◌else◌then◌}
use Rattle.machine.specs.Steps.{abort_at, due, to_sweep, after_aborts, act, reply_of, after}
use Rattle.machine.specs.Lists.{trace, final}
use Rattle.machine.specs.Demand3.{accepted}
use Rattle.machine.specs.Sweep.{single_aborts, AllAccepted, AsAborts, SweptAmidAnyList}
use Rattle.machine.proofs.MapLaws.{ascending-remove}
use Rattle.machine.proofs.Sweeping.{aborts-objects, abort-accepted, first-due, one-swept}
use Rattle.machine.proofs.InPlace.{same-in-place}

module _ (A : ℕ) where
  pub aborts-final : (s : State) (us : List ℕ) → after_aborts s us ≡ final A s (single_aborts us)
  unfolding act
  aborts-final s [] = refl
  aborts-final s (u ∷ us) = aborts-final (after s (abort_at s u)) us

  all-accepted : (t n : ℕ) (s : State) → Ascending by_number s.U → AllAccepted (trace A s (single_aborts (to_sweep t n s.U)))
  unfolding act
  all-accepted t zero s a = tt
  all-accepted t (suc n) s a = go (due t s.U) refl λ u. all-accepted t n (without_upload s u) (ascending-remove numbers u s.U a)
    where
      go : (d : Map ℕ Upload) → due t s.U ≡ d → ((u : ℕ) → AllAccepted (trace A (without_upload s u) (single_aborts (to_sweep t n (without_upload s u).U))))
          → AllAccepted (trace A s (single_aborts (to_sweep t (suc n) s.U)))
      go [] e more = subst (λ (us : List ℕ). AllAccepted (trace A s (single_aborts us))) (sym (ap (λ (m : Map ℕ Upload). map (λ (w : ℕ × Upload). w.0) (take (suc n) m)) e)) tt
      go ((u, x) ∷ rest) e more =
          let f = first-due t u x rest s.U a e in
          subst (λ (us : List ℕ). AllAccepted (trace A s (single_aborts us))) (sym (one-swept t n u x rest s a e))
          (rw (abort-accepted s u x f.0) (refl, more u))

-- the call's check: accepted, it leaves s'; refused, it changes nothing
checked : (s s' : State) (x : Answer) (ok : Bool) →
    let o : Outcome = ok else badRequest then accept x no_buffers s' in
    (accepted (reply_of no_buffers o) ≡ true → (after s o ≡ s') × (reply_of no_buffers o ≡ record { result = 0; answer = x; buffers = no_buffers }))
    × (s'.O ≡ s.O → (after s o).O ≡ s.O)
    × (accepted (reply_of no_buffers o) ≡ false → (after s o ≡ s) × (reply_of no_buffers o ≡ record { result = 2; answer = nothing; buffers = no_buffers }))
unfolding ◌else◌then◌
checked s s' x true = (λ _. (refl, refl), λ e. e, λ h. absurd (false≢true (sym h)))
checked s s' x false = (λ h. absurd (false≢true h), λ _. refl, λ _. (refl, refl))

pub as-aborts : (A : ℕ) (s : State) (t n : ℕ) → AsAborts A s t n
unfolding act
as-aborts A s t n =
    let us = to_sweep t n s.U in
    let h = checked s (after_aborts s us) _ _ in
    record {
      state = λ a. (h.0 a).0 ∙ aborts-final A s us;
      replies = λ a. (h.0 a).1;
      count = length-map (take n (due t s.U)) (λ (e : ℕ × Upload). e.0) ∙ length-take n (due t s.U);
      each-accepted = λ v. all-accepted A t n s v.uploads;
      objects = h.1 (aborts-objects s us);
      refused = h.2;
    }

pub swept-amid-any-list : (A : ℕ) (before : List Call) (t n : ℕ) (later : List Call) → SweptAmidAnyList A before t n later
swept-amid-any-list A before t n later h =
    let s = final A fresh before in
    same-in-place A before (SWEEP t n) (single_aborts (to_sweep t n s.U)) later ((as-aborts A s t n).state h)
