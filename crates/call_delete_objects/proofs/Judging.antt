-- What DELETE_OBJECTS' refusal shows. Assumes nothing.
use Prim.Native.Nat.{ℕ, ◌≤◌}
use mathlib.Core.Path.{◌≡◌, refl, sym, subst, ◌∙◌}
use mathlib.Core.Bool.{Bool, true, false, cond}
use mathlib.Core.List.{List, []}
use native.Mathlib.Omega.{arith}
use borrow.Author.Tests.{leb-true}
use lib.Dec.{leb, eqb}
use lib.ListN.{length}
use Rattle.machine.specs.Names.{Bytes}
use Rattle.machine.specs.State.{State}
use Rattle.machine.specs.Calls.{NamePlace, DELETE-OBJECTS, Answer, nothing, Buffers, buffers, no_buffers, accept, Outcome, tooMany, badRequest, bufferShort, ◌else◌then◌}
use Rattle.machine.specs.Steps.{act, place_results, after_places}
use Rattle.call_contract.specs.Answers.{refused}
use Rattle.base_number.specs.Number.{AreBytes}
use Rattle.mem_layout.proofs.WholeLaws.{whole-stands}
use Rattle.call_contract.specs.Made.{Memory, whole_memory, state_in, outcome, result_of, Made}
use Rattle.call_contract.proofs.MadeLaws.{one_not_zero, not-whole, judged, over-whole}
use Rattle.call_delete_objects.specs.Judged.{list_refusal, Judged}

-- The three checks -----------------------------------------------------------------------------------------------------

module _ (a : Answer) (out : Buffers) (s : State) where
  checks : (few none fits : Bool) → Outcome
  checks few none fits = few else tooMany then none else badRequest then fits else bufferShort then accept a out s

  number_is : (few none fits : Bool) → result_of (checks few none fits) ≡ cond few (cond none (cond fits 0 7) 2) 8
  unfolding checks ◌else◌then◌
  number_is false none fits = refl
  number_is true false fits = refl
  number_is true true false = refl
  number_is true true true = refl

  all-passed : (few none fits : Bool) → ◌≡◌ {A = ℕ} (cond few (cond none (cond fits 0 7) 2) 8) 0 → (fits ≡ true) × (checks few none fits ≡ accept a out s)
  unfolding checks ◌else◌then◌
  all-passed false none fits e = absurd (omega arith)
  all-passed true false fits e = absurd (omega arith)
  all-passed true true false e = absurd (omega arith)
  all-passed true true true e = (refl, refl)

-- The number ------------------------------------------------------------------------------------------------------------

module _ (count left results : ℕ) (m : Memory) where
  pub no_store : whole_memory m ≡ false → Judged count left results m 1
  no_store w = record { number = rw w; stands = λ z. absurd (one_not_zero z) }

  pub list-judged : AreBytes m.tables → whole_memory m ≡ true → (n : ℕ) → n ≡ list_refusal count left results → Judged count left results m n
  list-judged b w n e = record { number = e ∙ sym (rw w); stands = λ _. whole-stands m.tables m.arena b w }

-- The refusal ----------------------------------------------------------------------------------------------------------

module _ (count left_over results : ℕ) (m : Memory) (n : ℕ) (j : Judged count left_over results m n) where
  -- memory is whole and n the list's refusal, or n is 1
  by_whole : {P : Type 0} → (whole_memory m ≡ true → n ≡ list_refusal count left_over results → P) → (whole_memory m ≡ false → n ≡ 1 → P) → P
  by_whole {P} is isn't = go (whole_memory m) refl j.number
    where
      go : (w : Bool) → whole_memory m ≡ w → n ≡ cond w (list_refusal count left_over results) 1 → P
      go true w e = is w e
      go false w e = isn't w e

  -- accepted: memory is whole, and the results fit
  pub results-fit : n ≡ 0 → (whole_memory m ≡ true) × (count ≤ results)
  unfolding list_refusal
  results-fit z =
      by_whole
      (λ w e. (w, leb-true _ _ (all-passed nothing no_buffers (state_in m) (leb count 1000) (eqb left_over 0) (leb count results) (sym e ∙ z)).0))
      (λ w e. absurd (omega arith))

module _ (names : Bytes) (ps : List NamePlace) (left_over : ℕ) (b : Bytes) (m : Memory) (n : ℕ) (j : Judged (length ps) left_over (length b) m n) where
  abbrev results : Bytes
  results = place_results (state_in m) names ps

  abbrev last : State
  last = after_places (state_in m) names ps

  pub refused-made : (n ≡ 0 → ⊥) → Made (DELETE-OBJECTS names ps left_over b) m (refused n (buffers b [])) m
  unfolding outcome act list_refusal checks
  refused-made not =
      by_whole _ _ _ _ _ j
      (λ w e. over-whole w (judged n (e ∙ sym (number_is nothing (buffers results []) last (leb (length ps) 1000) (eqb left_over 0) (leb (length ps) (length b)))) not))
      (λ w e. subst (λ (x : ℕ). Made (DELETE-OBJECTS names ps left_over b) m (refused x (buffers b [])) m) (sym e) (not-whole w))

  -- accepted: the machine accepts
  pub accepted : n ≡ 0 → outcome (DELETE-OBJECTS names ps left_over b) m ≡ accept nothing (buffers results []) last
  unfolding outcome act list_refusal checks
  accepted z =
      by_whole _ _ _ _ _ j
      (λ w e. (all-passed nothing (buffers results []) last (leb (length ps) 1000) (eqb left_over 0) (leb (length ps) (length b)) (sym e ∙ z)).1)
      (λ w e. absurd (omega arith))
