-- DELETE_OBJECTS does what its single DELETE calls do, from any state and amid any list.
-- Assumes nothing.
use Prim.Native.Nat.{ℕ, ◌+◌}
use mathlib.Core.Path.{◌≡◌, refl, sym, ap, ap₂, ◌∙◌}
use mathlib.Core.Bool.{Bool, true, false, cond, false≢true}
use mathlib.Core.List.{List, [], ◌∷◌}
use lib.Dec.{leb}
use lib.ListN.{length}
use Rattle.machine.specs.Names.{Bytes, path_ok, request_path_ok}
use Rattle.machine.specs.State.{State, fresh}
use Rattle.machine.specs.Calls.{Call, DELETE, DELETE-OBJECTS, NamePlace, nothing, buffers, no_buffers, badRequest, bufferShort, tooMany, accept, Outcome, ◌else◌then◌}
use Rattle.machine.specs.Steps.{delete_at, delete_place, place_results, after_places, act, over, reply_of, after}
use Rattle.machine.specs.Lists.{trace, final}
use Rattle.machine.specs.Demand3.{accepted}
use Rattle.machine.specs.DeleteObjects.{name_at, single_deletes, results_of, AsDeletes, AmidAnyList}
use Rattle.machine.proofs.Places.{placed, length-results}
use Rattle.machine.proofs.InPlace.{same-in-place}

-- a place is deleted as its DELETE call does
pub place_is : (A : ℕ) (s : State) (names : Bytes) (p : NamePlace) → delete_place s names p ≡ act A s (DELETE (name_at names p))
unfolding delete_place delete_at act ◌else◌then◌ path_ok request_path_ok
place_is A s names p = go (leb (p.start + p.length) (length names))
  where
    go : (b : Bool) → (b else badRequest then delete_at s (placed names p)) ≡ delete_at s (cond b (placed names p) [])
    go true = refl
    go false = refl

module _ (A : ℕ) (names : Bytes) where
  places-final : (s : State) (ps : List NamePlace) → after_places s names ps ≡ final A s (single_deletes names ps)
  places-final s [] = refl
  places-final s (p ∷ ps) =
      places-final (after s (delete_place s names p)) ps
      ∙ ap (λ (o : Outcome). final A (after s o) (single_deletes names ps)) (place_is A s names p)

  places-trace : (s : State) (ps : List NamePlace) → place_results s names ps ≡ results_of (trace A s (single_deletes names ps))
  places-trace s [] = refl
  places-trace s (p ∷ ps) =
      ap₂ (λ (n : ℕ) (l : List ℕ). n ∷ l) (ap (λ (o : Outcome). (reply_of no_buffers o).result) (place_is A s names p))
      (places-trace (after s (delete_place s names p)) ps
      ∙ ap (λ (o : Outcome). results_of (trace A (after s o) (single_deletes names ps))) (place_is A s names p))

-- the call's checks, one after the other: accepted, it leaves s' and writes `out`; refused, it changes nothing
checked : (s s' : State) (b out : Bytes) (few whole room : Bool) →
    let o : Outcome = few else tooMany then whole else badRequest then room else bufferShort then accept nothing (buffers out []) s' in
    (accepted (reply_of (buffers b []) o) ≡ true → (after s o ≡ s') × (reply_of (buffers b []) o ≡ record { result = 0; answer = nothing; buffers = buffers (over out b) [] }))
    × (accepted (reply_of (buffers b []) o) ≡ false → (after s o ≡ s) × ((reply_of (buffers b []) o).buffers ≡ buffers b []))
unfolding ◌else◌then◌
checked s s' b out true true true = (λ _. (refl, refl), λ h. absurd (false≢true (sym h)))
checked s s' b out true true false = (λ h. absurd (false≢true h), λ _. (refl, refl))
checked s s' b out true false room = (λ h. absurd (false≢true h), λ _. (refl, refl))
checked s s' b out false whole room = (λ h. absurd (false≢true h), λ _. (refl, refl))

module _ (A : ℕ) (s : State) (names : Bytes) (ps : List NamePlace) (left_over : ℕ) (b : Bytes) where
  pub as-deletes : AsDeletes A s names ps left_over b
  unfolding act
  as-deletes =
      let h = checked s (after_places s names ps) b (place_results s names ps) _ _ _ in
      record {
        state = λ a. (h.0 a).0 ∙ places-final A names s ps;
        replies = λ a. (h.0 a).1 ∙ rw (length-results s names ps, places-trace A names s ps);
        refused = h.1;
      }

pub amid-any-list : (A : ℕ) (before : List Call) (names : Bytes) (ps : List NamePlace) (left_over : ℕ) (b : Bytes) (later : List Call) → AmidAnyList A before names ps left_over b later
amid-any-list A before names ps left_over b later h =
    same-in-place A before (DELETE-OBJECTS names ps left_over b) (single_deletes names ps) later ((as-deletes A (final A fresh before) names ps left_over b).state h)
