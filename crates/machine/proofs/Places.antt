-- What the DELETE of a path and of name places leaves, and that it does not depend on the uploads.
-- Assumes nothing.
use mathlib.Core.Path.{◌≡◌, refl, ap, ap₂, ◌∙◌}
use mathlib.Core.Bool.{Bool, true, false}
use mathlib.Core.List.{List, [], ◌∷◌, ◌++◌}
use mathlib.Core.Option.{Option, none, some}
use Prim.Native.Nat.{ℕ, suc}
use lib.ListN.{length, take, drop}
use Rattle.machine.specs.Map.{Map}
use Rattle.machine.specs.Names.{Bytes}
use Rattle.machine.specs.State.{Object, Upload, State, with_u, without_object}
use Rattle.machine.specs.Calls.{NamePlace, nothing, no_buffers, badRequest, notFound, Outcome, accept, ◌else◌then◌, given}
use Rattle.machine.specs.Steps.{delete_at, delete_place, place_results, after_places, reply_of, after}
use Rattle.machine.proofs.Outcome.{Then, then-accept, then-else, then-given}

-- the bytes of the name buffer where the place is
abbrev pub placed : (names : Bytes) → NamePlace → Bytes
placed names p = take p.length (drop p.start names)

-- accepted, the path leaves O
pub then-delete : (s : State) (p : Bytes) → Then (λ r out s'. (r ≡ nothing) × (s' ≡ without_object s p)) (delete_at s p)
unfolding delete_at
then-delete s p = then-else _ _ _ _ λ _. then-given _ _ _ _ λ x _. then-accept _ _ _ _ (refl, refl)

pub then-place : (s : State) (names : Bytes) (p : NamePlace) → Then (λ r out s'. (r ≡ nothing) × (s' ≡ without_object s (placed names p))) (delete_place s names p)
unfolding delete_place
then-place s names p = then-else _ _ _ _ λ _. then-delete s (placed names p)

-- Places one after the other ------------------------------------------------------------------------------------------

pub length-results : (s : State) (names : Bytes) (ps : List NamePlace) → length (place_results s names ps) ≡ length ps
length-results s names [] = refl
length-results s names (p ∷ ps) = ap suc (length-results (after s (delete_place s names p)) names ps)

-- one place more
pub after_more : (s : State) (names : Bytes) (ps : List NamePlace) (p : NamePlace) →
    after_places s names (ps ++ p ∷ []) ≡ after (after_places s names ps) (delete_place (after_places s names ps) names p)
after_more s names [] p = refl
after_more s names (q ∷ ps) p = after_more (after s (delete_place s names q)) names ps p

pub results-more : (s : State) (names : Bytes) (ps : List NamePlace) (p : NamePlace) →
    place_results s names (ps ++ p ∷ []) ≡ place_results s names ps ++ (reply_of no_buffers (delete_place (after_places s names ps) names p)).result ∷ []
results-more s names [] p = refl
results-more s names (q ∷ ps) p =
    ap (λ (l : Bytes). (reply_of no_buffers (delete_place s names q)).result ∷ l) (results-more (after s (delete_place s names q)) names ps p)

-- With other uploads ---------------------------------------------------------------------------------------------------

-- the same result, and the state after with those uploads
pub record SameBut (m : Map ℕ Upload) (s : State) (o o' : Outcome) : Type 0 where
  pub result : (reply_of no_buffers o').result ≡ (reply_of no_buffers o).result
  pub state : after (with_u s m) o' ≡ with_u (after s o) m
  pub uploads : (after s o).U ≡ s.U

module _ (m : Map ℕ Upload) (s : State) (names : Bytes) (p : NamePlace) where
  -- the checks of a place, one after the other
  checked : State → (inside ok : Bool) → Option Object → Outcome
  checked t inside ok x = inside else badRequest then ok else badRequest then given x notFound λ _. accept nothing no_buffers (without_object t (placed names p))

  same-checked : (inside ok : Bool) (x : Option Object) → SameBut m s (checked s inside ok x) (checked (with_u s m) inside ok x)
  unfolding checked ◌else◌then◌ given
  same-checked false ok x = record { result = refl; state = refl; uploads = refl }
  same-checked true false x = record { result = refl; state = refl; uploads = refl }
  same-checked true true none = record { result = refl; state = refl; uploads = refl }
  same-checked true true (some x) = record { result = refl; state = refl; uploads = refl }

  place_same : SameBut m s (delete_place s names p) (delete_place (with_u s m) names p)
  unfolding delete_place delete_at checked
  place_same = same-checked _ _ _

pub places-uploads : (s : State) (names : Bytes) (ps : List NamePlace) → (after_places s names ps).U ≡ s.U
places-uploads s names [] = refl
places-uploads s names (p ∷ ps) = places-uploads (after s (delete_place s names p)) names ps ∙ (place_same s.U s names p).uploads

pub places-results : (m : Map ℕ Upload) (s : State) (names : Bytes) (ps : List NamePlace) → place_results (with_u s m) names ps ≡ place_results s names ps
places-results m s names [] = refl
places-results m s names (p ∷ ps) =
    let h = place_same m s names p in
    ap₂ (λ (n : ℕ) (l : List ℕ). n ∷ l) h.result (ap (λ (z : State). place_results z names ps) h.state ∙ places-results m (after s (delete_place s names p)) names ps)

pub places-state : (m : Map ℕ Upload) (s : State) (names : Bytes) (ps : List NamePlace) → after_places (with_u s m) names ps ≡ with_u (after_places s names ps) m
places-state m s names [] = refl
places-state m s names (p ∷ ps) =
    ap (λ (z : State). after_places z names ps) (place_same m s names p).state ∙ places-state m (after s (delete_place s names p)) names ps
