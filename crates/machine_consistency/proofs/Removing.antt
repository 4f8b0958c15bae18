-- What a path has after paths were removed one after the other, as DELETE and DELETE_OBJECTS do.
-- Assumes nothing.
use Prim.Native.Nat.{ℕ}
use mathlib.Core.Path.{◌≡◌, refl, sym, ap, ◌∙◌, subst}
use mathlib.Core.Bool.{Bool, true, false, cond, ◌||◌, false≢true}
use mathlib.Core.List.{List, [], ◌∷◌, map}
use mathlib.Core.Option.{Option, none, some}
use Rattle.base_order.specs.Order.{by_bytes, same}
use Rattle.base_order.proofs.OrderLaws.{bytes, same_self, same_true}
use Rattle.machine.specs.Map.{Map, lookup, remove, Ascending, Every}
use Rattle.machine.specs.Names.{Bytes, request_path_ok}
use Rattle.machine.specs.State.{Object, State, without_object}
use Rattle.machine.specs.Calls.{NamePlace, nothing, no_buffers, badRequest, notFound, Outcome, accept, ◌else◌then◌, given}
use Rattle.machine.specs.Steps.{delete_at, delete_place, after_places, act, after}
use Rattle.machine.specs.Valid.{ObjectOk}
use Rattle.machine.specs.DeleteObjects.{name_at}
use Rattle.machine_consistency.specs.LastWrites.{among}
use Rattle.machine.proofs.MapLaws.{ascending-remove, every-remove, every-lookup, lookup-remove, lookup-remove-other}
use Rattle.machine.proofs.Rules.{stored-requested}
use Rattle.machine.proofs.DeleteObjects.{place_is}

pub differ : (p q : Bytes) → same p q ≡ false → p ≡ q → ⊥
differ p q e h = false≢true (sym e ∙ ap (same p) (sym h) ∙ same_self p)

remove-changed : (p q : Bytes) (o : Map Bytes Object) (y : Option Object) → Ascending by_bytes o → lookup by_bytes p o ≡ y →
    lookup by_bytes p (remove by_bytes q o) ≡ cond (same p q) none y
remove-changed p q o y s h = go (same p q) refl
  where
    go : (b : Bool) → same p q ≡ b → lookup by_bytes p (remove by_bytes q o) ≡ cond b none y
    go true e = rw (same_true p q e) (lookup-remove bytes q o s)
    go false e = lookup-remove-other bytes p q o s (differ p q e) ∙ h

-- Paths removed one after the other: each is gone, or it was not there. A path that breaks its rule is never there.
pub data Removed : List Bytes → Map Bytes Object → Map Bytes Object → Type 0 where
  no_more : {o : Map Bytes Object} → Removed [] o o
  gone : {qs : List Bytes} {o o' : Map Bytes Object} (q : Bytes) → Removed qs (remove by_bytes q o) o' → Removed (q ∷ qs) o o'
  absent : {qs : List Bytes} {o o' : Map Bytes Object} (q : Bytes) → (request_path_ok q ≡ true → lookup by_bytes q o ≡ none) → Removed qs o o' → Removed (q ∷ qs) o o'

either : (a b : Bool) (y : Option Object) → cond b none (cond a none y) ≡ cond (a || b) none y
either true true y = refl
either true false y = refl
either false b y = refl

not_there : (q : Bytes) (o : Map Bytes Object) → Every ObjectOk o → (request_path_ok q ≡ true → lookup by_bytes q o ≡ none) → lookup by_bytes q o ≡ none
not_there q o v h = go (lookup by_bytes q o) refl
  where
    go : (x : Option Object) → lookup by_bytes q o ≡ x → lookup by_bytes q o ≡ none
    go none e = e
    go (some x) e = h (stored-requested q (every-lookup bytes ObjectOk q x o v e).path)

pub removed-changed : (p : Bytes) {qs : List Bytes} {o o' : Map Bytes Object} → Removed qs o o' → (y : Option Object) → Ascending by_bytes o → Every ObjectOk o → lookup by_bytes p o ≡ y →
    lookup by_bytes p o' ≡ cond (among p qs) none y
removed-changed p no_more y s v h = h
removed-changed p (gone {qs} {o} q more) y s v h =
    removed-changed p more (cond (same p q) none y) (ascending-remove bytes q o s) (every-remove bytes ObjectOk q o v) (remove-changed p q o y s h)
    ∙ either (same p q) (among p qs) y
removed-changed p (absent {qs} {o} q k more) y s v h =
    removed-changed p more (cond (same p q) none y) s v (go (same p q) refl) ∙ either (same p q) (among p qs) y
  where
    go : (b : Bool) → same p q ≡ b → lookup by_bytes p o ≡ cond b none y
    go true e = rw (same_true p q e) (not_there q o v k)
    go false e = h

-- The calls ------------------------------------------------------------------------------------------------------------

-- the DELETE of a path, and what follows it
delete-removed : (s : State) (q : Bytes) {qs : List Bytes} {o : Map Bytes Object} → Removed qs (after s (delete_at s q)).O o → Removed (q ∷ qs) s.O o
unfolding delete_at ◌else◌then◌ given
delete-removed s q {qs} {o} = go (request_path_ok q) refl (lookup by_bytes q s.O) refl
  where
    go : (ok : Bool) → request_path_ok q ≡ ok → (x : Option Object) → lookup by_bytes q s.O ≡ x →
        Removed qs (after s (ok else badRequest then given x notFound λ _. accept nothing no_buffers (without_object s q))).O o → Removed (q ∷ qs) s.O o
    go false e x f h = absent q (λ t. absurd (false≢true (sym e ∙ t))) h
    go true e none f h = absent q (λ _. f) h
    go true e (some x) f h = gone q h

pub places-removed : (A : ℕ) (s : State) (names : Bytes) (ps : List NamePlace) → Removed (map (name_at names) ps) s.O (after_places s names ps).O
unfolding act
places-removed A s names [] = no_more
places-removed A s names (p ∷ ps) =
    delete-removed s (name_at names p)
    (subst (λ (o : Outcome). Removed (map (name_at names) ps) (after s o).O (after_places s names (p ∷ ps)).O) (place_is A s names p)
    (places-removed A (after s (delete_place s names p)) names ps))
