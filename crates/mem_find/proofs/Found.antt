-- What a lookup found, and what an option is, where it is known whether it holds a value. Assumes nothing.
use Prim.Native.Nat.{ℕ}
use mathlib.Core.Path.{◌≡◌, refl, sym, ap, ◌∙◌}
use mathlib.Core.Bool.{Bool, true, false, false≢true}
use mathlib.Core.List.{List}
use mathlib.Core.Option.{Option, none, some}
use Rattle.base_order.specs.Order.{by_bytes}
use Rattle.machine.specs.Map.{is_some, lookup}
use Rattle.machine.specs.State.{State}
use Rattle.mem_find.specs.declared.Lookup.{Lookup}
use Rattle.mem_find.specs.Places.{object_place}

pub is-some : {X : Type 0} (o : Option X) → is_some o ≡ true → (x : X) × (o ≡ some x)
is-some none e = absurd (false≢true e)
is-some (some x) e = (x, refl)

pub is_none : {X : Type 0} (o : Option X) → is_some o ≡ false → o ≡ none
is_none none e = refl
is_none (some x) e = cc

-- the place says whether there is an object at the path
pub place_found : (s : State) (p : List ℕ) (place : Lookup) (b : Bool) → place ≡ object_place s p → place.found ≡ b → is_some (lookup by_bytes p s.O) ≡ b
unfolding object_place
place_found s p place b is e = sym (ap (λ (x : Lookup). x.found) is) ∙ e
