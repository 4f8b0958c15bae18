-- What follows where a step through options or tests succeeds.
-- Assumes nothing.
use Prim.Native.Nat.{ℕ}
use mathlib.Core.Path.{◌≡◌, refl}
use mathlib.Core.Bool.{Bool, true, false, ◌&&◌}
use mathlib.Core.Option.{Option, none, some}
use native.Mathlib.Omega.{arith}
use Rattle.machine.specs.Map.{mapped, also}

pub both : (a b : Bool) → a && b ≡ true → (a ≡ true) × (b ≡ true)
both true b h = (refl, h)
both false b h = (h, cc)

pub and-true : (a : Bool) → a && true ≡ a
and-true true = refl
and-true false = refl

pub none-some : {X : Type 0} {x : X} → none ≡ some x → ⊥
none-some h = let z : ◌≡◌ {A = ℕ} 0 1 = cc in omega arith

pub also-some : {X Y : Type 0} (o : Option X) (f : X → Option Y) (y : Y) → also o f ≡ some y → (x : X) × (o ≡ some x) × (f x ≡ some y)
also-some none f y h = absurd (none-some h)
also-some (some x) f y h = (x, refl, h)

pub mapped-some : {X Y : Type 0} (f : X → Y) (o : Option X) (y : Y) → mapped f o ≡ some y → (x : X) × (o ≡ some x) × (f x ≡ y)
mapped-some f none y h = absurd (none-some h)
mapped-some f (some x) y h = (x, refl, cc)
