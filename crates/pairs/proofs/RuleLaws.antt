-- The library's test of each element is the definition's. Assumes nothing.
use Prim.Native.Nat.{ℕ}
use mathlib.Core.Path.{◌≡◌, refl, ap}
use mathlib.Core.Bool.{Bool, ◌&&◌}
use mathlib.Core.List.{List, [], ◌∷◌}
use Rattle.std.specs.List.{list_all}
use Rattle.machine.specs.Pairs.{every}

pub all_every : (f : ℕ → Bool) (xs : List ℕ) → list_all f xs ≡ every f xs
all_every f [] = refl
all_every f (x ∷ xs) = ap (λ (b : Bool). f x && b) (all_every f xs)
