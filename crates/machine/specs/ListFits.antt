-- COMMIT's part list as a test that code can run. `proofs/ListFits.antt` shows it to be what `take_listed` asks. Assumes nothing.
use Rattle.std.specs.Prelude.{ℕ, Bool, true, false, ◌&&◌, ◌||◌, not, List, [], ◌∷◌, map, eqb, length}
use Rattle.std.proofs.Math.Option.{Option, none, some}
use Rattle.machine.specs.Map.{is_some, Map, by_number, lookup}
use Rattle.machine.specs.State.{Part}

-- n stands in the list
abbrev pub member : ℕ → List ℕ → Bool
member n [] = false
member n (k ∷ ks) = eqb n k || member n ks

-- no number stands in the list twice
abbrev pub distinct : List ℕ → Bool
distinct [] = true
distinct (n ∷ ns) = not (member n ns) && distinct ns

module _ {X : Type 0} where
  -- each number is a key
  abbrev pub all_found : Map ℕ X → List ℕ → Bool
  all_found m [] = true
  all_found m (n ∷ ns) = is_some (lookup by_number n m) && all_found m ns

  -- as many numbers as keys, each is a key, and none is listed twice
  unfoldable pub list_fits : List ℕ → Map ℕ X → Bool
  list_fits ns m = eqb (length ns) (length m) && all_found m ns && distinct ns

-- the part at a number, an empty one where there is none
abbrev pub or_empty : Option Part → Part
or_empty none = record { content = []; digest = [] }
or_empty (some x) = x

-- the parts at the listed numbers
abbrev pub listed_parts : Map ℕ Part → List ℕ → List Part
listed_parts m ns = map (λ (n : ℕ). or_empty (lookup by_number n m)) ns
