-- A list of name places that a function gives by their index. Assumes nothing.
use Rattle.std.specs.Prelude.{ℕ, ◌≡◌, ◌<◌, List, length, get_or}
use Rattle.call_types.specs.declared.Place.{Place}
use Rattle.machine.specs.Calls.{NamePlace}
use Rattle.call_contract.specs.Answers.{name_place}
use Rattle.call_delete_objects.specs.PlaceDone.{place_of}

-- A function gives the `count` places ps: where it answers p at index i (`post i p`), p is the i-th.
pub record Gives (post : ℕ → Place → Type 0) (count : ℕ) (ps : List NamePlace) : Type 0 where
  pub many : length ps ≡ count
  pub each : (i : ℕ) (p : Place) → i < count → post i p → name_place p ≡ get_or ps i (place_of 0 0)
