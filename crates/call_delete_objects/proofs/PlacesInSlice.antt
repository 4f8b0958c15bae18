-- The name places of a slice of them: how many there are, and where each stands. Assumes nothing.
use Prim.Native.Nat.{ℕ}
use mathlib.Core.Path.{◌≡◌, sym}
use mathlib.Core.List.{List}
use lib.ListN.{length, get_or, length-map, get_or-map}
use Rattle.call_types.specs.declared.Place.{Place}
use Rattle.call_contract.specs.Answers.{name_place, name_places}
use Rattle.call_delete_objects.specs.PlaceDone.{place_of}

pub listed-length : (ps : List Place) → length (name_places ps) ≡ length ps
listed-length ps = length-map ps name_place

pub listed_at : (ps : List Place) (i : ℕ) → name_place (get_or ps i (record { start = 0; len = 0 })) ≡ get_or (name_places ps) i (place_of 0 0)
listed_at ps i = sym (get_or-map name_place ps i (record { start = 0; len = 0 }))
