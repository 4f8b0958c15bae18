-- What the DELETE of one name place promises. Assumes nothing.
use Rattle.std.specs.Prelude.{ℕ, ◌≡◌, set}
use Rattle.machine.specs.Names.{Bytes}
use Rattle.machine.specs.Calls.{NamePlace, no_buffers}
use Rattle.machine.specs.Steps.{delete_place, reply_of, after}
use Rattle.mem_layout.specs.Memory.{Stands}
use Rattle.call_contract.specs.Made.{Memory, state_in}

abbrev pub place_of : (start length : ℕ) → NamePlace
place_of s l = record { start = s; length = l }

-- The place p over whole memory m had the result n and left memory m'.
pub record PlaceDone (names : Bytes) (p : NamePlace) (m : Memory) (n : ℕ) (m' : Memory) : Type 0 where
  pub result : n ≡ (reply_of no_buffers (delete_place (state_in m) names p)).result
  pub stands : Stands m'.tables m'.arena (after (state_in m) (delete_place (state_in m) names p))

-- The same, with the result at i of the result buffer b.
pub record PlaceDoneAt (names : Bytes) (p : NamePlace) (i : ℕ) (m : Memory) (b : Bytes) (m' : Memory) (b' : Bytes) : Type 0 where
  pub number : ℕ
  pub done : PlaceDone names p m number m'
  pub results : b' ≡ set b i number
