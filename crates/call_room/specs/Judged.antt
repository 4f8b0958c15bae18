-- What a judge of the room for an object answers. Assumes nothing.
use Rattle.std.specs.Prelude.{ℕ, ◌+◌, ◌≡◌, List, length}
use Rattle.machine.specs.Map.{Map}
use Rattle.machine.specs.Names.{Bytes}
use Rattle.machine.specs.Pairs.{pairs_held}
use Rattle.machine.specs.Steps.{put_at}
use Rattle.mem_layout.specs.Memory.{state_of}
use Rattle.call_contract.specs.Made.{result_of}

-- r is the result of any data and pairs, of n bytes together, put at the path, whatever the stamp
abbrev pub PutResult : (t a : List ℕ) (path : Bytes) (n r : ℕ) → Type 0
PutResult t a path n r =
    (stamp : ℕ) (content : Bytes) (m : Map Bytes Bytes) → pairs_held m + length content ≡ n → r ≡ result_of (put_at (length a) (state_of t a) stamp path content m)
