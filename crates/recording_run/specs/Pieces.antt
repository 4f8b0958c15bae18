-- What is printed of an input that comes in pieces. Assumes nothing.
use Rattle.std.specs.Prelude.{ℕ, List, [], ◌∷◌, ◌++◌}
use Rattle.machine.specs.Names.{Bytes}
use Rattle.machine.specs.State.{State}
use Rattle.recording_split.specs.Pieces.{finished, begun, ended}
use Rattle.recording_run.specs.Results.{results_from, state_after, printed}

-- one piece after the other, as `PieceRun` says of each: the results of the lines that it finishes; and at the input's end the line that is begun
abbrev pub printed_pieces : (A size : ℕ) → State → (line : Bytes) (pieces : List Bytes) → Bytes
printed_pieces A size s line [] = printed (results_from A size s (ended line))
printed_pieces A size s line (p ∷ ps) =
    printed (results_from A size s (finished line p)) ++ printed_pieces A size (state_after A size s (finished line p)) (begun line p) ps
