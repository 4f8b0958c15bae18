-- An input that comes in pieces: the lines that a piece finishes, and the line that it leaves begun. Assumes nothing.
use Rattle.std.specs.Prelude.{cond, List, [], ◌∷◌, ◌++◌, eqb}
use Rattle.machine.specs.Names.{Bytes}

-- `line` is what stands before
unfoldable pub finished : (line : Bytes) → Bytes → List Bytes
finished line [] = []
finished line (b ∷ l) = cond (eqb b 10) (line ∷ finished [] l) (finished (line ++ b ∷ []) l)

unfoldable pub begun : (line : Bytes) → Bytes → Bytes
begun line [] = line
begun line (b ∷ l) = cond (eqb b 10) (begun [] l) (begun (line ++ b ∷ []) l)

-- the input's end finishes a line that has bytes
abbrev pub ended : (line : Bytes) → List Bytes
ended [] = []
ended (x ∷ line) = (x ∷ line) ∷ []

-- the lines of all pieces
abbrev pub over_pieces : (line : Bytes) → List Bytes → List Bytes
over_pieces line [] = ended line
over_pieces line (p ∷ ps) = finished line p ++ over_pieces (begun line p) ps

abbrev pub joined : List Bytes → Bytes
joined [] = []
joined (p ∷ ps) = p ++ joined ps
