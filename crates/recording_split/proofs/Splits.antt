-- An input fed in any pieces has the lines of the whole. Assumes nothing.
use Prim.Native.Nat.{ℕ}
use mathlib.Core.Path.{◌≡◌, refl, ap, ◌∙◌}
use mathlib.Core.List.{List, [], ◌∷◌, ◌++◌}
use lib.Dec.{eqb}
use Rattle.machine.specs.Names.{Bytes}
use Rattle.recording.specs.Print.{lines_from, lines_of}
use Rattle.recording.proofs.Readers.{by-test}
use Rattle.recording_split.specs.Held.{Finished, Unfinished}
use Rattle.recording_split.specs.Pieces.{finished, begun, ended, over_pieces, joined}

from_end : (line : Bytes) → ended line ≡ lines_from line []
from_end [] = refl
from_end (x ∷ line) = refl

-- the lines that the first bytes finish, and then those from the line that they leave begun
lines-from : (line l m : Bytes) → finished line l ++ lines_from (begun line l) m ≡ lines_from line (l ++ m)
unfolding finished begun
lines-from line [] m = refl
lines-from line (b ∷ l) m =
    by-test (eqb b 10)
    (λ t. rw t (ap (λ (ls : List Bytes). line ∷ ls) (lines-from [] l m)))
    (λ t. rw t (lines-from (line ++ b ∷ []) l m))

over-pieces : (line : Bytes) (ps : List Bytes) → over_pieces line ps ≡ lines_from line (joined ps)
over-pieces line [] = from_end line
over-pieces line (p ∷ ps) = ap (λ (ls : List Bytes). finished line p ++ ls) (over-pieces (begun line p) ps) ∙ lines-from line p (joined ps)

-- whatever the pieces are
pub in_pieces : (ps : List Bytes) → over_pieces [] ps ≡ lines_of (joined ps)
unfolding lines_of
in_pieces ps = over-pieces [] ps

-- A piece, step by step ----------------------------------------------------------------------------------------------------

-- steps as `next_line` makes them, from the bytes l on, until a piece has ended: the lines that were held whole, and the line that is begun
pub data Steps : (line l : Bytes) (lines : List Bytes) (left : Bytes) → Type 0 where
  stop : {line l b : Bytes} {n : ℕ} → Unfinished line l b n → Steps line l [] (begun line l)
  step : {line l b rest left : Bytes} {n : ℕ} {lines : List Bytes} (f : Finished line l b n rest) → Steps [] rest lines left → Steps line l (f.whole ∷ lines) left

pub steps-lines : {line l left : Bytes} {lines : List Bytes} → Steps line l lines left → (finished line l ≡ lines) × (begun line l ≡ left)
steps-lines (stop u) = (u.lines, refl)
steps-lines (step f r) = let w = steps-lines r in (f.lines ∙ ap (λ (ls : List Bytes). f.whole ∷ ls) w.0, f.after ∙ w.1)
