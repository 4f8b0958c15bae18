-- Document 02, E8: the results of an input, by the machine. Assumes nothing.
use Rattle.std.specs.Prelude.{ℕ, zero, suc, List, [], ◌∷◌, ◌++◌}
use Rattle.std.proofs.Math.Option.{Option, none, some}
use Rattle.base_text.specs.Text.{decimal}
use Rattle.machine.specs.Names.{Bytes}
use Rattle.machine.specs.State.{State, fresh}
use Rattle.machine.specs.Steps.{reply, next}
use Rattle.recording.specs.Entry.{Entry, call_of}
use Rattle.recording.specs.Print.{lines_of}
use Rattle.recording.specs.Parse.{entry_of}

-- so many bytes of 0
unfoldable pub zeros : ℕ → Bytes
zeros zero = []
zeros (suc n) = 0 ∷ zeros n

-- "Its results are those of the same calls made directly. A line that isn't such a form .. prints 9 and changes nothing." Over an arena of
-- length A, with answer buffers of `size` bytes each.
unfoldable pub line_result : (A size : ℕ) → State → Option Entry → ℕ
line_result A size s none = 9
line_result A size s (some e) = (reply A s (call_of (zeros size) (zeros size) e)).result

unfoldable pub line_after : (A size : ℕ) → State → Option Entry → State
line_after A size s none = s
line_after A size s (some e) = next A s (call_of (zeros size) (zeros size) e)

-- the results of lines, one after the other, and the state after them
abbrev pub results_from : (A size : ℕ) → State → List Bytes → List ℕ
results_from A size s [] = []
results_from A size s (l ∷ ls) = line_result A size s (entry_of l) ∷ results_from A size (line_after A size s (entry_of l)) ls

abbrev pub state_after : (A size : ℕ) → State → List Bytes → State
state_after A size s [] = s
state_after A size s (l ∷ ls) = state_after A size (line_after A size s (entry_of l)) ls

-- "over a fresh store, with an arena and answer buffers of 65,536 bytes each"
unfoldable pub results : (input : Bytes) → List ℕ
results input = results_from 65536 65536 fresh (lines_of input)

-- "prints the result number of each line on a line" (10 is a line feed)
unfoldable pub printed : List ℕ → Bytes
printed [] = []
printed (n ∷ ns) = decimal n ++ 10 ∷ printed ns
