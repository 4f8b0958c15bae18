-- What the replay of one line and of a piece of an input promises. Assumes nothing.
use Rattle.std.specs.Prelude.{ℕ, ◌≡◌, true, length, take}
use Rattle.std.proofs.Math.Option.{Option}
use Rattle.machine.specs.Names.{Bytes}
use Rattle.machine.specs.State.{State}
use Rattle.call_contract.specs.Made.{Memory, whole_memory, state_in}
use Rattle.recording.specs.Entry.{Entry}
use Rattle.recording.specs.Print.{lines_of}
use Rattle.recording_split.specs.Held.{Holds}
use Rattle.recording_split.specs.Pieces.{finished, begun}
use Rattle.recording_run.specs.Results.{line_result, line_after, results_from, state_after, printed}
use Rattle.recording_run.specs.declared.Fed.{Fed}

-- memory that is whole and stands for s, over an arena of length A
pub record Store (A : ℕ) (s : State) (m : Memory) : Type 0 where
  pub is_whole : whole_memory m ≡ true
  pub state : state_in m ≡ s
  pub arena : length m.arena ≡ A

-- a line with entry e over state s: n is its result, and m' the memory after it
pub record LineRun (A size : ℕ) (s : State) (e : Option Entry) (n : ℕ) (m' : Memory) : Type 0 where
  pub result : n ≡ line_result A size s e
  pub store : Store A (line_after A size s e) m'

-- a piece of an input over state s, after `line`, which was begun: the results of the lines that it finishes stand in front in out', and the
-- buffer b' holds the line that it leaves begun
pub record PieceRun (A size : ℕ) (s : State) (line piece : Bytes) (f : Fed) (b' out' : Bytes) (m' : Memory) : Type 0 where
  pub text : take f.written out' ≡ printed (results_from A size s (finished line piece))
  pub held : Holds b' f.held (begun line piece)
  pub store : Store A (state_after A size s (finished line piece)) m'

-- a whole input over state s: the results of its lines stand in the first n bytes of out'
pub record InputRun (A size : ℕ) (s : State) (input : Bytes) (n : ℕ) (out' : Bytes) (m' : Memory) : Type 0 where
  pub text : take n out' ≡ printed (results_from A size s (lines_of input))
  pub store : Store A (state_after A size s (lines_of input)) m'
