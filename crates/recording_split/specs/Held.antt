-- What a buffer and a count hold of a line. Assumes nothing.
use Rattle.std.specs.Prelude.{ℕ, ◌+◌, ◌≤◌, ◌<◌, ◌≡◌, [], ◌∷◌, length, take, drop}
use Rattle.machine.specs.Names.{Bytes}
use Rattle.recording_split.specs.Pieces.{finished, begun}
use Rattle.recording_split.specs.declared.LineStep.{LineStep}
use Rattle.recording_split.specs.declared.LineStep.TheVariants as Step

-- the buffer b and the count n: the line's n bytes, or that it is longer than the buffer
pub record Holds (b : Bytes) (n : ℕ) (line : Bytes) : Type 0 where
  pub fits : n ≤ length b → take n b ≡ line
  pub over : length b < n → length b < length line

-- `line` stood before the bytes l, of which `rest` are left, and b is the buffer after them
pub record Finished (line l b : Bytes) (n : ℕ) (rest : Bytes) : Type 0 where
  pub whole : Bytes
  pub held : Holds b n whole
  pub lines : finished line l ≡ whole ∷ finished [] rest
  pub after : begun line l ≡ begun [] rest

pub record Unfinished (line l b : Bytes) (n : ℕ) : Type 0 where
  pub held : Holds b n (begun line l)
  pub lines : finished line l ≡ []

-- what a step says
abbrev pub Stepped : (s : Bytes) (at : ℕ) (line b : Bytes) → LineStep → Type 0
Stepped s at line b (Step.Line n next) = Finished line (drop at s) b n (drop next s)
Stepped s at line b (Step.More n) = Unfinished line (drop at s) b n

-- in numbers: the count is at most one more than the buffer, of so many bytes; a line ends past `at`, within the `size` bytes that came
abbrev pub Within : (size at buffer : ℕ) → LineStep → Type 0
Within size at buffer (Step.Line n next) = (n ≤ buffer + 1) × (at < next) × (next ≤ size)
Within size at buffer (Step.More n) = n ≤ buffer + 1
