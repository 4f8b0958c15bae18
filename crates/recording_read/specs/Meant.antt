-- What the readers' answers say. Assumes nothing.
use Rattle.std.specs.Prelude.{ℕ, ◌+◌, ◌-◌, ◌*◌, ◌≡◌, ◌<◌, cond, length, take, drop, get_or, Option, Some, None}
use Rattle.machine.specs.Names.{Bytes}
use Rattle.recording.specs.Read.{Read, got, no}
use Rattle.recording.specs.Parse.{ends_line}
use Rattle.recording_read.specs.declared.Field.{Field}

module _ {T X : Type 0} where
  -- what was read from the line s, by what it stands for, and what follows it
  abbrev pub meant : (T → X) → (s : Bytes) → Option (Field T) → Read X
  meant f s (Some r) = got (f r.value) (drop r.next s)
  meant f s None = no

-- a number that was read from the line s, and what follows it
abbrev pub number_meant : (s : Bytes) → Option (Field ℕ) → Read ℕ
number_meant = meant (λ n. n)

-- a string that was read from the line s to the front of `out`, and what follows it
abbrev pub string_meant : (s out : Bytes) → Option (Field ℕ) → Read Bytes
string_meant s out = meant (λ n. take n out) s

-- how long it is
abbrev pub string_length : Option (Field ℕ) → ℕ
string_length (Some r) = r.value
string_length None = 0

-- half bytes of `out` that are in use, or that the bytes left in s may need
abbrev pub room_after : (s : Bytes) → Option (Field ℕ) → ℕ
room_after s (Some r) = 2 * r.value + (length s - r.next)
room_after s None = 0

-- the place after the byte b, where it stands at a place of s
abbrev pub AfterByte : (b : ℕ) (s : Bytes) (at : ℕ) → Option ℕ → Type 0
AfterByte b s at (Some next) = (at < length s) × (get_or s at 0 ≡ b) × (next ≡ at + 1)
AfterByte b s at None = at < length s → get_or s at 0 ≡ b → ⊥

module _ {T : Type 0} where
  -- what was read, where just a ")" follows it
  abbrev pub closed_meant : (s : Bytes) → Option (Field T) → Option T
  closed_meant s (Some r) = cond (ends_line (drop r.next s)) (Some r.value) None
  closed_meant s None = None
