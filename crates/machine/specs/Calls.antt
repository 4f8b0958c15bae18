-- Document 01's eleven calls and document 02's, with their arguments as values, and what they answer. Assumes nothing.
use Rattle.std.specs.Prelude.{ℕ, Bool, true, false, List, []}
use Rattle.std.proofs.Math.Option.{Option, none, some}
use Rattle.machine.specs.Names.{Bytes}
use Rattle.machine.specs.Pairs.{Pair}
use Rattle.machine.specs.Etags.{Etag}
use Rattle.machine.specs.State.{State}

-- Document 02, E1: "name places, each a start and a length"
pub record NamePlace : Type 0 where
  pub start : ℕ
  pub length : ℕ

-- "Each stands in it with its arguments as values, the bytes that its answer buffer holds beforehand among them."
-- E1: DELETE-OBJECTS has "one buffer of names and a list of name places"; how many bytes are left over after the last place, where the places
-- come as bytes; and the buffer for the results. E3: "A sweep takes a stamp and a number n". E6: "PUT and INITIATE take up to 8 pairs of key and
-- value"; GET and HEAD have "a second answer buffer".
pub data Call : Type 0 where
  PUT : (stamp : ℕ) (path content : Bytes) (pairs : List Pair) → Call
  GET : (path buffer pairsBuffer : Bytes) → Call
  HEAD : (path pairsBuffer : Bytes) → Call
  DELETE : (path : Bytes) → Call
  COPY : (stamp : ℕ) (source destination : Bytes) → Call
  LIST : (prefix suffix buffer : Bytes) → Call
  INITIATE : (stamp : ℕ) (path : Bytes) (pairs : List Pair) → Call
  PART : (upload number : ℕ) (content : Bytes) → Call
  COMMIT : (upload : ℕ) (numbers : List ℕ) → Call
  ABORT : (upload : ℕ) → Call
  UPLOADS : (prefix buffer : Bytes) → Call
  DELETE-OBJECTS : (names : Bytes) (places : List NamePlace) (left_over : ℕ) (results : Bytes) → Call
  SWEEP : (stamp most : ℕ) → Call

-- what is answered beside the result: "metadata (PART's etag with it), numbers, counts"; E3: "how many it aborted and whether more are due"; E6:
-- "GET and HEAD also answer how many pairs and bytes they wrote there"
pub data Answer : Type 0 where
  nothing : Answer
  metadata : (length created : ℕ) → Etag → (pairs pairsBytes : ℕ) → Answer
  etag : Etag → Answer
  number : ℕ → Answer
  counts : (records bytes : ℕ) → Answer
  swept : (count : ℕ) (more : Bool) → Answer

-- an answer buffer and E6's second one, for pairs; those that a call does not have are empty
pub record Buffers : Type 0 where
  pub answer : Bytes
  pub pairs : Bytes

abbrev pub buffers : (answer pairs : Bytes) → Buffers
buffers b m = record { answer = b; pairs = m }

-- "calls without written output have no answer buffer"
abbrev pub no_buffers : Buffers
no_buffers = buffers [] []

-- what a caller gets: "the result number, metadata (PART's etag with it), numbers, counts and every byte of the answer buffer", E6: of both
pub record Reply : Type 0 where
  pub result : ℕ
  pub answer : Answer
  pub buffers : Buffers

-- "In checking order", 2 to 7, and E1's 8. Refusal 1, not a store, is the memory's.
pub data Refusal : Type 0 where
  badRequest notFound tableFull arenaFull numbersUsedUp bufferShort tooMany : Refusal

-- the number of a refusal
abbrev pub code : Refusal → ℕ
code badRequest = 2
code notFound = 3
code tableFull = 4
code arenaFull = 5
code numbersUsedUp = 6
code bufferShort = 7
code tooMany = 8

-- what a call comes to: a refusal, or an answer, the bytes for the front of each answer buffer, and the state after
pub data Outcome : Type 0 where
  refuse : Refusal → Outcome
  accept : Answer → (out : Buffers) → State → Outcome

-- `test else refusal then outcome`: the checks of a call stand in a row, so "the first that applies is returned, alone"
infixr 1 ◌else◌then◌
unfoldable pub ◌else◌then◌ : Bool → Refusal → Outcome → Outcome
true else n then o = o
false else n then o = refuse n

-- goes on with what was found
unfoldable pub given : {X : Type 0} → Option X → Refusal → (X → Outcome) → Outcome
given none n k = refuse n
given (some x) n k = k x

-- the answer buffers as they were lent; E1: "its result buffer is compared like an answer buffer"
abbrev pub lent : Call → Buffers
lent (PUT t p d ps) = no_buffers
lent (GET p b m) = buffers b m
lent (HEAD p m) = buffers [] m
lent (DELETE p) = no_buffers
lent (COPY t p q) = no_buffers
lent (LIST prefix suffix b) = buffers b []
lent (INITIATE t p ps) = no_buffers
lent (PART u n d) = no_buffers
lent (COMMIT u ns) = no_buffers
lent (ABORT u) = no_buffers
lent (UPLOADS prefix b) = buffers b []
lent (DELETE-OBJECTS names ps left_over b) = buffers b []
lent (SWEEP t n) = no_buffers
