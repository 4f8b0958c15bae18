-- Document 02, E4: calls of PUT, DELETE and COPY that change places. Assumes nothing.
use Rattle.std.specs.Prelude.{ℕ, ◌≡◌, Bool, true, false, cond, List, [], ◌∷◌, ◌++◌}
use Rattle.std.proofs.Math.Option.{Option, none, some}
use Rattle.base_order.specs.Order.{same as isSame}
use Rattle.machine.specs.Map.{is_some}
use Rattle.machine.specs.Names.{Bytes}
use Rattle.machine.specs.State.{State}
use Rattle.machine.specs.Calls.{Call, PUT, GET, HEAD, DELETE, COPY, LIST, INITIATE, PART, COMMIT, ABORT, UPLOADS, DELETE-OBJECTS, SWEEP, Reply}
use Rattle.machine.specs.Steps.{reply, next}
use Rattle.machine.specs.Lists.{Trace, trace, final}

-- the path that a call "among PUT, DELETE and COPY" writes: "DELETE writes its path"; no other call changes places
abbrev pub writes : Call → Option Bytes
writes (PUT t p d ps) = some p
writes (GET p b m) = none
writes (HEAD p m) = none
writes (DELETE p) = some p
writes (COPY t p q) = some q
writes (LIST prefix suffix b) = none
writes (INITIATE t p ps) = none
writes (PART u n d) = none
writes (COMMIT u ns) = none
writes (ABORT u) = none
writes (UPLOADS prefix b) = none
writes (DELETE-OBJECTS names ps left_over b) = none
writes (SWEEP t n) = none

-- the path that such a call reads beside: COPY its source
abbrev pub reads : Call → Option Bytes
reads (PUT t p d ps) = none
reads (GET p b m) = none
reads (HEAD p m) = none
reads (DELETE p) = none
reads (COPY t p q) = some p
reads (LIST prefix suffix b) = none
reads (INITIATE t p ps) = none
reads (PART u n d) = none
reads (COMMIT u ns) = none
reads (ABORT u) = none
reads (UPLOADS prefix b) = none
reads (DELETE-OBJECTS names ps left_over b) = none
reads (SWEEP t n) = none

-- no path is both
abbrev pub Differ : Option Bytes → Option Bytes → Type 0
Differ x y = (p : Bytes) → x ≡ some p → y ≡ some p → ⊥

-- "two adjacent calls among PUT, DELETE and COPY, where neither writes a path that the other reads or writes"
pub record Apart (c d : Call) : Type 0 where
  pub first : is_some (writes c) ≡ true
  pub second : is_some (writes d) ≡ true
  pub both-write : Differ (writes c) (writes d)
  pub second_reads : Differ (writes c) (reads d)
  pub first_reads : Differ (writes d) (reads c)

-- not "refused by 4 or 5"
pub record Roomy (r : Reply) : Type 0 where
  pub table : r.result ≡ 4 → ⊥
  pub arena : r.result ≡ 5 → ⊥

-- "no call in either order is refused by 4 or 5": c and then d, d and then c, from the state s
pub record EitherOrder (A : ℕ) (s : State) (c d : Call) : Type 0 where
  pub first : Roomy (reply A s c)
  pub then-second : Roomy (reply A (next A s c) d)
  pub second : Roomy (reply A s d)
  pub then-first : Roomy (reply A (next A s d) c)

-- the law's conclusion: "end in the same machine state in either order and have the same results"
pub record Commute (A : ℕ) (s : State) (c d : Call) : Type 0 where
  pub state : next A (next A s d) c ≡ next A (next A s c) d
  pub first : reply A (next A s d) c ≡ reply A s c
  pub second : reply A (next A s c) d ≡ reply A s d

-- "any two lists of such calls of which one comes from the other by such swaps, each list on the way meeting that condition", from the state
-- s. Calls that stay where they are may be of any kind, and may be refused by 4 or 5.
pub data Swaps (A : ℕ) (s : State) : List Call → List Call → Type 0 where
  same : {cs : List Call} → Swaps A s cs cs
  swap : {cs : List Call} (before : List Call) (c d : Call) (later : List Call) → Apart c d → EitherOrder A (final A s before) c d
      → Swaps A s (before ++ d ∷ c ∷ later) cs → Swaps A s (before ++ c ∷ d ∷ later) cs

-- the same of calls with their replies: entries that are next to each other, of calls that are apart, change places, each as it is. Two
-- calls that write one path never do, so that it is plain which entry of the one trace is which of the other.
pub data Moved : Trace → Trace → Type 0 where
  same : {t : Trace} → Moved t t
  swap : {t : Trace} (before : Trace) (e f : Call × Reply) (later : Trace) → Apart e.0 f.0
      → Moved (before ++ f ∷ e ∷ later) t → Moved (before ++ e ∷ f ∷ later) t

-- the entries of the calls that write this path; for none, of the calls that stay where they are
abbrev pub is_same_path : (x y : Option Bytes) → Bool
is_same_path none none = true
is_same_path none (some q) = false
is_same_path (some p) none = false
is_same_path (some p) (some q) = isSame p q

abbrev pub writing : (path : Option Bytes) → Trace → Trace
writing x [] = []
writing x (e ∷ t) = cond (is_same_path x (writes e.0)) (e ∷ writing x t) (writing x t)

-- two lists of calls from s: the same state at the end; each call has the same reply; and so every path has the same shift log
pub record SameEnd (A : ℕ) (s : State) (cs ds : List Call) : Type 0 where
  pub state : final A s ds ≡ final A s cs
  pub replies : Moved (trace A s cs) (trace A s ds)
  pub logs : (path : Option Bytes) → writing path (trace A s ds) ≡ writing path (trace A s cs)
