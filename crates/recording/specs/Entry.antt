-- Document 02, E8: what a line of a recording says, and the call that it stands for. Assumes nothing.
use Rattle.std.specs.Prelude.{ℕ, ◌<◌, ◌^◌, List, [], ◌∷◌}
use Rattle.machine.specs.Names.{Bytes}
use Rattle.machine.specs.Pairs.{Pair}
use Rattle.machine.specs.Calls.{Call, PUT, GET, HEAD, DELETE, COPY, LIST, INITIATE, PART, COMMIT, ABORT, UPLOADS}

-- "one of the eleven verbs .., then 01's arguments in 01's order", "Pairs of E6 follow"
pub data Entry : Type 0 where
  put : (stamp : ℕ) (path content : Bytes) (pairs : List Pair) → Entry
  get head delete : (path : Bytes) → Entry
  copy : (stamp : ℕ) (source destination : Bytes) → Entry
  list : (prefix suffix : Bytes) → Entry
  initiate : (stamp : ℕ) (path : Bytes) (pairs : List Pair) → Entry
  part : (upload number : ℕ) (content : Bytes) → Entry
  commit : (upload : ℕ) (numbers : List ℕ) → Entry
  abort : (upload : ℕ) → Entry
  uploads : (prefix : Bytes) → Entry

-- the call that an entry stands for, with the answer buffers lent
abbrev pub call_of : (answer pairsAnswer : Bytes) → Entry → Call
call_of b m (put t p d ps) = PUT t p d ps
call_of b m (get p) = GET p b m
call_of b m (head p) = HEAD p m
call_of b m (delete p) = DELETE p
call_of b m (copy t p q) = COPY t p q
call_of b m (list p q) = LIST p q b
call_of b m (initiate t p ps) = INITIATE t p ps
call_of b m (part u n d) = PART u n d
call_of b m (commit u ns) = COMMIT u ns
call_of b m (abort u) = ABORT u
call_of b m (uploads p) = UPLOADS p b

-- each of a list keeps a rule
module _ {X : Type 0} (P : X → Type 0) where
  abbrev pub Each : List X → Type 0
  Each [] = Unit {0}
  Each (x ∷ l) = P x × Each l

-- "below 2^64"
abbrev pub Word64 : ℕ → Type 0
Word64 n = n < 2 ^ 64

-- bytes, and not any numbers
abbrev pub AreBytes : Bytes → Type 0
AreBytes = Each (λ b. b < 256)

abbrev pub PairBytes : Pair → Type 0
PairBytes e = AreBytes e.0 × AreBytes e.1

-- the numbers are below 2^64, and the strings are of bytes
abbrev pub EntryOk : Entry → Type 0
EntryOk (put t p d ps) = Word64 t × (AreBytes p × (AreBytes d × Each PairBytes ps))
EntryOk (get p) = AreBytes p
EntryOk (head p) = AreBytes p
EntryOk (delete p) = AreBytes p
EntryOk (copy t p q) = Word64 t × (AreBytes p × AreBytes q)
EntryOk (list p q) = AreBytes p × AreBytes q
EntryOk (initiate t p ps) = Word64 t × (AreBytes p × Each PairBytes ps)
EntryOk (part u n d) = Word64 u × (Word64 n × AreBytes d)
EntryOk (commit u ns) = Word64 u × Each Word64 ns
EntryOk (abort u) = Word64 u
EntryOk (uploads p) = AreBytes p
