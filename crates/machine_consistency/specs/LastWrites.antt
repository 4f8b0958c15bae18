-- What the last accepted call that writes a path left there, read off calls and replies. Assumes nothing.
use Rattle.std.specs.Prelude.{ℕ, ◌≡◌, Bool, true, false, cond, ◌||◌, List, [], ◌∷◌, ◌++◌, map, reverse}
use Rattle.std.proofs.Math.Option.{Option, none, some}
use Rattle.base_order.specs.Order.{same}
use Rattle.machine.specs.Map.{mapped, also}
use Rattle.machine.specs.Names.{Bytes}
use Rattle.machine.specs.Pairs.{Pair, pair_map}
use Rattle.machine.specs.State.{Object}
use Rattle.machine.specs.Calls.{Call, PUT, GET, HEAD, DELETE, COPY, LIST, INITIATE, PART, COMMIT, ABORT, UPLOADS, DELETE-OBJECTS, SWEEP, NamePlace, Reply}
use Rattle.machine.specs.Steps.{plain_object}
use Rattle.machine.specs.Lists.{Trace}
use Rattle.machine.specs.Demand3.{accepted, Start, start_of, last_parts, joined_from}
use Rattle.machine.specs.DeleteObjects.{name_at}

-- a change of the objects: one is set; one's data and pairs are copied; the listed parts of an upload are joined at its path; some are removed
pub data Change : Type 0 where
  sets : (path : Bytes) → Object → Change
  copies : (stamp : ℕ) (source destination : Bytes) → Change
  joins : (upload : ℕ) (numbers : List ℕ) → Change
  removes : (paths : List Bytes) → Change

-- what each call does to the objects once it is accepted; most change none
abbrev pub change : Call → Option Change
change (PUT t p d ps) = some (sets p (plain_object t d (pair_map ps)))
change (GET p b m) = none
change (HEAD p m) = none
change (DELETE p) = some (removes (p ∷ []))
change (COPY t p q) = some (copies t p q)
change (LIST prefix suffix b) = none
change (INITIATE t p ps) = none
change (PART u n d) = none
change (COMMIT u ns) = some (joins u ns)
change (ABORT u) = none
change (UPLOADS prefix b) = none
change (DELETE-OBJECTS names ps left_over b) = some (removes (map (name_at names) ps))
change (SWEEP t n) = none

-- paths, and what is left at each: an object, or nothing
abbrev pub Write : Type 0
Write = List Bytes × Option Object

-- The write of a change; `was` is what stood at each path before it, `before` the calls and replies before it. A copy leaves the data and
-- the pairs that its source then had; what is joined are the parts that were sent to the upload, in listed order, with the pairs of its INITIATE.
abbrev pub writes : (was : Bytes → Option Object) (before : Trace) → Change → Option Write
writes was before (sets p x) = some (p ∷ [], some x)
writes was before (copies t p q) = some (q ∷ [], mapped (λ (x : Object). plain_object t x.content x.pairs) (was p))
writes was before (joins u ns) = mapped (λ (o : Start). (o.path ∷ [], mapped (joined_from o) (last_parts u before ns))) (start_of u before)
writes was before (removes ps) = some (ps, none)

-- the write of a call, if it was accepted
abbrev pub written : (was : Bytes → Option Object) (before : Trace) → Call × Reply → Option Write
written was before e = cond (accepted e.1) (also (change e.0) (writes was before)) none

-- the path is one of these
abbrev pub among : (path : Bytes) → List Bytes → Bool
among p [] = false
among p (q ∷ qs) = same p q || among p qs

-- the write is to this path
abbrev pub is_to : (path : Bytes) → Option Write → Bool
is_to p none = false
is_to p (some w) = among p w.0

-- what it leaves
abbrev pub left : Option Write → Option Object
left none = none
left (some w) = w.1

-- the last write of a path, of calls and replies newest first: that of the newest, if it is to this path, else that of those before it
abbrev pub last_of : (newestFirst : Trace) (path : Bytes) → Option Object
last_of [] p = none
last_of (e ∷ t) p = let w = written (last_of t) (reverse t) e in cond (is_to p w) (left w) (last_of t p)

-- what the last accepted call that writes this path left there
unfoldable pub last_write : (path : Bytes) → Trace → Option Object
last_write p t = last_of (reverse t) p

-- The definition in other words ------------------------------------------------------------------------------------------

-- this call, with this reply and after these, is accepted and writes the path
abbrev pub writes_to : (path : Bytes) (before : Trace) → Call × Reply → Bool
writes_to p before e = is_to p (written (λ q. last_write q before) before e)

-- no call of `after`, which comes after `before`, is accepted and writes the path
abbrev pub Untouched : (path : Bytes) (before after : Trace) → Type 0
Untouched p before [] = Unit {0}
Untouched p before (e ∷ after) = (writes_to p before e ≡ false) × Untouched p (before ++ e ∷ []) after

-- Of all calls and replies: what each call leaves at a path, while no other call writes it.
pub record LastWriteByCall : Type 0 where
  pub never : (p : Bytes) (t : Trace) → Untouched p [] t → last_write p t ≡ none
  pub put : (t : ℕ) (p d : Bytes) (ps : List Pair) (r : Reply) (before after : Trace) → accepted r ≡ true → Untouched p (before ++ (PUT t p d ps, r) ∷ []) after
      → last_write p (before ++ (PUT t p d ps, r) ∷ after) ≡ some (plain_object t d (pair_map ps))
  pub delete : (p : Bytes) (r : Reply) (before after : Trace) → accepted r ≡ true → Untouched p (before ++ (DELETE p, r) ∷ []) after
      → last_write p (before ++ (DELETE p, r) ∷ after) ≡ none
  -- of every path that a place names, whether its DELETE is accepted or finds nothing there
  pub delete-objects : (names : Bytes) (ps : List NamePlace) (left_over : ℕ) (b p : Bytes) (r : Reply) (before after : Trace) → accepted r ≡ true
      → among p (map (name_at names) ps) ≡ true → Untouched p (before ++ (DELETE-OBJECTS names ps left_over b, r) ∷ []) after
      → last_write p (before ++ (DELETE-OBJECTS names ps left_over b, r) ∷ after) ≡ none
  pub copy : (t : ℕ) (q p : Bytes) (r : Reply) (before after : Trace) → accepted r ≡ true → Untouched p (before ++ (COPY t q p, r) ∷ []) after
      → last_write p (before ++ (COPY t q p, r) ∷ after) ≡ mapped (λ (x : Object). plain_object t x.content x.pairs) (last_write q before)
  pub commit : (u : ℕ) (ns : List ℕ) (x : Start) (r : Reply) (before after : Trace) → accepted r ≡ true → start_of u before ≡ some x
      → Untouched x.path (before ++ (COMMIT u ns, r) ∷ []) after
      → last_write x.path (before ++ (COMMIT u ns, r) ∷ after) ≡ mapped (joined_from x) (last_parts u before ns)
