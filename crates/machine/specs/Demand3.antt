-- Demand 3's two claims about a list of calls, read off its calls and replies. Assumes nothing.
use Rattle.std.specs.Prelude.{ℕ, ◌≤◌, ◌≡◌, Bool, true, false, ◌&&◌, cond, List, [], ◌∷◌, ◌++◌, map, eqb, length}
use Rattle.std.proofs.Math.Option.{Option, none, some}
use Rattle.base_order.specs.Order.{by_bytes}
use Rattle.machine.specs.Map.{Map, lookup, also, mapped}
use Rattle.machine.specs.Names.{Bytes}
use Rattle.machine.specs.Pairs.{pair_map, encode_pairs}
use Rattle.machine.specs.Digest.{md5}
use Rattle.machine.specs.Etags.{joined}
use Rattle.machine.specs.State.{Object, State, fresh}
use Rattle.machine.specs.Calls.{Call, PUT, GET, HEAD, DELETE, COPY, LIST, INITIATE, PART, COMMIT, ABORT, UPLOADS, DELETE-OBJECTS, SWEEP, Answer, nothing, metadata, etag, number, counts, swept, buffers, Reply}
use Rattle.machine.specs.ListFits.{member, distinct}
use Rattle.machine.specs.Steps.{about, over, reply}
use Rattle.machine.specs.Lists.{Trace, trace, final}

-- what a call is to the two claims
pub data Kind : Type 0 where
  looks : Kind
  initiates : (stamp : ℕ) (path : Bytes) (pairs : Map Bytes Bytes) → Kind
  sends : (upload number : ℕ) (content : Bytes) → Kind
  commits : (upload : ℕ) → Kind
  other : Kind

abbrev pub kind : Call → Kind
kind (PUT t p d ps) = other
kind (GET p b m) = looks
kind (HEAD p m) = looks
kind (DELETE p) = other
kind (COPY t p q) = other
kind (LIST prefix suffix b) = looks
kind (INITIATE t p ps) = initiates t p (pair_map ps)
kind (PART u n d) = sends u n d
kind (COMMIT u ns) = commits u
kind (ABORT u) = other
kind (UPLOADS prefix b) = other
kind (DELETE-OBJECTS names ps left_over b) = other
kind (SWEEP t n) = other

-- "A call is accepted when its result is 0."
abbrev pub accepted : Reply → Bool
accepted r = eqb r.result 0

-- the first of two that is there
infixr 20 ◌or◌
abbrev pub ◌or◌ : {X : Type 0} → Option X → Option X → Option X
none or y = y
some x or y = some x

-- The first claim: what an accepted COMMIT leaves ---------------------------------------------------------------------

-- what a PART with that upload and part number carries
abbrev pub carries : (upload number : ℕ) → Kind → Option Bytes
carries u n looks = none
carries u n (initiates t p m) = none
carries u n (sends v m d) = cond (eqb u v && eqb n m) (some d) none
carries u n (commits v) = none
carries u n other = none

-- the same, if it was accepted
abbrev pub carried : (upload number : ℕ) → Call × Reply → Option Bytes
carried u n e = cond (accepted e.1) (carries u n (kind e.0)) none

-- "the bytes of the last accepted PART .. with that upload and part number"
abbrev pub last_part : (upload number : ℕ) → Trace → Option Bytes
last_part u n [] = none
last_part u n (e ∷ t) = last_part u n t or carried u n e

-- these for each number of a list
abbrev pub last_parts : (upload : ℕ) → Trace → (numbers : List ℕ) → Option (List Bytes)
last_parts u t [] = some []
last_parts u t (n ∷ ns) = also (last_part u n t) (λ d. mapped (λ (ds : List Bytes). d ∷ ds) (last_parts u t ns))

-- the answer is this upload number
abbrev pub answers : (upload : ℕ) → Answer → Bool
answers u nothing = false
answers u (metadata l c e n k) = false
answers u (etag e) = false
answers u (number n) = eqb u n
answers u (counts r b) = false
answers u (swept c m) = false

-- what an INITIATE says of its upload
pub record Start : Type 0 where
  pub stamp : ℕ
  pub path : Bytes
  pub pairs : Map Bytes Bytes

-- the same of one that answers this upload number
abbrev pub opens : (upload : ℕ) → Answer → Kind → Option Start
opens u a looks = none
opens u a (initiates t p m) = cond (answers u a) (some (record { stamp = t; path = p; pairs = m })) none
opens u a (sends v m d) = none
opens u a (commits v) = none
opens u a other = none

-- the same, if it was accepted
abbrev pub opened : (upload : ℕ) → Call × Reply → Option Start
opened u e = cond (accepted e.1) (opens u e.1.answer (kind e.0)) none

-- the start stamp, the path and the pairs of an upload: those of the accepted INITIATE that answered its number
abbrev pub start_of : (upload : ℕ) → Trace → Option Start
start_of u [] = none
start_of u (e ∷ t) = start_of u t or opened u e

-- byte strings set end to end
abbrev pub concat : List Bytes → Bytes
concat [] = []
concat (d ∷ ds) = d ++ concat ds

-- the object that COMMIT makes of the parts' bytes, in listed order; E6: COMMIT carries the upload's pairs
abbrev pub joined_from : Start → List Bytes → Object
joined_from x ds = record { content = concat ds; created = x.stamp; etag = joined (md5 (concat (map md5 ds))) (length ds); pairs = x.pairs }

-- What an accepted COMMIT after these calls and replies leaves in a state. Demand 3: at the upload's path, "joined in listed order, for each
-- part the bytes of the last accepted PART before it with that upload and part number"; and so a GET of that path answers.
pub record Leaves (A : ℕ) (before : Trace) (u : ℕ) (ns : List ℕ) (s : State) : Type 0 where
  pub start : Start
  pub parts : List Bytes
  pub of-upload : start_of u before ≡ some start
  pub sent : last_parts u before ns ≡ some parts
  -- "the list must name every part of the upload exactly one time"
  pub once : distinct ns ≡ true
  pub all : (n : ℕ) (content : Bytes) → last_part u n before ≡ some content → member n ns ≡ true
  pub there : lookup by_bytes start.path s.O ≡ some (joined_from start parts)
  pub read : (buffer pairsBuffer : Bytes) → length (concat parts) ≤ length buffer → length (encode_pairs start.pairs) ≤ length pairsBuffer →
      reply A s (GET start.path buffer pairsBuffer)
      ≡ record {
        result = 0;
        answer = about (joined_from start parts);
        buffers = buffers (over (concat parts) buffer) (over (encode_pairs start.pairs) pairsBuffer);
      }

-- the calls of a trace
abbrev pub calls : Trace → List Call
calls t = map (λ (e : Call × Reply). e.0) t

-- every accepted COMMIT of the list leaves that
unfoldable pub CommitsJoin : (A : ℕ) → List Call → Type 0
CommitsJoin A cs =
    (before after : Trace) (u : ℕ) (ns : List ℕ) (r : Reply) → trace A fresh cs ≡ before ++ (COMMIT u ns, r) ∷ after → accepted r ≡ true →
    Leaves A before u ns (final A fresh (calls before ++ COMMIT u ns ∷ []))

-- The second claim: an upload's PART calls taken out ------------------------------------------------------------------

-- "PART and COMMIT name the upload that is their first argument, accepted or not."
abbrev pub part_of : (upload : ℕ) → Kind → Bool
part_of u looks = false
part_of u (initiates t p m) = false
part_of u (sends v n d) = eqb u v
part_of u (commits v) = false
part_of u other = false

abbrev pub commit_of : (upload : ℕ) → Kind → Bool
commit_of u looks = false
commit_of u (initiates t p m) = false
commit_of u (sends v n d) = false
commit_of u (commits v) = eqb u v
commit_of u other = false

abbrev pub is_look : Kind → Bool
is_look looks = true
is_look (initiates t p m) = false
is_look (sends v n d) = false
is_look (commits v) = false
is_look other = false

-- "Where PART calls are taken out, these are all that name the upload; the other calls keep their values and their order"
abbrev pub without : (upload : ℕ) → List Call → List Call
without u [] = []
without u (c ∷ cs) = cond (part_of u (kind c)) (without u cs) (c ∷ without u cs)

-- no COMMIT names the upload
abbrev pub NeverCommitted : (upload : ℕ) → List Call → Type 0
NeverCommitted u [] = Unit {0}
NeverCommitted u (c ∷ cs) = (commit_of u (kind c) ≡ false) × NeverCommitted u cs

-- no accepted COMMIT names the upload
abbrev pub NoCommitAccepted : (upload : ℕ) → Trace → Type 0
NoCommitAccepted u [] = Unit {0}
NoCommitAccepted u (e ∷ t) = (commit_of u (kind e.0) ≡ true → accepted e.1 ≡ false) × NoCommitAccepted u t

-- no call is refused by 4 or 5
abbrev pub NeverFull : Trace → Type 0
NeverFull [] = Unit {0}
NeverFull (e ∷ t) = (e.1.result ≡ 4 → ⊥) × (e.1.result ≡ 5 → ⊥) × NeverFull t

-- "each GET, HEAD and LIST is compared with the same call in the other list": these calls, each with its whole reply
abbrev pub seen : Trace → Trace
seen [] = []
seen (e ∷ t) = cond (is_look (kind e.0)) (e ∷ seen t) (seen t)

-- the PART calls of an upload that no COMMIT names show in no GET, HEAD or LIST, where no call of either list is refused by 4 or 5
unfoldable pub PartsUnseen : (A : ℕ) → List Call → Type 0
PartsUnseen A cs =
    (u : ℕ) → NeverCommitted u cs → NeverFull (trace A fresh cs) → NeverFull (trace A fresh (without u cs)) →
    seen (trace A fresh (without u cs)) ≡ seen (trace A fresh cs)

-- the same of an upload that no accepted COMMIT of either list names
unfoldable pub PartsUnseenUnlessCommitted : (A : ℕ) → List Call → Type 0
PartsUnseenUnlessCommitted A cs =
    (u : ℕ) → NoCommitAccepted u (trace A fresh cs) → NoCommitAccepted u (trace A fresh (without u cs)) →
    NeverFull (trace A fresh cs) → NeverFull (trace A fresh (without u cs)) →
    seen (trace A fresh (without u cs)) ≡ seen (trace A fresh cs)

-- the claims together
pub record ListClaims (A : ℕ) (cs : List Call) : Type 0 where
  pub commits-join : CommitsJoin A cs
  pub parts-unseen : PartsUnseen A cs
  pub parts-unseen-unless-committed : PartsUnseenUnlessCommitted A cs
