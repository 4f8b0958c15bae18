-- The last write of a path comes of its origin alone, and what that holds.
-- Assumes nothing.
use Prim.Native.Nat.{ℕ}
use mathlib.Core.Path.{◌≡◌, refl, sym, ap, ◌∙◌, subst}
use mathlib.Core.Bool.{Bool, true, false, ◌&&◌, cond, false≢true}
use mathlib.Core.List.Sublistᴰ
use mathlib.Core.List.{List, [], ◌∷◌, ◌++◌, reverse, reverse-cons, reverse-reverse, append-nil, Sublistᴰ}
use mathlib.Core.Option.{Option, none, some}
use lib.Dec.{eqb}
use borrow.Author.Tests.{eq-eqb, ne_eqb, eqb-true}
use Rattle.machine.specs.Map.{also, keep, Every}
use Rattle.machine.specs.Names.{Bytes}
use Rattle.machine.specs.State.{Object}
use Rattle.machine.specs.Calls.{Call, PUT, GET, HEAD, DELETE, COPY, LIST, INITIATE, PART, COMMIT, ABORT, UPLOADS, DELETE-OBJECTS, SWEEP, Answer, nothing, metadata, etag, number, counts, swept, Reply}
use Rattle.machine.specs.Lists.{Trace}
use Rattle.machine.specs.Demand3.{Kind, looks, initiates, sends, commits, other, kind, accepted, ◌or◌, carries, carried, last_part, last_parts, answers, Start, opens, opened, start_of, commit_of, NoCommitAccepted}
use Rattle.machine_consistency.specs.LastWrites.{Change, sets, copies, joins, removes, change, Write, writes, written, is_to, left, last_of, last_write}
use Rattle.machine_consistency.specs.Origins.{builds, of_upload, draws, origin_of, origin, Origin}
use Rattle.machine.proofs.Options.{both}
use Rattle.machine.proofs.MapKeep.{keep_append}
use Rattle.machine.proofs.Commits.{or-none}

-- An upload's own calls tell its start and its parts --------------------------------------------------------------------------------

module _ (u : ℕ) where
  no_part : (n : ℕ) (a : Answer) (b : Bool) (k : Kind) → b && builds u a k ≡ false → cond b (carries u n k) none ≡ none
  no_part n a false k h = refl
  no_part n a true looks h = refl
  no_part n a true (initiates t p m) h = refl
  no_part n a true (sends v m d) h = rw h
  no_part n a true (commits v) h = refl
  no_part n a true other h = refl

  no_start : (a : Answer) (b : Bool) (k : Kind) → b && builds u a k ≡ false → cond b (opens u a k) none ≡ none
  no_start a false k h = refl
  no_start a true looks h = refl
  no_start a true (initiates t p m) h = rw h
  no_start a true (sends v m d) h = refl
  no_start a true (commits v) h = refl
  no_start a true other h = refl

  abbrev is_of : Call → Reply → Bool
  is_of c r = accepted r && builds u r.answer (kind c)

  part-kept : (n : ℕ) (t : Trace) → last_part u n (of_upload u t) ≡ last_part u n t
  part-kept n [] = refl
  part-kept n (e ∷ t) = go (is_of e.0 e.1) refl (part-kept n t)
    where
      go : (b : Bool) → is_of e.0 e.1 ≡ b → last_part u n (of_upload u t) ≡ last_part u n t → last_part u n (cond b (e ∷ of_upload u t) (of_upload u t)) ≡ last_part u n t or carried u n e
      go true h i = rw i
      go false h i = i ∙ sym (ap (λ (x : Option Bytes). last_part u n t or x) (no_part n e.1.answer (accepted e.1) (kind e.0) h) ∙ or-none (last_part u n t))

  start-kept : (t : Trace) → start_of u (of_upload u t) ≡ start_of u t
  start-kept [] = refl
  start-kept (e ∷ t) = go (is_of e.0 e.1) refl (start-kept t)
    where
      go : (b : Bool) → is_of e.0 e.1 ≡ b → start_of u (of_upload u t) ≡ start_of u t → start_of u (cond b (e ∷ of_upload u t) (of_upload u t)) ≡ start_of u t or opened u e
      go true h i = rw i
      go false h i = i ∙ sym (ap (λ (x : Option Start). start_of u t or x) (no_start e.1.answer (accepted e.1) (kind e.0) h) ∙ or-none (start_of u t))

  parts-kept : (t : Trace) (ns : List ℕ) → last_parts u (of_upload u t) ns ≡ last_parts u t ns
  parts-kept t [] = refl
  parts-kept t (n ∷ ns) = rw (part-kept n t, parts-kept t ns)

  reverse-kept : (t : Trace) → reverse (of_upload u t) ≡ of_upload u (reverse t)
  reverse-kept [] = refl
  reverse-kept (e ∷ t) = ap (λ (x : Trace). reverse x) (keep_append is_of (e ∷ []) t) ∙ go (is_of e.0 e.1) refl (reverse-kept t)
    where
      more : of_upload u (reverse t ++ e ∷ []) ≡ of_upload u (reverse (e ∷ t))
      more = ap (of_upload u) (sym (reverse-cons e t))

      go : (b : Bool) → is_of e.0 e.1 ≡ b → reverse (of_upload u t) ≡ of_upload u (reverse t) → reverse (cond b (e ∷ []) [] ++ of_upload u t) ≡ of_upload u (reverse (e ∷ t))
      go true h i = reverse-cons e (of_upload u t) ∙ rw i (sym (keep_append is_of (reverse t) (e ∷ []) ∙ rw h) ∙ more)
      go false h i = i ∙ sym (keep_append is_of (reverse t) (e ∷ []) ∙ rw h (append-nil _)) ∙ more

-- The origin of a path ------------------------------------------------------------------------------------------------------------

-- a write is the same over what it draws on
draws-same : (t : Trace) → ((p : Bytes) → last_of (origin_of t p) p ≡ last_of t p) → (k : Option Change) →
    also k (writes (last_of (draws (origin_of t) t k)) (reverse (draws (origin_of t) t k))) ≡ also k (writes (last_of t) (reverse t))
draws-same t h none = refl
draws-same t h (some (sets p x)) = refl
draws-same t h (some (copies n p q)) = rw (h p)
draws-same t h (some (joins u ns)) = rw (reverse-kept u t, start-kept u (reverse t), parts-kept u (reverse t) ns)
draws-same t h (some (removes ps)) = refl

origin-last : (t : Trace) (p : Bytes) → last_of (origin_of t p) p ≡ last_of t p
origin-last [] p = refl
origin-last (e ∷ t) p = go (is_to p w) refl (origin-last t)
  where
    w : Option Write
    w = written (last_of t) (reverse t) e

    d : Trace
    d = draws (origin_of t) t (change e.0)

    go : (b : Bool) → is_to p w ≡ b → ((q : Bytes) → last_of (origin_of t q) q ≡ last_of t q) → last_of (cond b (e ∷ d) (origin_of t p)) p ≡ cond b (left w) (last_of t p)
    go true h i =
        ap (λ (x : Option Write). cond (is_to p x) (left x) (last_of d p)) (ap (λ (x : Option Write). cond (accepted e.1) x none) (draws-same t i (change e.0)))
        ∙ rw h
    go false h i = i p

from-origin : (p : Bytes) (t : Trace) → last_write p (origin p t) ≡ last_write p t
unfolding last_write origin
from-origin p t = rw (reverse-reverse (origin_of (reverse t) p)) (origin-last (reverse t) p)

-- What the origin holds ---------------------------------------------------------------------------------------------------------------

kept-sublist : (u : ℕ) (t : Trace) → Sublistᴰ (of_upload u t) t
kept-sublist u [] = Sublistᴰ.slnil
kept-sublist u (e ∷ t) = go (is_of u e.0 e.1) (kept-sublist u t)
  where
    go : (b : Bool) → Sublistᴰ (of_upload u t) t → Sublistᴰ (cond b (e ∷ of_upload u t) (of_upload u t)) (e ∷ t)
    go true h = Sublistᴰ.cons-cons refl h
    go false h = Sublistᴰ.cons h

drawn-sublist : (t : Trace) → ((p : Bytes) → Sublistᴰ (origin_of t p) t) → (k : Option Change) → Sublistᴰ (draws (origin_of t) t k) t
drawn-sublist t h none = Sublistᴰ.nil-sublist t
drawn-sublist t h (some (sets p x)) = Sublistᴰ.nil-sublist t
drawn-sublist t h (some (copies n p q)) = h p
drawn-sublist t h (some (joins u ns)) = kept-sublist u t
drawn-sublist t h (some (removes ps)) = Sublistᴰ.nil-sublist t

origin-sublist : (t : Trace) (p : Bytes) → Sublistᴰ (origin_of t p) t
origin-sublist [] p = Sublistᴰ.slnil
origin-sublist (e ∷ t) p = go (is_to p (written (last_of t) (reverse t) e)) (origin-sublist t)
  where
    go : (b : Bool) → ((q : Bytes) → Sublistᴰ (origin_of t q) t) → Sublistᴰ (cond b (e ∷ draws (origin_of t) t (change e.0)) (origin_of t p)) (e ∷ t)
    go true h = Sublistᴰ.cons-cons refl (drawn-sublist t h (change e.0))
    go false h = Sublistᴰ.cons (h p)

reverse-sublist : {t u : Trace} → Sublistᴰ t u → Sublistᴰ (reverse t) (reverse u)
reverse-sublist Sublistᴰ.slnil = Sublistᴰ.slnil
reverse-sublist (Sublistᴰ.cons {a} {l₁} {l₂} h) =
    subst (Sublistᴰ (reverse l₁)) (sym (reverse-cons a l₂))
    (subst (λ (x : Trace). Sublistᴰ x (reverse l₂ ++ a ∷ [])) (append-nil (reverse l₁)) (Sublistᴰ.append (reverse-sublist h) (Sublistᴰ.nil-sublist (a ∷ []))))
reverse-sublist (Sublistᴰ.cons-cons {a} {b} {l₁} {l₂} e h) =
    subst (Sublistᴰ (reverse (a ∷ l₁))) (sym (reverse-cons b l₂))
    (subst (λ (x : Trace). Sublistᴰ x (reverse l₂ ++ b ∷ [])) (sym (reverse-cons a l₁)) (Sublistᴰ.append (reverse-sublist h) (Sublistᴰ.cons-cons e Sublistᴰ.slnil)))

picked : (p : Bytes) (t : Trace) → Sublistᴰ (origin p t) t
unfolding origin
picked p t = subst (Sublistᴰ (reverse (origin_of (reverse t) p))) (reverse-reverse t) (reverse-sublist (origin-sublist (reverse t) p))

-- A rule of its entries, where K is known of all: of those that write, and of those that a COMMIT draws on
to-accepted : (p : Bytes) (a : Bool) (x : Option Write) → is_to p (cond a x none) ≡ true → (a ≡ true) × (is_to p x ≡ true)
to-accepted p true x h = (refl, h)
to-accepted p false x h = absurd (false≢true h)

module _ (P K : Call → Reply → Type 0)
    (writer : (was : Bytes → Option Object) (before : Trace) (p : Bytes) (c : Call) (r : Reply) → accepted r ≡ true → is_to p (also (change c) (writes was before)) ≡ true → P c r)
    (parts : (u : ℕ) (ns : List ℕ) (c : Call) (r : Reply) (t : Trace) → change c ≡ some (joins u ns) → K c r → accepted r ≡ true → Every P (of_upload u t)) where
  drawn-every : (t : Trace) → ((p : Bytes) → Every P (origin_of t p)) → (k : Option Change) (c : Call) (r : Reply) → change c ≡ k → K c r → accepted r ≡ true →
      Every P (draws (origin_of t) t k)
  drawn-every t h none c r e y ok = tt
  drawn-every t h (some (sets p x)) c r e y ok = tt
  drawn-every t h (some (copies n p q)) c r e y ok = h p
  drawn-every t h (some (joins u ns)) c r e y ok = parts u ns c r t e y ok
  drawn-every t h (some (removes ps)) c r e y ok = tt

  origin-every : (t : Trace) → Every K t → (p : Bytes) → Every P (origin_of t p)
  origin-every [] k p = tt
  origin-every (e ∷ t) k p = go (is_to p (written (last_of t) (reverse t) e)) refl (origin-every t k.1)
    where
      go : (b : Bool) → is_to p (written (last_of t) (reverse t) e) ≡ b → ((q : Bytes) → Every P (origin_of t q)) → Every P (cond b (e ∷ draws (origin_of t) t (change e.0)) (origin_of t p))
      go true h i =
          let z = to-accepted p (accepted e.1) (also (change e.0) (writes (last_of t) (reverse t))) h in
          (writer (last_of t) (reverse t) p e.0 e.1 z.0 z.1, drawn-every t i (change e.0) e.0 e.1 refl k.0 z.0)
      go false h i = i p

every_append : (P : Call → Reply → Type 0) (t u : Trace) → Every P t → Every P u → Every P (t ++ u)
every_append P [] u h k = k
every_append P (e ∷ t) u h k = (h.0, every_append P t u h.1 k)

every-reverse : (P : Call → Reply → Type 0) (t : Trace) → Every P t → Every P (reverse t)
every-reverse P [] h = tt
every-reverse P (e ∷ t) h = subst (Every P) (sym (reverse-cons e t)) (every_append P (reverse t) (e ∷ []) (every-reverse P t h.1) (h.0, tt))

every-keep : (f : Call → Reply → Bool) (P : Call → Reply → Type 0) → ((c : Call) (r : Reply) → f c r ≡ true → P c r) → (t : Trace) → Every P (keep f t)
every-keep f P h [] = tt
every-keep f P h (e ∷ t) = go (f e.0 e.1) refl (every-keep f P h t)
  where
    go : (b : Bool) → f e.0 e.1 ≡ b → Every P (keep f t) → Every P (cond b (e ∷ keep f t) (keep f t))
    go true q i = (h e.0 e.1 q, i)
    go false q i = i

every_any : (t : Trace) → Every (λ c r. Unit {0}) t
every_any [] = tt
every_any (e ∷ t) = (tt, every_any t)

accepts : (p : Bytes) (t : Trace) → Every (λ c r. accepted r ≡ true) (origin p t)
unfolding origin
accepts p t = every-reverse (λ c r. accepted r ≡ true) (origin_of (reverse t) p) (origin-every (λ c r. accepted r ≡ true) (λ c r. Unit {0})
    (λ was before q c r ok w. ok)
    (λ u ns c r v e y ok. every-keep (is_of u) (λ c r. accepted r ≡ true) (λ c r h. (both (accepted r) (builds u r.answer (kind c)) h).0) v)
    (reverse t) (every_any (reverse t)) p)

-- a call that changes objects is a COMMIT, or one that neither opens an upload nor sends a part
abbrev OfKind : Option Change → Kind → Type 0
OfKind none k = Unit {0}
OfKind (some (sets p x)) k = k ≡ other
OfKind (some (copies n p q)) k = k ≡ other
OfKind (some (joins u ns)) k = k ≡ commits u
OfKind (some (removes ps)) k = k ≡ other

change-kind : (c : Call) → OfKind (change c) (kind c)
change-kind (PUT k q d ps) = refl
change-kind (GET q b m) = tt
change-kind (HEAD q m) = tt
change-kind (DELETE q) = refl
change-kind (COPY k q z) = refl
change-kind (LIST prefix suffix b) = tt
change-kind (INITIATE k q ps) = tt
change-kind (PART v n d) = tt
change-kind (COMMIT v ns) = refl
change-kind (ABORT v) = tt
change-kind (UPLOADS prefix b) = tt
change-kind (DELETE-OBJECTS names ps left_over b) = refl
change-kind (SWEEP t n) = tt

writer-builds-none : (u : ℕ) (a : Answer) (was : Bytes → Option Object) (before : Trace) (p : Bytes) (x : Option Change) (k : Kind) → OfKind x k →
    is_to p (also x (writes was before)) ≡ true → builds u a k ≡ false
writer-builds-none u a was before p none k e h = absurd (false≢true h)
writer-builds-none u a was before p (some (sets q x)) k e h = rw e
writer-builds-none u a was before p (some (copies n q z)) k e h = rw e
writer-builds-none u a was before p (some (joins v ns)) k e h = rw e
writer-builds-none u a was before p (some (removes qs)) k e h = rw e

-- a number is one upload's
other-number : (u v n : ℕ) → (u ≡ v → ⊥) → eqb v n ≡ true → eqb u n ≡ false
other-number u v n d h = ne_eqb u n (λ q. d (q ∙ sym (eqb-true v n h)))

other-answer : (u v : ℕ) (a : Answer) → (u ≡ v → ⊥) → answers v a ≡ true → answers u a ≡ false
other-answer u v nothing d h = refl
other-answer u v (metadata l c e n k) d h = refl
other-answer u v (etag e) d h = refl
other-answer u v (number n) d h = other-number u v n d h
other-answer u v (counts r b) d h = refl
other-answer u v (swept c m) d h = refl

-- what built one upload built no other
other-builds : (u v : ℕ) (a : Answer) (k : Kind) → (u ≡ v → ⊥) → builds v a k ≡ true → builds u a k ≡ false
other-builds u v a looks d h = refl
other-builds u v a (initiates t p m) d h = other-answer u v a d h
other-builds u v a (sends w n x) d h = other-number u v w d h
other-builds u v a (commits w) d h = refl
other-builds u v a other d h = refl

abbrev Unnamed : ℕ → Call → Reply → Type 0
Unnamed u c r = commit_of u (kind c) ≡ true → accepted r ≡ false

unnamed : (u : ℕ) (t : Trace) → NoCommitAccepted u t → Every (Unnamed u) t
unnamed u [] h = tt
unnamed u (e ∷ t) h = (h.0, unnamed u t h.1)

abbrev BuildsNot : ℕ → Call → Reply → Type 0
BuildsNot u c r = builds u r.answer (kind c) ≡ false

uncommitted : (u : ℕ) (p : Bytes) (t : Trace) → NoCommitAccepted u t → Every (BuildsNot u) (origin p t)
unfolding origin
uncommitted u p t n = every-reverse (BuildsNot u) (origin_of (reverse t) p) (origin-every (BuildsNot u) (Unnamed u)
    (λ was before q c r ok w. writer-builds-none u r.answer was before q (change c) (kind c) (change-kind c) w)
    (λ v ns c r z q y ok. every-keep (is_of v) (BuildsNot u)
    (λ d s h. other-builds u v s.answer (kind d)
    (λ e. false≢true (sym (y (ap (commit_of u) (subst (λ (x : Option Change). OfKind x (kind c)) q (change-kind c)) ∙ eq-eqb u v e)) ∙ ok))
    (both (accepted s) (builds v s.answer (kind d)) h).1) z)
    (reverse t) (every-reverse (Unnamed u) t (unnamed u t n)) p)

pub origins : Origin
origins = record { enough = from-origin; picked = picked; accepts = accepts; uncommitted = uncommitted }
