-- What an accepted call does to the state: it opens an upload, sets a part, or has effects of other kinds, one after the other.
-- What needs the states before and after a call alone is shown over this, not over the calls.
-- Assumes nothing.
use Prim.Native.Nat.{ℕ, ◌≤◌}
use mathlib.Core.Path.{◌≡◌, refl, subst}
use mathlib.Core.Bool.{true, false, ◌&&◌}
use mathlib.Core.List.{List, [], ◌∷◌}
use mathlib.Core.Option.{Option, none, some}
use native.Mathlib.Omega.{arith}
use borrow.Author.Tests.{leb-true}
use lib.Dec.{leb}
use lib.ListN.{length}
use Rattle.base_order.proofs.OrderLaws.{numbers, bytes}
use Rattle.machine.specs.Map.{Map, by_number, lookup, total}
use Rattle.machine.specs.Names.{Bytes, new_path_ok, stamp_ok, request_part_ok, last_upload_number}
use Rattle.machine.specs.Pairs.{pair_map, kept_ok}
use Rattle.machine.specs.Digest.{md5, length-md5}
use Rattle.machine.specs.Etags.{plain}
use Rattle.machine.specs.State.{Object, Part, Upload, State, with_object, without_object, with_upload, without_upload, with_next, with_part, parts_in, held, counted}
use Rattle.machine.specs.Calls.{Call, PUT, GET, HEAD, DELETE, COPY, LIST, INITIATE, PART, COMMIT, ABORT, UPLOADS, DELETE-OBJECTS, SWEEP, NamePlace, Answer, nothing, Buffers, no_buffers, etag, number, Reply, Refusal, badRequest, Outcome, refuse, accept, given, lent}
use Rattle.machine.specs.Steps.{new_upload, new_part, joined_object, take_listed, put_at, delete_at, delete_place, after_places, abort_at, to_sweep, after_aborts, act, reply_of, after, reply, next}
use Rattle.machine.specs.Valid.{ObjectOk, UploadOk, Valid}
use Rattle.machine.specs.Demand3.{Kind, looks, initiates, sends, commits, other, kind, answers}
use Rattle.machine.proofs.Options.{both}
use Rattle.machine.proofs.MapLaws.{every-lookup}
use Rattle.machine.proofs.MapSums.{total-remove}
use Rattle.machine.proofs.ListFits.{fit_length}
use Rattle.machine.proofs.Counts.{held-commit}
use Rattle.machine.proofs.Rules.{new-stored}
use Rattle.machine.proofs.PairLaws.{taken-kept}
use Rattle.machine.proofs.Outcome.{Then, then-else, then-given, then-object, then-put, then-step}
use Rattle.machine.proofs.Places.{placed, then-place}

-- an object that keeps the rules, in a state that keeps the ceilings
pub record Sound (A : ℕ) (p : Bytes) (x : Object) (s : State) : Type 0 where
  pub object : ObjectOk p x
  pub counts : counted s ≡ true
  pub room : held s ≤ A

-- objects set and removed, open uploads closed, from one state to another, by a call over s: what is set is sound where s is valid
pub data Effects (A : ℕ) (s : State) : State → State → Type 0 where
  stop : {a : State} → Effects A s a a
  sets : {a b : State} (p : Bytes) (x : Object) → (Valid A s → Sound A p x (with_object a p x)) → Effects A s (with_object a p x) b → Effects A s a b
  removes : {a b : State} (p : Bytes) → Effects A s (without_object a p) b → Effects A s a b
  closes : {a b : State} (u : ℕ) (x : Upload) → lookup by_number u a.U ≡ some x → Effects A s (without_upload a u) b → Effects A s a b

-- neither INITIATE nor PART
abbrev pub Quiet : Kind → Type 0
Quiet looks = Unit {0}
Quiet (initiates t p m) = ⊥
Quiet (sends u n d) = ⊥
Quiet (commits u) = Unit {0}
Quiet other = Unit {0}

-- the state with a new upload, and with a part of an open one
abbrev pub with_opened : State → (stamp : ℕ) (path : Bytes) → Map Bytes Bytes → State
with_opened s t p m = with_next (with_upload s s.N (new_upload t p m))

abbrev pub with_sent : State → (upload : ℕ) → Upload → (number : ℕ) (content : Bytes) → State
with_sent s u x n d = with_upload s u (with_part x n (new_part d))

-- what an accepted call of a kind does over s, with its answer and the state after
pub data Does (A : ℕ) (s : State) : Kind → Answer → State → Type 0 where
  opens-upload : (t : ℕ) (p : Bytes) (m : Map Bytes Bytes) → stamp_ok t && new_path_ok p ≡ true → kept_ok m ≡ true → counted (with_opened s t p m) ≡ true →
      leb (held (with_opened s t p m)) A ≡ true → leb s.N last_upload_number ≡ true → Does A s (initiates t p m) (number s.N) (with_opened s t p m)
  sets-part : (u : ℕ) (x : Upload) (n : ℕ) (d : Bytes) → request_part_ok n ≡ true → lookup by_number u s.U ≡ some x →
      counted (with_sent s u x n d) ≡ true → leb (held (with_sent s u x n d)) A ≡ true → Does A s (sends u n d) (etag (plain (md5 d))) (with_sent s u x n d)
  has-effects : {k : Kind} {r : Answer} {s' : State} → Quiet k → ((n : ℕ) → answers n r ≡ false) → Effects A s s s' → Does A s k r s'

-- a COMMIT joins at most 256 parts
few : (m : Map ℕ Upload) (u : ℕ) (x : Upload) (ns : List ℕ) (xs : List Part) → total parts_in m ≤ 256 → lookup by_number u m ≡ some x → take_listed ns x.parts ≡ some xs → length xs ≤ 256
few m u x ns xs h e f = omega (arith, h, rw e at (total-remove numbers parts_in u m), fit_length ns x.parts xs f)

module _ (A : ℕ) (s : State) where
  put-does : (t : ℕ) (p d : Bytes) (m : Map Bytes Bytes) → stamp_ok t ≡ true → new_path_ok p ≡ true → (Valid A s → kept_ok m ≡ true) →
      Then (λ r out s'. Does A s other r s') (put_at A s t p d m)
  put-does t p d m ht hp hm = then-put _ A s t p d m λ c r. has-effects tt (λ n. refl) (sets p _ (λ v. record {
    object = record { path = new-stored p hp; stamp = ht; etag = length-md5 d; pairs = hm v };
    counts = c;
    room = leb-true _ _ r;
  }) stop)

  joined-sound : (u : ℕ) (x : Upload) (ns : List ℕ) (xs : List Part) → let s' : State = without_upload (with_object s x.path (joined_object x xs)) u in
      lookup by_number u s.U ≡ some x → take_listed ns x.parts ≡ some xs → counted s' ≡ true → Valid A s → Sound A x.path (joined_object x xs) s'
  joined-sound u x ns xs e f c v =
      let o = every-lookup numbers (UploadOk s.N) u x s.U v.upload e in
      record {
        object = record { path = o.path; stamp = o.stamp; etag = (length-md5 _, few s.U u x ns xs v.parts e f); pairs = o.pairs };
        counts = c;
        room = let h = held-commit s u x ns xs x.path e f in omega (arith, v.room);
      }

  -- the DELETE of a path and what follows it
  deleted : (a : State) (p : Bytes) (o : Outcome) → Then (λ r out s'. (r ≡ nothing) × (s' ≡ without_object a p)) o → {b : State} → Effects A s (after a o) b → Effects A s a b
  unfolding Then
  deleted a p (refuse n) h e = e
  deleted a p (accept r out s') h {b} e = removes p (subst (λ (z : State). Effects A s z b) h.1 e)

  places-do : (a : State) (names : Bytes) (ps : List NamePlace) → Effects A s a (after_places a names ps)
  places-do a names [] = stop
  places-do a names (p ∷ ps) =
      deleted a (placed names p) (delete_place a names p) (then-place a names p) (places-do (after a (delete_place a names p)) names ps)

  -- the ABORT of uploads, one after the other
  aborts-do : (a : State) (us : List ℕ) → Effects A s a (after_aborts a us)
  unfolding abort_at given
  aborts-do a [] = stop
  aborts-do a (u ∷ us) = go (lookup by_number u a.U) refl (aborts-do (after a (abort_at a u)) us)
    where
      go : (o : Option Upload) → lookup by_number u a.U ≡ o → {b : State} → Effects A s (after a (given o badRequest λ x. accept nothing no_buffers (without_upload a u))) b → Effects A s a b
      go none e h = h
      go (some x) e h = closes u x e h

  act-does : (c : Call) → Then (λ r out s'. Does A s (kind c) r s') (act A s c)
  unfolding act delete_at abort_at Then
  act-does (PUT t p d ps) =
      then-else _ _ _ _ λ h. let a = both _ _ h in let b = both _ _ a.0 in put-does t p d (pair_map ps) b.0 b.1 (λ v. taken-kept ps a.1)
  act-does (GET p b m) = then-object _ s p _ λ x. then-else _ _ _ _ λ _. then-else _ _ _ _ λ _. has-effects tt (λ n. refl) stop
  act-does (HEAD p m) = then-object _ s p _ λ x. then-else _ _ _ _ λ _. has-effects tt (λ n. refl) stop
  act-does (DELETE p) = then-else _ _ _ _ λ _. then-given _ _ _ _ λ x _. has-effects tt (λ n. refl) (removes p stop)
  act-does (COPY t p q) =
      then-else _ _ _ _ λ h.
      then-given _ _ _ _ λ x e.
      let b = both _ _ h in
      let c = both _ _ b.0 in
      put-does t q x.content x.pairs c.0 b.1 (λ v. (every-lookup bytes ObjectOk p x s.O v.object e).pairs)
  act-does (LIST prefix suffix b) = then-else _ _ _ _ λ _. has-effects tt (λ n. refl) stop
  act-does (INITIATE t p ps) =
      then-else _ _ _ _ λ h.
      then-else _ _ _ _ λ c.
      then-else _ _ _ _ λ r.
      then-else _ _ _ _ λ l.
      let a = both _ _ h in opens-upload t p (pair_map ps) a.0 (taken-kept ps a.1) c r l
  act-does (PART u n d) = then-else _ _ _ _ λ h. then-given _ _ _ _ λ x e. then-else _ _ _ _ λ c. then-else _ _ _ _ λ r. sets-part u x n d h e c r
  act-does (COMMIT u ns) =
      then-given _ _ _ _ λ x e.
      then-given _ _ _ _ λ xs f.
      then-else _ _ _ _ λ c.
      has-effects tt (λ n. refl) (closes u x e (sets x.path _ (joined-sound u x ns xs e f c) stop))
  act-does (ABORT u) = then-given _ _ _ _ λ x e. has-effects tt (λ n. refl) (closes u x e stop)
  act-does (UPLOADS prefix b) = then-else _ _ _ _ λ _. has-effects tt (λ n. refl) stop
  act-does (DELETE-OBJECTS names ps left_over b) =
      then-else _ _ _ _ λ _. then-else _ _ _ _ λ _. then-else _ _ _ _ λ _. has-effects tt (λ n. refl) (places-do s names ps)
  act-does (SWEEP t n) = then-else _ _ _ _ λ _. has-effects tt (λ n. refl) (aborts-do s (to_sweep t n s.U))

  -- what holds where a call is refused, and of whatever an accepted one does, holds of every call's reply and the state after it
  pub step-does : (P : Reply → State → Type 0) (c : Call) → ((n : Refusal) → P (reply_of (lent c) (refuse n)) s) →
      ((r : Answer) (out : Buffers) (s' : State) → Does A s (kind c) r s' → P (reply_of (lent c) (accept r out s')) s') → P (reply A s c) (next A s c)
  step-does P c h k = then-step _ P s (lent c) (act A s c) (act-does c) h k
