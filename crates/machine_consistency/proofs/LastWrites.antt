-- What is read at a path is what the last accepted call that writes it left there, for every list of calls.
-- Assumes nothing.
use Prim.Native.Nat.{ℕ}
use mathlib.Core.Path.{◌≡◌, refl, sym, ap, ◌∙◌, subst}
use mathlib.Core.Bool.{Bool, true, false, cond, ◌||◌}
use mathlib.Core.List.{List, [], ◌∷◌, ◌++◌, reverse, reverse-cons, reverse-append, reverse-reverse}
use mathlib.Core.Option.{Option, none, some}
use Rattle.base_order.specs.Order.{by_bytes, same}
use Rattle.base_order.proofs.OrderLaws.{bytes, numbers, same_true}
use Rattle.machine.specs.Map.{Map, by_number, lookup, insert, also}
use Rattle.machine.specs.Names.{Bytes}
use Rattle.machine.specs.Pairs.{pair_map}
use Rattle.machine.specs.State.{Object, Part, Upload, State, fresh}
use Rattle.machine.specs.Calls.{Call, PUT, GET, HEAD, DELETE, COPY, LIST, INITIATE, PART, COMMIT, ABORT, UPLOADS, DELETE-OBJECTS, SWEEP, Reply, lent}
use Rattle.machine.specs.Steps.{plain_object, joined_object, take_listed, delete_at, abort_at, to_sweep, act, reply, next}
use Rattle.machine.specs.Lists.{Trace, trace, final}
use Rattle.machine.specs.Valid.{UploadOk, Valid}
use Rattle.machine.specs.Demand3.{last_part, start_of, joined_from}
use Rattle.machine_consistency.specs.LastWrites.{Change, sets, copies, joins, removes, change, Write, writes, written, among, is_to, left, last_write}
use Rattle.machine.proofs.MapLaws.{every-lookup, lookup-insert, lookup-insert-other}
use Rattle.machine.proofs.ListFits.{fit-listed}
use Rattle.machine.proofs.Outcome.{refused-not-accepted, Then, then-else, then-given, then-object, then-put, then-step}
use Rattle.machine.proofs.Sweeping.{aborts-objects}
use Rattle.machine.proofs.KeepsValid.{fresh-valid, final-valid}
use Rattle.machine.proofs.Commits.{start_from, Agrees, fresh-agrees, sent, joined-new}
use Rattle.machine.proofs.Traces.{final-append, trace-append}
use Rattle.machine_consistency.proofs.Removing.{differ, Removed, no_more, gone, removed-changed, places-removed}

-- What a path has after a write ------------------------------------------------------------------------------------------

-- what the write leaves, if it is to this path, else what was there
abbrev changed : Bytes → Option Write → Option Object → Option Object
changed p w x = cond (is_to p w) (left w) x

insert-changed : (p q : Bytes) (x : Object) (o : Map Bytes Object) (y : Option Object) → lookup by_bytes p o ≡ y →
    lookup by_bytes p (insert by_bytes q x o) ≡ cond (among p (q ∷ [])) (some x) y
insert-changed p q x o y h = go (same p q) refl
  where
    go : (b : Bool) → same p q ≡ b → lookup by_bytes p (insert by_bytes q x o) ≡ cond (b || false) (some x) y
    go true e = rw (same_true p q e) (lookup-insert bytes q x o)
    go false e = lookup-insert-other bytes p q x o (differ p q e) ∙ h

-- One call ----------------------------------------------------------------------------------------------------------------------

-- what an accepted call makes of the objects of s
abbrev pub Changed : State → Option Change → Map Bytes Object → Type 0
Changed s none o = o ≡ s.O
Changed s (some (sets p x)) o = o ≡ insert by_bytes p x s.O
Changed s (some (copies t p q)) o = (x : Object) × (lookup by_bytes p s.O ≡ some x) × (o ≡ insert by_bytes q (plain_object t x.content x.pairs) s.O)
Changed s (some (joins u ns)) o =
    (x : Upload) × (xs : List Part) × (lookup by_number u s.U ≡ some x) × (take_listed ns x.parts ≡ some xs) × (o ≡ insert by_bytes x.path (joined_object x xs) s.O)
Changed s (some (removes ps)) o = Removed ps s.O o

pub act-changes : (A : ℕ) (s : State) (c : Call) → Then (λ r out s'. Changed s (change c) s'.O) (act A s c)
unfolding act delete_at abort_at Then
act-changes A s (PUT t p d ps) = then-else _ _ _ _ λ _. then-put _ A s t p d (pair_map ps) λ _ _. refl
act-changes A s (GET p b m) = then-object _ s p _ λ x. then-else _ _ _ _ λ _. then-else _ _ _ _ λ _. refl
act-changes A s (HEAD p m) = then-object _ s p _ λ x. then-else _ _ _ _ λ _. refl
act-changes A s (DELETE p) = then-else _ _ _ _ λ _. then-given _ _ _ _ λ x _. gone p no_more
act-changes A s (COPY t p q) = then-else _ _ _ _ λ _. then-given _ _ _ _ λ x e. then-put _ A s t q x.content x.pairs λ _ _. (x, e, refl)
act-changes A s (LIST prefix suffix b) = then-else _ _ _ _ λ _. refl
act-changes A s (INITIATE t p ps) = then-else _ _ _ _ λ _. then-else _ _ _ _ λ _. then-else _ _ _ _ λ _. then-else _ _ _ _ λ _. refl
act-changes A s (PART u n d) = then-else _ _ _ _ λ _. then-given _ _ _ _ λ x _. then-else _ _ _ _ λ _. then-else _ _ _ _ λ _. refl
act-changes A s (COMMIT u ns) = then-given _ _ _ _ λ x e. then-given _ _ _ _ λ xs f. then-else _ _ _ _ λ _. (x, xs, e, f, refl)
act-changes A s (ABORT u) = then-given _ _ _ _ λ x _. refl
act-changes A s (UPLOADS prefix b) = then-else _ _ _ _ λ _. refl
act-changes A s (DELETE-OBJECTS names ps left_over b) = then-else _ _ _ _ λ _. then-else _ _ _ _ λ _. then-else _ _ _ _ λ _. places-removed A s names ps
act-changes A s (SWEEP t n) = then-else _ _ _ _ λ _. aborts-objects s (to_sweep t n s.U)

module _ (A : ℕ) (s : State) (t : Trace) (v : Valid A s) (a : Agrees s.U s.N (λ u n. last_part u n t) (λ u. start_of u t))
    (was : Bytes → Option Object) (w : (p : Bytes) → lookup by_bytes p s.O ≡ was p) where
  -- the object that COMMIT makes, told by the calls and replies
  told : (u : ℕ) (ns : List ℕ) (x : Upload) (xs : List Part) → lookup by_number u s.U ≡ some x → take_listed ns x.parts ≡ some xs →
      writes was t (joins u ns) ≡ some (x.path ∷ [], some (joined_object x xs))
  told u ns x xs e f =
      let l = fit-listed ns x.parts xs (every-lookup numbers (UploadOk s.N) u x s.U v.upload e).sorted f in
      let d = sent u t x.parts (a.parts u x e) ns l.0 in
      let q : joined_object x xs ≡ joined_from (start_from x) d.parts = ap (joined_object x) (l.1 ∙ d.made) ∙ joined-new x d.parts in
      rw (a.start u x e, d.told) (ap (λ (y : Object). some (x.path ∷ [], some y)) (sym q))

  wrote : (k : Option Change) (o : Map Bytes Object) → Changed s k o → (p : Bytes) → lookup by_bytes p o ≡ changed p (also k (writes was t)) (was p)
  wrote none o h p = rw h (w p)
  wrote (some (sets q x)) o h p = rw h (insert-changed p q x s.O (was p) (w p))
  wrote (some (copies n q r)) o (x, e, h) p = rw (h, ← w q, e) (insert-changed p r _ s.O (was p) (w p))
  wrote (some (joins u ns)) o (x, xs, e, f, h) p =
      rw h (insert-changed p x.path _ s.O (was p) (w p) ∙ ap (λ (y : Option Write). changed p y (was p)) (sym (told u ns x xs e f)))
  wrote (some (removes qs)) o h p = removed-changed p h (was p) v.objects v.object (w p)

  step-wrote : (c : Call) (p : Bytes) → lookup by_bytes p (next A s c).O ≡ changed p (written was t (c, reply A s c)) (was p)
  step-wrote c p =
      then-step _ (λ r s'. lookup by_bytes p s'.O ≡ changed p (written was t (c, r)) (was p)) s (lent c) (act A s c) (act-changes A s c)
      (λ n. w p ∙ ap (λ (x : Bool). changed p (cond x (also (change c) (writes was t)) none) (was p)) (sym (refused-not-accepted (lent c) n))) (λ r out s' h. wrote (change c) s'.O h p)

-- A list of calls -----------------------------------------------------------------------------------------------------------------

-- from the empty list, and one call more
by-snoc : (P : List Call → Type 0) → P [] → ((cs : List Call) (c : Call) → P cs → P (cs ++ c ∷ [])) → (cs : List Call) → P cs
by-snoc P base more cs = subst P (reverse-reverse cs) (go (reverse cs))
  where
    go : (rs : List Call) → P (reverse rs)
    go [] = base
    go (c ∷ rs) = subst P (sym (reverse-cons c rs)) (more (reverse rs) c (go rs))

-- the last write, with one call more
pub last_snoc : (p : Bytes) (t : Trace) (e : Call × Reply) → last_write p (t ++ e ∷ []) ≡ changed p (written (λ q. last_write q t) t e) (last_write p t)
unfolding last_write
last_snoc p t e = rw (reverse-append t (e ∷ []), reverse-reverse t)

pub reads-last-write : (A : ℕ) (cs : List Call) (p : Bytes) → lookup by_bytes p (final A fresh cs).O ≡ last_write p (trace A fresh cs)
unfolding last_write
reads-last-write A = by-snoc (λ cs. (p : Bytes) → lookup by_bytes p (final A fresh cs).O ≡ last_write p (trace A fresh cs)) (λ p. refl) λ cs c h p.
    let t = trace A fresh cs in
    let s = final A fresh cs in
    ap (λ (x : State). lookup by_bytes p x.O) (final-append A fresh cs (c ∷ []))
    ∙ step-wrote A s t (final-valid A fresh cs (fresh-valid A)) (fresh-agrees A cs) (λ q. last_write q t) h c p
    ∙ sym (ap (last_write p) (trace-append A fresh cs (c ∷ [])) ∙ last_snoc p t (c, reply A s c))
