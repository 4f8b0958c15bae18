-- Demand 3's first claim: an accepted COMMIT joins what the last accepted PARTs carried.
-- What the open uploads hold agrees, after each step, with what the calls and replies so far tell.
-- Assumes nothing.
use Prim.Native.Nat.{ℕ, ◌+◌, ◌≤◌, ◌<◌}
use mathlib.Core.Path.{◌≡◌, refl, sym, ap, ◌∙◌, subst}
use mathlib.Core.Bool.{true, ◌&&◌, cond, false≢true}
use mathlib.Core.List.{List, [], ◌∷◌, map}
use mathlib.Core.Option.{Option, none, some}
use native.Mathlib.Omega.{arith}
use native.Mathlib.Decide.{ℕ_discrete}
use borrow.Author.Tests.{le-leb, eq-eqb, ne_eqb}
use lib.Dec.{eqb}
use lib.ListN.{length}
use Rattle.base_order.specs.Order.{by_bytes}
use Rattle.base_order.proofs.OrderLaws.{numbers, bytes}
use Rattle.machine.specs.Map.{is_some, Map, by_number, lookup, insert, remove, mapped, Ascending}
use Rattle.machine.specs.Names.{Bytes, stored_path_ok}
use Rattle.machine.specs.Pairs.{encode_pairs}
use Rattle.machine.specs.Digest.{md5}
use Rattle.machine.specs.State.{Object, Part, Upload, State, fresh, with_object, without_upload, with_part}
use Rattle.machine.specs.Calls.{Call, GET, COMMIT, Answer, buffers, no_buffers, given, lent, ◌else◌then◌}
use Rattle.machine.specs.Steps.{new_upload, new_part, joined_object, about, over, contents, digests, take_listed, object_at, act, reply, next}
use Rattle.machine.specs.Lists.{Trace, trace, final}
use Rattle.machine.specs.Valid.{UploadOk, Valid}
use Rattle.machine.specs.ListFits.{all_found, listed_parts}
use Rattle.machine.specs.Demand3.{Kind, looks, initiates, sends, commits, other, accepted, ◌or◌, carries, carried, last_part, last_parts, Start, opens, opened, start_of, concat, joined_from, Leaves, calls, CommitsJoin}
use Rattle.machine.proofs.Options.{both}
use Rattle.machine.proofs.MapLaws.{ascending-remove, every-lookup, lookup-insert, lookup-insert-other}
use Rattle.machine.proofs.ListFits.{lookup-kept, fit-listed, fit-once, fit_all}
use Rattle.machine.proofs.Rules.{stored-requested, stored-not-root}
use Rattle.machine.proofs.Traces.{cut, final-append}
use Rattle.machine.proofs.Outcome.{refused-not-accepted, Then, then-else, then-given, then-step}
use Rattle.machine.proofs.Effects.{Effects, stop, sets, removes, closes, Quiet, Does, opens-upload, sets-part, has-effects, step-does}
use Rattle.machine.proofs.KeepsValid.{next-valid, fresh-valid, final-valid}

-- what an upload has from its INITIATE
abbrev pub start_from : Upload → Start
start_from x = record { stamp = x.started; path = x.path; pairs = x.pairs }

-- f tells what the last PART carried, and g the start, of each upload so far
pub record Agrees (m : Map ℕ Upload) (N : ℕ) (f : ℕ → ℕ → Option Bytes) (g : ℕ → Option Start) : Type 0 where
  pub parts : (u : ℕ) (x : Upload) → lookup by_number u m ≡ some x → (n : ℕ) → lookup by_number n x.parts ≡ mapped new_part (f u n)
  pub start : (u : ℕ) (x : Upload) → lookup by_number u m ≡ some x → g u ≡ some (start_from x)
  pub later : (u n : ℕ) → N ≤ u → f u n ≡ none

-- INITIATE
initiated : (m : Map ℕ Upload) (N : ℕ) (f : ℕ → ℕ → Option Bytes) (g : ℕ → Option Start) (t : ℕ) (p : Bytes) (ps : Map Bytes Bytes) → Agrees m N f g →
    Agrees (insert by_number N (new_upload t p ps) m) (N + 1) f (λ u. cond (eqb u N) (some (start_from (new_upload t p ps))) none or g u)
initiated m N f g t p ps a = record {
  parts = λ u x h n. parts u x h n (ℕ_discrete u N);
  start = λ u x h. start u x h (ℕ_discrete u N);
  later = λ u n h. a.later u n (omega arith);
}
  where
    new : Upload
    new = new_upload t p ps

    is-new : (x : Upload) → lookup by_number N (insert by_number N new m) ≡ some x → new ≡ x
    is-new x h = let e = lookup-insert numbers N new m in cc

    parts : (u : ℕ) (x : Upload) → lookup by_number u (insert by_number N new m) ≡ some x → (n : ℕ) → Dec (u ≡ N) → lookup by_number n x.parts ≡ mapped new_part (f u n)
    parts u x h n (yes e) = rw (← is-new x (rw e at h), a.later u n (omega arith))
    parts u x h n (no d) = a.parts u x (sym (lookup-insert-other numbers u N new m d) ∙ h) n

    start : (u : ℕ) (x : Upload) → lookup by_number u (insert by_number N new m) ≡ some x → Dec (u ≡ N) → cond (eqb u N) (some (start_from (new_upload t p ps))) none or g u ≡ some (start_from x)
    start u x h (yes e) = rw (← is-new x (rw e at h), eq-eqb u N e)
    start u x h (no d) = rw (ne_eqb u N d) (a.start u x (sym (lookup-insert-other numbers u N new m d) ∙ h))

-- PART (u, n, d) puts d for the last
abbrev sending : ℕ → ℕ → Bytes → (ℕ → ℕ → Option Bytes) → ℕ → ℕ → Option Bytes
sending u n d f v k = cond (eqb v u && eqb k n) (some d) none or f v k

sent-part : (m : Map ℕ Upload) (N : ℕ) (f : ℕ → ℕ → Option Bytes) (g : ℕ → Option Start) (u n : ℕ) (d : Bytes) (x : Upload) →
    lookup by_number u m ≡ some x → u < N → Agrees m N f g → Agrees (insert by_number u (with_part x n (new_part d)) m) N (sending u n d f) g
sent-part m N f g u n d x h l a = record {
  parts = λ v y q k. parts v y q k (ℕ_discrete v u) (ℕ_discrete k n);
  start = λ v y q. start v y q (ℕ_discrete v u);
  later = λ v k q. rw (ne_eqb v u (λ w. let z = w in omega arith)) (a.later v k q);
}
  where
    part : Part
    part = new_part d

    new : Upload
    new = with_part x n part

    is-new : (y : Upload) → lookup by_number u (insert by_number u new m) ≡ some y → new ≡ y
    is-new y q = let w = lookup-insert numbers u new m in cc

    parts : (v : ℕ) (y : Upload) → lookup by_number v (insert by_number u new m) ≡ some y → (k : ℕ) → Dec (v ≡ u) → Dec (k ≡ n) → lookup by_number k y.parts ≡ mapped new_part (sending u n d f v k)
    parts v y q k (yes i) (yes j) = rw (← is-new y (rw i at q), eq-eqb v u i, eq-eqb k n j, j, lookup-insert numbers n part x.parts)
    parts v y q k (yes i) (no j) =
        rw (← is-new y (rw i at q), eq-eqb v u i, ne_eqb k n j, lookup-insert-other numbers k n part x.parts j) (a.parts v x (rw i h) k)
    parts v y q k (no i) _ = rw (ne_eqb v u i) (a.parts v y (sym (lookup-insert-other numbers v u new m i) ∙ q) k)

    start : (v : ℕ) (y : Upload) → lookup by_number v (insert by_number u new m) ≡ some y → Dec (v ≡ u) → g v ≡ some (start_from y)
    start v y q (yes i) = rw (← is-new y (rw i at q)) (a.start v x (rw i h))
    start v y q (no i) = a.start v y (sym (lookup-insert-other numbers v u new m i) ∙ q)

-- COMMIT and ABORT
closed : (m : Map ℕ Upload) (N : ℕ) (f : ℕ → ℕ → Option Bytes) (g : ℕ → Option Start) (u : ℕ) → Ascending by_number m → Agrees m N f g → Agrees (remove by_number u m) N f g
closed m N f g u s a = record {
  parts = λ v x h. a.parts v x (lookup-kept v u m x s h);
  start = λ v x h. a.start v x (lookup-kept v u m x s h);
  later = a.later;
}

-- a call that is neither INITIATE nor PART tells nothing new
quiet-agrees : {m : Map ℕ Upload} {N : ℕ} {f : ℕ → ℕ → Option Bytes} {g : ℕ → Option Start} (r : Answer) (k : Kind) → Quiet k →
    Agrees m N f g → Agrees m N (λ u n. carries u n k or f u n) (λ u. opens u r k or g u)
quiet-agrees r looks q a = a
quiet-agrees r (initiates t p m) q a = absurd q
quiet-agrees r (sends u n d) q a = absurd q
quiet-agrees r (commits u) q a = a
quiet-agrees r other q a = a

module _ (A : ℕ) (s : State) (f : ℕ → ℕ → Option Bytes) (g : ℕ → Option Start) where
  effects-agree : {b c : State} → Effects A s b c → Ascending by_number b.U → Agrees b.U b.N f g → Agrees c.U c.N f g
  effects-agree stop o a = a
  effects-agree (sets p x h more) o a = effects-agree more o a
  effects-agree (removes p more) o a = effects-agree more o a
  effects-agree (closes {a = i} u x e more) o a = effects-agree more (ascending-remove numbers u i.U o) (closed i.U i.N f g u o a)

  does-agree : {k : Kind} {r : Answer} {s' : State} → Valid A s → Agrees s.U s.N f g → Does A s k r s' →
      Agrees s'.U s'.N (λ u n. carries u n k or f u n) (λ u. opens u r k or g u)
  does-agree v a (opens-upload t p m h k c r l) = initiated s.U s.N f g t p m a
  does-agree v a (sets-part u x n d h e c r) = sent-part s.U s.N f g u n d x e (every-lookup numbers (UploadOk s.N) u x s.U v.upload e).high a
  does-agree v a (has-effects {k} {r} q w more) = quiet-agrees r k q (effects-agree more v.uploads a)

  step-agrees : Valid A s → Agrees s.U s.N f g → (c : Call) →
      Agrees (next A s c).U (next A s c).N (λ u n. carried u n (c, reply A s c) or f u n) (λ u. opened u (c, reply A s c) or g u)
  step-agrees v a c =
      step-does A s (λ r s'. Agrees s'.U s'.N (λ u n. carried u n (c, r) or f u n) (λ u. opened u (c, r) or g u)) c
      (λ n. rw (refused-not-accepted (lent c) n) a) (λ r out s' d. does-agree v a d)

pub or_assoc : {X : Type 0} (a b c : Option X) → (a or b) or c ≡ a or (b or c)
or_assoc none b c = refl
or_assoc (some x) b c = refl

pub or-none : {X : Type 0} (a : Option X) → a or none ≡ a
or-none none = refl
or-none (some x) = refl

agrees-same : (m : Map ℕ Upload) (N : ℕ) (f h : ℕ → ℕ → Option Bytes) (g k : ℕ → Option Start) → ((u n : ℕ) → f u n ≡ h u n) → ((u : ℕ) → g u ≡ k u) → Agrees m N f g → Agrees m N h k
agrees-same m N f h g k p q a = record {
  parts = λ u x e n. a.parts u x e n ∙ ap (mapped new_part) (p u n);
  start = λ u x e. sym (q u) ∙ a.start u x e;
  later = λ u n l. sym (p u n) ∙ a.later u n l;
}

run-agrees : (A : ℕ) (s : State) (cs : List Call) (f : ℕ → ℕ → Option Bytes) (g : ℕ → Option Start) → Valid A s → Agrees s.U s.N f g →
    Agrees (final A s cs).U (final A s cs).N (λ u n. last_part u n (trace A s cs) or f u n) (λ u. start_of u (trace A s cs) or g u)
run-agrees A s [] f g v a = a
run-agrees A s (c ∷ cs) f g v a =
    agrees-same _ _ _ _ _ _ (λ u n. sym (or_assoc (last_part u n (trace A (next A s c) cs)) _ _)) (λ u. sym (or_assoc (start_of u (trace A (next A s c) cs)) _ _))
    (run-agrees A (next A s c) cs _ _ (next-valid A s c v) (step-agrees A s f g v a c))

pub fresh-agrees : (A : ℕ) (cs : List Call) → Agrees (final A fresh cs).U (final A fresh cs).N (λ u n. last_part u n (trace A fresh cs)) (λ u. start_of u (trace A fresh cs))
fresh-agrees A cs =
    agrees-same _ _ _ _ _ _ (λ u n. or-none (last_part u n (trace A fresh cs))) (λ u. or-none (start_of u (trace A fresh cs)))
    (run-agrees A fresh cs (λ u n. none) (λ u. none) (fresh-valid A)
    (record { parts = λ u x e n. cc; start = λ u x e. cc; later = λ u n l. refl }))

-- the listed parts, made of what the last PARTs carried
contents-new : (ds : List Bytes) → contents (map new_part ds) ≡ concat ds
contents-new [] = refl
contents-new (d ∷ ds) = rw (contents-new ds)

digests-new : (ds : List Bytes) → digests (map new_part ds) ≡ concat (map md5 ds)
digests-new [] = refl
digests-new (d ∷ ds) = rw (digests-new ds)

length-new : (ds : List Bytes) → length (map new_part ds) ≡ length ds
length-new [] = refl
length-new (d ∷ ds) = rw (length-new ds)

pub joined-new : (x : Upload) (ds : List Bytes) → joined_object x (map new_part ds) ≡ joined_from (start_from x) ds
joined-new x ds = rw (contents-new ds, digests-new ds, length-new ds)

-- what `take_listed` finds in parts that agree with the trace
pub record Sent (u : ℕ) (t : Trace) (m : Map ℕ Part) (ns : List ℕ) : Type 0 where
  pub parts : List Bytes
  pub told : last_parts u t ns ≡ some parts
  pub made : listed_parts m ns ≡ map new_part parts

pub sent : (u : ℕ) (t : Trace) (m : Map ℕ Part) → ((n : ℕ) → lookup by_number n m ≡ mapped new_part (last_part u n t)) → (ns : List ℕ) → all_found m ns ≡ true → Sent u t m ns
sent u t m h [] a = record { parts = []; told = refl; made = refl }
sent u t m h (n ∷ ns) a = let b = both (is_some (lookup by_number n m)) (all_found m ns) a in go (last_part u n t) refl (rw (h n) at b.0) (sent u t m h ns b.1)
  where
    go : (o : Option Bytes) → last_part u n t ≡ o → is_some (mapped new_part (last_part u n t)) ≡ true → Sent u t m ns → Sent u t m (n ∷ ns)
    go none q i r = absurd (false≢true (rw q at i))
    go (some d) q i r = record { parts = d ∷ r.parts; told = rw (q, r.told); made = rw (h n, q, r.made) }

-- GET of what is there
got : (A : ℕ) (s : State) (p : Bytes) (x : Object) (b m : Bytes) → stored_path_ok p ≡ true → lookup by_bytes p s.O ≡ some x →
    length x.content ≤ length b → length (encode_pairs x.pairs) ≤ length m →
    reply A s (GET p b m) ≡ record { result = 0; answer = about x; buffers = buffers (over x.content b) (over (encode_pairs x.pairs) m) }
unfolding act object_at ◌else◌then◌ given
got A s [] x b m h e l k = absurd (stored-not-root h)
got A s (c ∷ p) x b m h e l k = rw (stored-requested (c ∷ p) h, e, le-leb (length x.content) (length b) l, le-leb (length (encode_pairs x.pairs)) (length m) k)

commit-leaves : (A : ℕ) (s : State) (u : ℕ) (ns : List ℕ) (t : Trace) → Valid A s → Agrees s.U s.N (λ u n. last_part u n t) (λ u. start_of u t) →
    accepted (reply A s (COMMIT u ns)) ≡ true → Leaves A t u ns (next A s (COMMIT u ns))
unfolding act Then
commit-leaves A s u ns t v a =
    then-step (λ r out s'. Leaves A t u ns s') (λ r s'. accepted r ≡ true → Leaves A t u ns s') s no_buffers (act A s (COMMIT u ns))
    (then-given _ _ _ _ λ x e. then-given _ _ _ _ λ xs f. then-else _ _ _ _ λ _. go x e xs f)
    (λ n ok. absurd (false≢true (sym (refused-not-accepted no_buffers n) ∙ ok))) (λ r out s' h ok. h)
  where
    go : (x : Upload) → lookup by_number u s.U ≡ some x → (xs : List Part) → take_listed ns x.parts ≡ some xs → Leaves A t u ns (without_upload (with_object s x.path (joined_object x xs)) u)
    go x e xs f =
        let o = every-lookup numbers (UploadOk s.N) u x s.U v.upload e in
        let l = fit-listed ns x.parts xs o.sorted f in
        let w = sent u t x.parts (a.parts u x e) ns l.0 in
        let q : joined_object x xs ≡ joined_from (start_from x) w.parts = ap (joined_object x) (l.1 ∙ w.made) ∙ joined-new x w.parts in
        let s' : State = without_upload (with_object s x.path (joined_object x xs)) u in
        let h : lookup by_bytes x.path s'.O ≡ some (joined_from (start_from x) w.parts) = lookup-insert bytes x.path (joined_object x xs) s.O ∙ ap some q in
        record {
          start = start_from x;
          parts = w.parts;
          of-upload = a.start u x e;
          sent = w.told;
          once = fit-once ns x.parts xs o.sorted f;
          all = λ n d q. fit_all ns x.parts xs o.sorted f n (new_part d) (a.parts u x e n ∙ ap (mapped new_part) q);
          there = h;
          read = λ b m g k. got A s' x.path (joined_from (start_from x) w.parts) b m o.path h g k;
        }

pub commits-join : (A : ℕ) (cs : List Call) → CommitsJoin A cs
unfolding CommitsJoin
commits-join A cs before after u ns r e ok =
    let k = cut A fresh cs before after (COMMIT u ns) r e in
    let s = final A fresh (calls before) in
    let l = commit-leaves A s u ns (trace A fresh (calls before)) (final-valid A fresh (calls before) (fresh-valid A)) (fresh-agrees A (calls before))
    (ap accepted k.replied ∙ ok) in
    rw (final-append A fresh (calls before) (COMMIT u ns ∷ [])) (subst (λ (t : Trace). Leaves A t u ns (next A s (COMMIT u ns))) k.first l)
