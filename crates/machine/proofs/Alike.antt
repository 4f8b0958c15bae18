-- Two states that are alike but for one upload's parts, and what a call does to both: it answers alike, unless it is refused by 4 or 5.
-- Assumes nothing.
use Prim.Native.Nat.{ℕ, zero, suc}
use mathlib.Core.Path.{◌≡◌, refl, sym, ap, ◌∙◌, subst}
use mathlib.Core.Bool.{Bool, true, false, cond, false≢true}
use mathlib.Core.List.{List, [], ◌∷◌, map}
use mathlib.Core.Option.{Option, none, some}
use borrow.Author.Tests.{eq-eqb, ne_eqb, eqb-true, eqb-false}
use lib.Dec.{eqb}
use lib.ListN.{length, take}
use Rattle.base_order.proofs.OrderLaws.{numbers}
use Rattle.machine.specs.Map.{Map, by_number, lookup, insert, remove, mapped}
use Rattle.machine.specs.Names.{Bytes}
use Rattle.machine.specs.Pairs.{pair_map}
use Rattle.machine.specs.State.{Object, Part, Upload, State, with_o, with_u}
use Rattle.machine.specs.Calls.{Call, PUT, GET, HEAD, DELETE, COPY, LIST, INITIATE, PART, COMMIT, ABORT, UPLOADS, DELETE-OBJECTS, SWEEP, Answer, Buffers, no_buffers, Refusal, Outcome, refuse, accept, ◌else◌then◌, given, lent}
use Rattle.machine.specs.Steps.{put_at, object_at, delete_at, abort_at, is_due, due, to_sweep, after_aborts, act, reply_of, after, next}
use Rattle.machine.specs.Demand3.{Kind, looks, initiates, sends, commits, other, kind, part_of, commit_of, is_look}
use Rattle.machine.proofs.Options.{none-some}
use Rattle.machine.proofs.MapLaws.{insert-there}
use Rattle.machine.proofs.MapEach.{each, lookup-each, each-insert, each-remove}
use Rattle.machine.proofs.Places.{places-uploads, places-results, places-state}
use Rattle.machine.proofs.Sweeping.{abort-leaves}
use Rattle.machine.proofs.Effects.{Quiet, Does, opens-upload, sets-part, has-effects, step-does}

-- the upload u with no parts, any other as it is
abbrev pub bare_at : ℕ → ℕ → Upload → Upload
bare_at u v x = cond (eqb v u) (record { path = x.path; started = x.started; pairs = x.pairs; parts = [] }) x

abbrev pub bare : ℕ → Map ℕ Upload → Map ℕ Upload
bare u m = each (bare_at u) m

pub record Like (u : ℕ) (s s' : State) : Type 0 where
  pub objects : s.O ≡ s'.O
  pub uploads : bare u s.U ≡ bare u s'.U
  pub number : s.N ≡ s'.N

pub like-self : (u : ℕ) (s : State) → Like u s s
like-self u s = record { objects = refl; uploads = refl; number = refl }

pub like-chain : (u : ℕ) (a b c : State) → Like u a b → Like u b c → Like u a c
like-chain u a b c p q = record { objects = p.objects ∙ q.objects; uploads = p.uploads ∙ q.uploads; number = p.number ∙ q.number }

-- not refused by 4 or 5
abbrev pub Room : Buffers → Outcome → Type 0
Room b o = ((reply_of b o).result ≡ 4 → ⊥) × ((reply_of b o).result ≡ 5 → ⊥)

-- two outcomes, from states s and s': the states after are alike, and the replies are equal where that is asked
pub record Same (u : ℕ) (look : Bool) (b : Buffers) (s s' : State) (o o' : Outcome) : Type 0 where
  pub like : Like u (after s o) (after s' o')
  pub shows : look ≡ true → reply_of b o' ≡ reply_of b o

-- the same uploads are due in states that are alike
started-bare : (u v : ℕ) (x : Upload) → (bare_at u v x).started ≡ x.started
started-bare u v x = go (eqb v u)
  where
    go : (b : Bool) → (cond b (record { path = x.path; started = x.started; pairs = x.pairs; parts = [] }) x).started ≡ x.started
    go true = refl
    go false = refl

due-bare : (u t : ℕ) (m : Map ℕ Upload) → due t (bare u m) ≡ bare u (due t m)
unfolding due
due-bare u t [] = refl
due-bare u t (e ∷ m) = rw (started-bare u e.0 e.1, due-bare u t m) (go (is_due t e.1))
  where
    go : (b : Bool) → cond b ((e.0, bare_at u e.0 e.1) ∷ bare u (due t m)) (bare u (due t m)) ≡ bare u (cond b (e ∷ due t m) (due t m))
    go true = refl
    go false = refl

numbers-bare : (u n : ℕ) (m : Map ℕ Upload) → map (λ (e : ℕ × Upload). e.0) (take n (bare u m)) ≡ map (λ (e : ℕ × Upload). e.0) (take n m)
numbers-bare u zero m = refl
numbers-bare u (suc n) [] = refl
numbers-bare u (suc n) (e ∷ m) = ap (λ (l : List ℕ). e.0 ∷ l) (numbers-bare u n m)

length-bare : (u : ℕ) (m : Map ℕ Upload) → length (bare u m) ≡ length m
length-bare u [] = refl
length-bare u (e ∷ m) = ap suc (length-bare u m)

module _ (u t : ℕ) (m m' : Map ℕ Upload) (e : bare u m ≡ bare u m') where
  same-due : bare u (due t m) ≡ bare u (due t m')
  same-due = sym (due-bare u t m) ∙ ap (due t) e ∙ due-bare u t m'

  due-length : length (due t m) ≡ length (due t m')
  due-length = sym (length-bare u (due t m)) ∙ ap length same-due ∙ length-bare u (due t m')

  same-swept : (n : ℕ) → to_sweep t n m ≡ to_sweep t n m'
  same-swept n = sym (numbers-bare u n (due t m)) ∙ ap (λ (d : Map ℕ Upload). map (λ (w : ℕ × Upload). w.0) (take n d)) same-due ∙ numbers-bare u n (due t m')

-- ABORTs leave states alike
aborts-like : (u : ℕ) (us : List ℕ) (s s' : State) → Like u s s' → Like u (after_aborts s us) (after_aborts s' us)
aborts-like u [] s s' l = l
aborts-like u (v ∷ us) s s' l =
    aborts-like u us (after s (abort_at s v)) (after s' (abort_at s' v)) (rw (abort-leaves s v, abort-leaves s' v) (record {
      objects = l.objects;
      uploads = each-remove numbers (bare_at u) v s.U ∙ ap (remove by_number v) l.uploads ∙ sym (each-remove numbers (bare_at u) v s'.U);
      number = l.number;
    }))

-- one step of both lists
abbrev pub Went : (A u : ℕ) (s s' : State) → Call → Type 0
Went A u s s' c = Same u (is_look (kind c)) (lent c) s s' (act A s c) (act A s' c)

after-else : (s : State) (b : Bool) (n : Refusal) (a : Answer) (out : Buffers) → after s (b else n then accept a out s) ≡ s
unfolding ◌else◌then◌
after-else s true n a out = refl
after-else s false n a out = refl

other-than : (u v : ℕ) → eqb u v ≡ false → v ≡ u → ⊥
other-than u v h e = eqb-false u v h (sym e)

module _ (A u : ℕ) (s : State) (m : Map ℕ Upload) (e : bare u s.U ≡ bare u m) where
  Alike : Bool → Buffers → Outcome → Outcome → Type 0
  Alike look b o o' = Room b o → Room b o' → Same u look b s (with_u s m) o o'

  like-O : (o : Map Bytes Object) → Like u (with_o s o) (with_o (with_u s m) o)
  like-O o = record { objects = refl; uploads = e; number = refl }

  alike-accept : (l : Bool) (b : Buffers) (a : Answer) (out : Buffers) (t t' : State) → Like u t t' → Alike l b (accept a out t) (accept a out t')
  unfolding Alike
  alike-accept l b a out t t' h r r' = record { like = h; shows = λ _. refl }

  alike-refuse : (l : Bool) (b : Buffers) (n : Refusal) → Alike l b (refuse n) (refuse n)
  unfolding Alike
  alike-refuse l b n r r' = record { like = like-O s.O; shows = λ _. refl }

  alike-else : (l : Bool) (b : Buffers) (x : Bool) (n : Refusal) (o o' : Outcome) → Alike l b o o' → Alike l b (x else n then o) (x else n then o')
  unfolding ◌else◌then◌
  alike-else l b true n o o' h = h
  alike-else l b false n o o' h = alike-refuse l b n

  -- two tests, whose failure would be 4 or 5
  alike-full : (l : Bool) (b : Buffers) (x x' : Bool) (n : Refusal) (o o' : Outcome) → (Room b (refuse n) → ⊥) → Alike l b o o' → Alike l b (x else n then o) (x' else n then o')
  unfolding Alike ◌else◌then◌
  alike-full l b true true n o o' f h = h
  alike-full l b true false n o o' f h = λ r r'. absurd (f r')
  alike-full l b false x' n o o' f h = λ r r'. absurd (f r)

  alike-given : (l : Bool) (b : Buffers) {X : Type 0} (x : Option X) (n : Refusal) (k k' : X → Outcome) → ((y : X) → Alike l b (k y) (k' y)) → Alike l b (given x n k) (given x n k')
  unfolding given
  alike-given l b none n k k' h = alike-refuse l b n
  alike-given l b (some y) n k k' h = h y

  -- two uploads that are the same but for what f leaves out
  alike-found : (l : Bool) (b : Buffers) {X : Type 0} (f : X → X) (x x' : Option X) (n : Refusal) (k k' : X → Outcome) → mapped f x ≡ mapped f x' →
      ((y y' : X) → f y ≡ f y' → Alike l b (k y) (k' y')) → Alike l b (given x n k) (given x' n k')
  unfolding given
  alike-found l b f none none n k k' q h = alike-refuse l b n
  alike-found l b f none (some y) n k k' q h = absurd (none-some q)
  alike-found l b f (some y) none n k k' q h = absurd (none-some (sym q))
  alike-found l b f (some y) (some y') n k k' q h = h y y' (cc)

  -- what is no GET, HEAD or LIST may write something else
  alike-unseen : (b : Buffers) (x x' : Bool) (n n' : Refusal) (a a' : Answer) (out out' : Buffers) → Alike false b (x else n then accept a out s) (x' else n' then accept a' out' (with_u s m))
  unfolding Alike
  alike-unseen b x x' n n' a a' out out' r r' =
      record { like = rw (after-else s x n a out, after-else (with_u s m) x' n' a' out') (like-O s.O); shows = λ q. absurd (false≢true q) }

  found : (v : ℕ) → mapped (bare_at u v) (lookup by_number v s.U) ≡ mapped (bare_at u v) (lookup by_number v m)
  found v = sym (lookup-each numbers (bare_at u) v s.U) ∙ ap (lookup by_number v) e ∙ lookup-each numbers (bare_at u) v m

  inserted : (v : ℕ) (x : Upload) → bare u (insert by_number v x s.U) ≡ bare u (insert by_number v x m)
  inserted v x = each-insert numbers (bare_at u) v x s.U ∙ ap (insert by_number v (bare_at u v x)) e ∙ sym (each-insert numbers (bare_at u) v x m)

  removed : (v : ℕ) → bare u (remove by_number v s.U) ≡ bare u (remove by_number v m)
  removed v = each-remove numbers (bare_at u) v s.U ∙ ap (remove by_number v) e ∙ sym (each-remove numbers (bare_at u) v m)

  -- uploads other than u are the same
  same-upload : (v : ℕ) (x y : Upload) → (v ≡ u → ⊥) → bare_at u v x ≡ bare_at u v y → x ≡ y
  same-upload v x y d h = rw (ne_eqb v u d) at h

  put-alike : (t : ℕ) (p d : Bytes) (ps : Map Bytes Bytes) → Alike false no_buffers (put_at A s t p d ps) (put_at A (with_u s m) t p d ps)
  unfolding put_at
  put-alike t p d ps = alike-full _ _ _ _ _ _ _ (λ r. r.0 refl) (alike-full _ _ _ _ _ _ _ (λ r. r.1 refl) (alike-accept _ _ _ _ _ _ (like-O _)))

  at-alike : (l : Bool) (b : Buffers) (p : Bytes) (k k' : Object → Outcome) → ((x : Object) → Alike l b (k x) (k' x)) → Alike l b (object_at s p k) (object_at (with_u s m) p k')
  unfolding object_at
  at-alike l b [] k k' h = h _
  at-alike l b (c ∷ p) k k' h = alike-else _ _ _ _ _ _ (alike-given _ _ _ _ _ _ h)

  act-alike : (c : Call) → part_of u (kind c) ≡ false → commit_of u (kind c) ≡ false → Alike (is_look (kind c)) (lent c) (act A s c) (act A (with_u s m) c)
  unfolding act delete_at abort_at
  act-alike (PUT t p d ps) h k = alike-else _ _ _ _ _ _ (put-alike t p d (pair_map ps))
  act-alike (GET p b ps) h k = at-alike _ _ p _ _ λ x. alike-else _ _ _ _ _ _ (alike-else _ _ _ _ _ _ (alike-accept _ _ _ _ _ _ (like-O _)))
  act-alike (HEAD p ps) h k = at-alike _ _ p _ _ λ x. alike-else _ _ _ _ _ _ (alike-accept _ _ _ _ _ _ (like-O _))
  act-alike (DELETE p) h k = alike-else _ _ _ _ _ _ (alike-given _ _ _ _ _ _ λ x. alike-accept _ _ _ _ _ _ (like-O _))
  act-alike (COPY t p q) h k = alike-else _ _ _ _ _ _ (alike-given _ _ _ _ _ _ λ x. put-alike t q x.content x.pairs)
  act-alike (LIST prefix suffix b) h k = alike-else _ _ _ _ _ _ (alike-accept _ _ _ _ _ _ (like-O _))
  act-alike (INITIATE t p ps) h k =
      alike-else _ _ _ _ _ _ (alike-full _ _ _ _ _ _ _ (λ r. r.0 refl) (alike-full _ _ _ _ _ _ _ (λ r. r.1 refl) (alike-else _ _ _ _ _ _ (alike-accept _ _ _ _ _ _
      (record { objects = refl; uploads = inserted s.N _; number = refl })))))
  act-alike (PART v n d) h k =
      alike-else _ _ _ _ _ _ (alike-found _ _ (bare_at u v) _ _ _ _ _ (found v) λ x y q.
      rw (← same-upload v x y (other-than u v h) q)
      (alike-full _ _ _ _ _ _ _ (λ r. r.0 refl) (alike-full _ _ _ _ _ _ _ (λ r. r.1 refl) (alike-accept _ _ _ _ _ _
      (record { objects = refl; uploads = inserted v _; number = refl })))))
  act-alike (COMMIT v ns) h k =
      alike-found _ _ (bare_at u v) _ _ _ _ _ (found v) λ x y q.
      rw (← same-upload v x y (other-than u v k) q) (alike-given _ _ _ _ _ _ λ xs. alike-full _ _ _ _ _ _ _ (λ r. r.0 refl) (alike-accept _ _ _ _ _ _
      (record { objects = refl; uploads = removed v; number = refl })))
  act-alike (ABORT v) h k =
      alike-found _ _ (bare_at u v) _ _ _ _ _ (found v) λ x y q. alike-accept _ _ _ _ _ _ (record { objects = refl; uploads = removed v; number = refl })
  act-alike (SWEEP t n) h k =
      rw (← due-length u t s.U m e, ← same-swept u t s.U m e n)
      (alike-else _ _ _ _ _ _ (alike-accept _ _ _ _ _ _ (aborts-like u (to_sweep t n s.U) s (with_u s m) (like-O s.O))))
  act-alike (UPLOADS prefix b) h k = alike-unseen _ _ _ _ _ _ _ _ _
  act-alike (DELETE-OBJECTS names ps left_over b) h k =
      rw (places-results m s names ps, places-state m s names ps)
      (alike-else _ _ _ _ _ _ (alike-else _ _ _ _ _ _ (alike-else _ _ _ _ _ _ (alike-accept _ _ _ _ _ _
      (record { objects = refl; uploads = rw (places-uploads s names ps) e; number = refl })))))

pub step_went : (A u : ℕ) (s s' : State) (c : Call) → Like u s s' → part_of u (kind c) ≡ false → commit_of u (kind c) ≡ false →
    Room (lent c) (act A s c) → Room (lent c) (act A s' c) → Went A u s s' c
unfolding Alike
step_went A u s s' c l h k r = subst (λ (z : State). Room (lent c) (act A z c) → Went A u s z c) is (act-alike A u s s'.U l.uploads c h k r)
  where
    is : with_u s s'.U ≡ s'
    is = λ i. record { O = l.objects i; U = s'.U; N = l.number i }

-- A PART of the upload leaves the state alike
bare-part : (u : ℕ) (m : Map ℕ Upload) (x : Upload) (ps : Map ℕ Part) → lookup by_number u m ≡ some x →
    bare u (insert by_number u (record { path = x.path; started = x.started; pairs = x.pairs; parts = ps }) m) ≡ bare u m
bare-part u m x ps e = each-insert numbers (bare_at u) u x' m ∙ insert-there numbers u (bare_at u u x') (bare u m) (lookup-each numbers (bare_at u) u m ∙ ap (mapped (bare_at u u)) e ∙ ap some same)
  where
    x' : Upload
    x' = record { path = x.path; started = x.started; pairs = x.pairs; parts = ps }

    same : bare_at u u x ≡ bare_at u u x'
    same = rw (eq-eqb u u refl)

part-quiet : (u : ℕ) (k : Kind) → part_of u k ≡ true → (Quiet k → ⊥) × (is_look k ≡ false)
part-quiet u looks h = absurd (false≢true h)
part-quiet u (initiates t p m) h = absurd (false≢true h)
part-quiet u (sends v n d) h = (λ q. q, refl)
part-quiet u (commits v) h = absurd (false≢true h)
part-quiet u other h = absurd (false≢true h)

part-like : {A : ℕ} {s s' : State} {k : Kind} {r : Answer} (u : ℕ) → part_of u k ≡ true → Does A s k r s' → Like u s' s
part-like u h (opens-upload t p m i k c r l) = absurd (false≢true h)
part-like {s} u h (sets-part v x n d i e c r) =
    let w = eqb-true u v h in
    record { objects = refl; uploads = rw (← w) (bare-part u s.U x _ (rw w e)); number = refl }
part-like u h (has-effects {k} q w more) = absurd ((part-quiet u k h).0 q)

pub part-went : (A u : ℕ) (s : State) (c : Call) → part_of u (kind c) ≡ true → Like u (next A s c) s × (is_look (kind c) ≡ false)
part-went A u s c h = (step-does A s (λ r s'. Like u s' s) c (λ n. like-self u s) (λ r out s' d. part-like u h d), (part-quiet u (kind c) h).1)
