-- Document 02, E4, for two calls: where there is room, a call of PUT, DELETE or COPY comes to what one lookup says, and changes one path.
-- Assumes nothing.
use Prim.Native.Nat.{ℕ}
use mathlib.Core.Path.{◌≡◌, refl, sym, ap, ◌∙◌}
use mathlib.Core.Bool.{Bool, true, false, ◌&&◌, false≢true}
use mathlib.Core.List.{List}
use mathlib.Core.Option.{Option, none, some}
use Rattle.base_order.specs.Order.{by_bytes}
use Rattle.base_order.proofs.OrderLaws.{bytes}
use Rattle.machine.specs.Map.{Map, lookup, is_some}
use Rattle.machine.specs.Names.{Bytes, request_path_ok, new_path_ok, stamp_ok}
use Rattle.machine.specs.Pairs.{Pair, pairs_ok, pair_map}
use Rattle.machine.specs.State.{Object, State, with_o}
use Rattle.machine.specs.Calls.{Call, PUT, GET, HEAD, DELETE, COPY, LIST, INITIATE, PART, COMMIT, ABORT, UPLOADS, DELETE-OBJECTS, SWEEP, nothing, Buffers, no_buffers, Refusal, badRequest, notFound, tableFull, arenaFull, Outcome, refuse, accept, ◌else◌then◌, given, lent}
use Rattle.machine.specs.Steps.{plain_object, put_at, delete_at, act, reply_of, after, reply, next}
use Rattle.machine.specs.Valid.{Valid}
use Rattle.machine.specs.Swaps.{writes, reads, Apart, Roomy, EitherOrder, Commute}
use Rattle.machine.proofs.MapTwo.{put, lookup-put-other, put-put}
use Rattle.machine.proofs.Alike.{Room}

-- what a call comes to where there is room: a refusal, or what its path has then
data Plan : Type 0 where
  refusing : Refusal → Plan
  setting : Option Object → Plan

-- a plan's outcome, and the state after
abbrev done : State → (path : Bytes) → Plan → Outcome
done s p (refusing n) = refuse n
done s p (setting x) = accept nothing no_buffers (with_o s (put by_bytes p x s.O))

abbrev left : State → (path : Bytes) → Plan → State
left s p (refusing n) = s
left s p (setting x) = with_o s (put by_bytes p x s.O)

after-done : (s : State) (p : Bytes) (a : Plan) → after s (done s p a) ≡ left s p a
after-done s p (refusing n) = refl
after-done s p (setting x) = refl

reply-done : (s s' : State) (p : Bytes) (b : Buffers) (a : Plan) → reply_of b (done s p a) ≡ reply_of b (done s' p a)
reply-done s s' p b (refusing n) = refl
reply-done s s' p b (setting x) = refl

-- a call that changes one path, by what it looks up at one path
record Write (c : Call) : Type 0 where
  looked : Bytes
  changed : Bytes
  plan : Option Object → Plan
  written : writes c ≡ some changed
  touched : (p : Bytes) → (writes c ≡ some p → ⊥) → (reads c ≡ some p → ⊥) → looked ≡ p → ⊥
  acts : (A : ℕ) (s : State) → Room (lent c) (act A s c) → act A s c ≡ done s changed (plan (lookup by_bytes looked s.O))

-- through each check
abbrev checked : Bool → Plan → Plan
checked true a = a
checked false a = refusing badRequest

abbrev found : Option Object → (Object → Plan) → Plan
found none k = refusing notFound
found (some x) k = k x

module _ (s : State) (p : Bytes) where
  done-else : (b : Bool) (o : Outcome) (a : Plan) → (Room no_buffers o → o ≡ done s p a) → Room no_buffers (b else badRequest then o) → (b else badRequest then o) ≡ done s p (checked b a)
  unfolding ◌else◌then◌
  done-else true o a h r = h r
  done-else false o a h r = refl

  done-given : (x : Option Object) (k : Object → Outcome) (f : Object → Plan) → ((y : Object) → Room no_buffers (k y) → k y ≡ done s p (f y)) → Room no_buffers (given x notFound k) → given x notFound k ≡ done s p (found x f)
  unfolding given
  done-given none k f h r = refl
  done-given (some y) k f h r = h y r

  done_full : (b b' : Bool) (o : Outcome) → Room no_buffers (b else tableFull then b' else arenaFull then o) → (b else tableFull then b' else arenaFull then o) ≡ o
  unfolding ◌else◌then◌
  done_full true true o r = refl
  done_full true false o r = absurd (r.1 refl)
  done_full false b' o r = absurd (r.0 refl)

  done-put : (A t : ℕ) (d : Bytes) (m : Map Bytes Bytes) → Room no_buffers (put_at A s t p d m) → put_at A s t p d m ≡ done s p (setting (some (plain_object t d m)))
  unfolding put_at
  done-put A t d m r = done_full _ _ _ r

put-write : (t : ℕ) (p d : Bytes) (ps : List Pair) → Write (PUT t p d ps)
unfolding act
put-write t p d ps = record {
  looked = p;
  changed = p;
  plan = λ x. checked (stamp_ok t && new_path_ok p && pairs_ok ps) (setting (some (plain_object t d (pair_map ps))));
  written = refl;
  touched = λ q w r e. w (ap some e);
  acts = λ A s. done-else s p _ _ _ (done-put s p A t d (pair_map ps));
}

delete-write : (p : Bytes) → Write (DELETE p)
unfolding act delete_at
delete-write p = record {
  looked = p;
  changed = p;
  plan = λ x. checked (request_path_ok p) (found x λ y. setting none);
  written = refl;
  touched = λ q w r e. w (ap some e);
  acts = λ A s. done-else s p _ _ _ (done-given s p _ _ _ λ x r. refl);
}

copy-write : (t : ℕ) (p q : Bytes) → Write (COPY t p q)
unfolding act
copy-write t p q = record {
  looked = p;
  changed = q;
  plan = λ x. checked (stamp_ok t && request_path_ok p && new_path_ok q) (found x λ y. setting (some (plain_object t y.content y.pairs)));
  written = refl;
  touched = λ p' w r e. r (ap some e);
  acts = λ A s. done-else s q _ _ _ (done-given s q _ _ _ λ x. done-put s q A t x.content x.pairs);
}

write : (c : Call) → is_some (writes c) ≡ true → Write c
write (PUT t p d ps) h = put-write t p d ps
write (GET p b m) h = absurd (false≢true h)
write (HEAD p m) h = absurd (false≢true h)
write (DELETE p) h = delete-write p
write (COPY t p q) h = copy-write t p q
write (LIST prefix suffix b) h = absurd (false≢true h)
write (INITIATE t p ps) h = absurd (false≢true h)
write (PART u n d) h = absurd (false≢true h)
write (COMMIT u ns) h = absurd (false≢true h)
write (ABORT u) h = absurd (false≢true h)
write (UPLOADS prefix b) h = absurd (false≢true h)
write (DELETE-OBJECTS names ps left_over b) h = absurd (false≢true h)
write (SWEEP t n) h = absurd (false≢true h)

module _ (A : ℕ) (s : State) (v : Valid A s) where
  left_other : (p q : Bytes) (a : Plan) → (q ≡ p → ⊥) → lookup by_bytes q (left s p a).O ≡ lookup by_bytes q s.O
  left_other p q (refusing n) d = refl
  left_other p q (setting x) d = lookup-put-other bytes q p x s.O v.objects d

  left-left : (p q : Bytes) (a b : Plan) → (p ≡ q → ⊥) → left (left s q b) p a ≡ left (left s p a) q b
  left-left p q (refusing n) (refusing m) d = refl
  left-left p q (refusing n) (setting y) d = refl
  left-left p q (setting x) (refusing m) d = refl
  left-left p q (setting x) (setting y) d = ap (with_o s) (put-put bytes p q x y s.O v.objects d)

-- what a call comes to from a state where there is room
comes : {c : Call} → Write c → State → Plan
comes w s = w.plan (lookup by_bytes w.looked s.O)

acts-so : (A : ℕ) (s : State) (c : Call) (w : Write c) → Roomy (reply A s c) → act A s c ≡ done s w.changed (comes w s)
unfolding comes
acts-so A s c w r = w.acts A s (r.table, r.arena)

-- what the second call comes to after the first is what it comes to by itself
module _ (A : ℕ) (s : State) (v : Valid A s) (c d : Call) (x : Write c) (y : Write d) (kept : y.looked ≡ x.changed → ⊥)
    (first : Roomy (reply A s c)) (later : Roomy (reply A (next A s c) d)) where
  next-first : next A s c ≡ left s x.changed (comes x s)
  next-first = ap (after s) (acts-so A s c x first) ∙ after-done s x.changed (comes x s)

  comes-kept : comes y (next A s c) ≡ comes y s
  unfolding comes
  comes-kept =
      ap y.plan
      (ap (λ (z : State). lookup by_bytes y.looked z.O) next-first ∙ left_other A s v x.changed y.looked (comes x s) kept)

  act-second : act A (next A s c) d ≡ done (next A s c) y.changed (comes y s)
  act-second = acts-so A (next A s c) d y later ∙ ap (done (next A s c) y.changed) comes-kept

  next-second : next A (next A s c) d ≡ left (left s x.changed (comes x s)) y.changed (comes y s)
  next-second =
      ap (after (next A s c)) act-second
      ∙ after-done (next A s c) y.changed (comes y s)
      ∙ ap (λ (z : State). left z y.changed (comes y s)) next-first

  reply-second : Roomy (reply A s d) → reply A (next A s c) d ≡ reply A s d
  reply-second r =
      ap (reply_of (lent d)) act-second
      ∙ reply-done (next A s c) s y.changed (lent d) (comes y s)
      ∙ sym (ap (reply_of (lent d)) (acts-so A s d y r))

-- E4's law for two calls
pub commute : (A : ℕ) (s : State) (c d : Call) → Valid A s → Apart c d → EitherOrder A s c d → Commute A s c d
commute A s c d v a e =
    let x = write c a.first in
    let y = write d a.second in
    let w : x.changed ≡ y.changed → ⊥ = λ q. a.both-write x.changed x.written (y.written ∙ ap some (sym q)) in
    let i = y.touched x.changed (a.both-write x.changed x.written) (a.second_reads x.changed x.written) in
    let j = x.touched y.changed (λ q. a.both-write y.changed q y.written) (a.first_reads y.changed y.written) in
    record {
      state =
          next-second A s v d c y x j e.second e.then-first
          ∙ left-left A s v x.changed y.changed (comes x s) (comes y s) w
          ∙ sym (next-second A s v c d x y i e.first e.then-second);
      first = reply-second A s v d c y x j e.second e.then-first e.first;
      second = reply-second A s v c d x y i e.first e.then-second e.second;
    }
