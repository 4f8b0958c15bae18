-- The auditor's second question: an upload that was aborted, by ABORT or by SWEEP, stays out of every later record. Assumes nothing.
use Prim.Native.Nat.{ℕ, ◌<◌}
use native.Mathlib.Omega.{arith}
use mathlib.Core.Path.{◌≡◌, refl, sym, ap, ◌∙◌, subst}
use mathlib.Core.Bool.{Bool, true, false, false≢true}
use mathlib.Core.List.{List, [], ◌∷◌, ◌++◌, append_assoc}
use mathlib.Core.Option.{Option, none, some}
use borrow.Author.Tests.{eq-eqb, eqb-true}
use Rattle.base_order.proofs.OrderLaws.{numbers}
use Rattle.machine.specs.Map.{by_number, lookup, Ascending}
use Rattle.machine.specs.Names.{request_part_ok}
use Rattle.machine.specs.State.{Upload, State, fresh}
use Rattle.machine.specs.Calls.{Call, PUT, GET, HEAD, DELETE, COPY, LIST, INITIATE, PART, COMMIT, ABORT, UPLOADS, DELETE-OBJECTS, SWEEP, Answer, no_buffers, Reply, badRequest, refuse, ◌else◌then◌, given}
use Rattle.machine.specs.Steps.{abort_at, to_sweep, act, reply_of, reply, next}
use Rattle.machine.specs.Lists.{Trace, trace, final}
use Rattle.machine.specs.ListFits.{member}
use Rattle.machine.specs.Valid.{Valid, UploadOk}
use Rattle.machine.specs.Demand3.{Kind, accepted, calls}
use Rattle.machine.proofs.Options.{none-some}
use Rattle.machine.proofs.MapLaws.{ascending-remove, lookup-insert-other, lookup-remove, lookup-remove-other, every-lookup}
use Rattle.machine.proofs.Effects.{Effects, stop, sets, removes, closes, Does, opens-upload, sets-part, has-effects, step-does}
use Rattle.machine.proofs.Numbers.{number-kept}
use Rattle.machine.proofs.Sweeping.{swept-ends}
use Rattle.machine.proofs.Sweep.{aborts-final, as-aborts}
use Rattle.machine.proofs.KeepsValid.{next-valid, fresh-valid, final-valid}
use Rattle.machine.proofs.Traces.{cut}
use Rattle.call_contract.specs.Made.{Memory}
use Rattle.store_history.specs.Runs.{FromFresh}
use Rattle.store_history.specs.Questions.{names, Shut, Ends, StaysOut}
use Rattle.store_history.proofs.Running.{from-fresh}
use Rattle.store_history.proofs.Demand3.{demand3}
use Rattle.store_history.proofs.InPlace.{replied}

-- the upload's number was given out, and it is not open
abbrev Gone : ℕ → State → Type 0
Gone u s = (u < s.N) × (lookup by_number u s.U ≡ none)

-- an open upload is another one
open-other : (u v : ℕ) (s : State) (x : Upload) → Gone u s → lookup by_number v s.U ≡ some x → u ≡ v → ⊥
open-other u v s x g e q = none-some (sym g.1 ∙ ap (λ (n : ℕ). lookup by_number n s.U) q ∙ e)

module _ (A u : ℕ) (s : State) where
  effects-gone : {a b : State} → Effects A s a b → Ascending by_number a.U → Gone u a → Gone u b
  effects-gone stop o g = g
  effects-gone (sets p x h more) o g = effects-gone more o g
  effects-gone (removes p more) o g = effects-gone more o g
  effects-gone (closes {a = i} v x e more) o g =
      effects-gone more (ascending-remove numbers v i.U o) (g.0, lookup-remove-other numbers u v i.U o (open-other u v i x g e) ∙ g.1)

  does-gone : {k : Kind} {r : Answer} {s' : State} → Ascending by_number s.U → Gone u s → Does A s k r s' → Gone u s'
  does-gone o g (opens-upload t p m h k c r l) =
      let q = g.0 in (omega arith, lookup-insert-other numbers u s.N _ s.U (λ e. omega (arith, e)) ∙ g.1)
  does-gone o g (sets-part v x n d h e c r) = (g.0, lookup-insert-other numbers u v _ s.U (open-other u v s x g e) ∙ g.1)
  does-gone o g (has-effects q w more) = effects-gone more o g

module _ (A u : ℕ) (s : State) (v : Valid A s) (g : Gone u s) where
  still-gone : (c : Call) → Gone u (next A s c)
  still-gone c = step-does A s (λ r s'. Gone u s') c (λ n. g) (λ r out s' d. does-gone A u s v.uploads g d)

  gone-here : (k : ℕ) → names u (ABORT k) ≡ true → lookup by_number k s.U ≡ none
  gone-here k e = ap (λ (n : ℕ). lookup by_number n s.U) (sym (eqb-true u k e)) ∙ g.1

  refused-here : (c : Call) → names u c ≡ true → (reply A s c).result ≡ 2
  unfolding act abort_at given ◌else◌then◌
  refused-here (PUT t p d ps) e = absurd (false≢true e)
  refused-here (GET p b k) e = absurd (false≢true e)
  refused-here (HEAD p k) e = absurd (false≢true e)
  refused-here (DELETE p) e = absurd (false≢true e)
  refused-here (COPY t p q) e = absurd (false≢true e)
  refused-here (LIST prefix suffix b) e = absurd (false≢true e)
  refused-here (INITIATE t p ps) e = absurd (false≢true e)
  refused-here (PART k n d) e = rw (gone-here k e) (go (request_part_ok n))
    where
      go : (b : Bool) → (reply_of no_buffers (b else badRequest then refuse badRequest)).result ≡ 2
      go true = refl
      go false = refl
  refused-here (COMMIT k ns) e = rw (gone-here k e)
  refused-here (ABORT k) e = rw (gone-here k e)
  refused-here (UPLOADS prefix b) e = absurd (false≢true e)
  refused-here (DELETE-OBJECTS ns ps left_over b) e = absurd (false≢true e)
  refused-here (SWEEP t n) e = absurd (false≢true e)

all-shut : (A u : ℕ) (s : State) (cs : List Call) → Valid A s → Gone u s → Shut u (trace A s cs)
all-shut A u s [] v g = tt
all-shut A u s (c ∷ cs) v g = (refused-here A u s v g c, all-shut A u (next A s c) cs (next-valid A s c v) (still-gone A u s v g c))

gone-after : (A u : ℕ) (s : State) (c : Call) → Valid A s → Ends A s c u → Gone u (next A s c)
gone-after A u s c v h =
    let below = (every-lookup numbers (UploadOk s.N) u h.0 s.U v.upload h.1).high in
    let kept = number-kept A s c in
    (omega arith, h.2)

-- an accepted ABORT
aborted : (A u : ℕ) (s : State) → Valid A s → accepted (reply A s (ABORT u)) ≡ true → Ends A s (ABORT u) u
unfolding act abort_at given
aborted A u s v = go (lookup by_number u s.U) refl
  where
    go : (o : Option Upload) → lookup by_number u s.U ≡ o → accepted (reply A s (ABORT u)) ≡ true → Ends A s (ABORT u) u
    go none e ok = absurd (false≢true (rw e at ok))
    go (some x) e ok = rw e (x, refl, lookup-remove numbers u s.U v.uploads)

shut_at : (u : ℕ) (between after : Trace) (c : Call) (r : Reply) → Shut u (between ++ (c, r) ∷ after) → names u c ≡ true → r.result ≡ 2
shut_at u [] after c r h e = h.0 e
shut_at u (w ∷ between) after c r h e = shut_at u between after c r h.1 e

not-accepted : (r : Reply) → r.result ≡ 2 → accepted r ≡ true → ⊥
not-accepted r e ok = omega (arith, e, eqb-true r.result 0 ok)

-- After the call at which it ends an upload takes no part and no commit, and no later record is made of its parts.
pub stays-out-after : (A : ℕ) (t : Trace) (m : Memory) → FromFresh A t m → (before later : Trace) (c : Call) (u : ℕ) (r : Reply) → t ≡ before ++ (c, r) ∷ later
    → Ends A (final A fresh (calls before)) c u → StaysOut A before c u r later m
stays-out-after A t m f before later c u r e ended =
    let k = cut A fresh (calls t) before later c r (sym (from-fresh A t m f).0 ∙ e) in
    let s = final A fresh (calls before) in
    let v = final-valid A fresh (calls before) (fresh-valid A) in
    let g = gone-after A u s c v ended in
    let h : Shut u later = subst (Shut u) k.last (all-shut A u (next A s c) k.rest (next-valid A s c v) g) in
    record {
      shut = h;
      records = λ between after w ns q is yes-accepted. (
        λ same. not-accepted q (shut_at u between after (COMMIT w ns) q (subst (Shut u) is h) (eq-eqb u w (sym same))) yes-accepted,
        (demand3 A t m f).commits-join (before ++ (c, r) ∷ between) after w ns q
            (e ∙ ap (λ (x : Trace). before ++ (c, r) ∷ x) is ∙ sym (append_assoc before ((c, r) ∷ between) ((COMMIT w ns, q) ∷ after))) yes-accepted,
      );
    }

module _ (A : ℕ) (t : Trace) (m : Memory) (f : FromFresh A t m) (before later : Trace) (u : ℕ) (r : Reply) where
  -- an accepted ABORT of it
  pub stays_out : t ≡ before ++ (ABORT u, r) ∷ later → accepted r ≡ true → StaysOut A before (ABORT u) u r later m
  stays_out e ok =
      let v = final-valid A fresh (calls before) (fresh-valid A) in
      stays-out-after A t m f before later (ABORT u) u r e
      (aborted A u (final A fresh (calls before)) v (ap accepted (replied A t m f before later (ABORT u) r e) ∙ ok))

  -- E3: a SWEEP that aborted it
  pub swept-stays-out : (stamp most : ℕ) → t ≡ before ++ (SWEEP stamp most, r) ∷ later → accepted r ≡ true
      → member u (to_sweep stamp most (final A fresh (calls before)).U) ≡ true → StaysOut A before (SWEEP stamp most) u r later m
  swept-stays-out stamp most e ok in-sweep =
      let c = SWEEP stamp most in
      let s = final A fresh (calls before) in
      let v = final-valid A fresh (calls before) (fresh-valid A) in
      let h = swept-ends stamp u most s v.uploads in-sweep in
      stays-out-after A t m f before later c u r e
      (h.0, h.1, rw ((as-aborts A s stamp most).state (ap accepted (replied A t m f before later c r e) ∙ ok), ← aborts-final A s (to_sweep stamp most s.U)) h.2)
