-- E7: the states of an older store are valid, and UPLOADS, COMMIT and ABORT treat its parts as any other. Assumes nothing.
use Prim.Native.Nat.{ℕ}
use mathlib.Core.Path.{◌≡◌, refl, sym, ap, ◌∙◌}
use mathlib.Core.Bool.{Bool, true, false, cond, false≢true}
use mathlib.Core.List.{List, [], ◌∷◌, map}
use mathlib.Core.Option.{some}
use lib.ListN.{length}
use Rattle.base_order.specs.Order.{begins}
use Rattle.base_order.proofs.OrderLaws.{cases, numbers}
use Rattle.machine.specs.Map.{Map, by_number, lookup, insert, remove, records}
use Rattle.machine.specs.Names.{Bytes}
use Rattle.machine.specs.State.{Part, Upload, State, with_u, with_upload, without_upload}
use Rattle.machine.specs.Calls.{COMMIT, ABORT, UPLOADS, Answer, nothing, Buffers, no_buffers, Refusal, Outcome, refuse, accept, given, ◌else◌then◌}
use Rattle.machine.specs.Steps.{take_listed, open_under, upload_record, act, reply_of, after, reply}
use Rattle.machine.specs.Demand3.{accepted}
use Rattle.machine.specs.Valid.{Valid}
use Rattle.machine.specs.OlderParts.{former_part, Older, start, part, call, renumber, renumbered, Rising, AsAnyOther}
use Rattle.machine.proofs.Options.{none-some}
use Rattle.machine.proofs.MapLaws.{lookup-insert}
use Rattle.machine.proofs.Outcome.{refused-not-accepted, Then, then-else, then-given}
use Rattle.machine.proofs.Sweeping.{abort-accepted}
use Rattle.machine.proofs.Rules.{number-stored}
use Rattle.machine.proofs.KeepsValid.{sent-valid, next-valid, fresh-valid}

then-after : (A : ℕ) (s : State) (o : Outcome) → Valid A s → Then (λ r out s'. Valid A s') o → Valid A (after s o)
unfolding Then
then-after A s (refuse n) v h = v
then-after A s (accept r out s') v h = h

part-valid : (A : ℕ) (s : State) (u n : ℕ) (d : Bytes) → Valid A s → Valid A (after s (former_part A s u n d))
unfolding Then
part-valid A s u n d v =
    then-after A s (former_part A s u n d) v
    (then-else _ _ _ _ λ h. then-given _ _ _ _ λ x e. then-else _ _ _ _ λ c. then-else _ _ _ _ λ r. sent-valid A s u x n d (number-stored n h) e c r v)

-- "such a store is still whole": its states keep the rules and ceilings of today
pub older-valid : {A : ℕ} {s : State} → Older A s → Valid A s
older-valid {A} start = fresh-valid A
older-valid {A} (part {s} u n d o) = part-valid A s u n d (older-valid o)
older-valid {A} (call {s} c o) = next-valid A s c (older-valid o)

-- Other numbers ------------------------------------------------------------------------------------------------------------

module _ (f : ℕ → ℕ) (rising : Rising f) where
  renumber-lookup : (n : ℕ) (m : Map ℕ Part) → lookup by_number (f n) (renumber f m) ≡ lookup by_number n m
  renumber-lookup n [] = refl
  renumber-lookup n (e ∷ m) = rw (rising n e.0, renumber-lookup n m)

  renumber-remove : (n : ℕ) (m : Map ℕ Part) → remove by_number (f n) (renumber f m) ≡ renumber f (remove by_number n m)
  renumber-remove n [] = refl
  renumber-remove n (e ∷ m) =
      rw (rising n e.0, renumber-remove n m)
      (cases (by_number n e.0) (λ q. simp q) (λ q. simp q) (λ q. simp q))

  renumber-fit : (ns : List ℕ) (m : Map ℕ Part) → take_listed (map f ns) (renumber f m) ≡ take_listed ns m
  renumber-fit [] [] = refl
  renumber-fit [] (e ∷ m) = refl
  renumber-fit (n ∷ ns) m = rw (renumber-lookup n m, renumber-remove n m, renumber-fit ns (remove by_number n m))

renumber-length : (f : ℕ → ℕ) (m : Map ℕ Part) → length (renumber f m) ≡ length m
renumber-length f [] = refl
renumber-length f (e ∷ m) = rw (renumber-length f m)

-- An upload in another's place ---------------------------------------------------------------------------------------------

-- what is removed does not matter
remove-replaced : (u : ℕ) (x y : Upload) (m : Map ℕ Upload) → lookup by_number u m ≡ some x → remove by_number u (insert by_number u y m) ≡ remove by_number u m
remove-replaced u x y [] e = absurd (none-some e)
remove-replaced u x y (w ∷ m) e =
    cases (by_number u w.0)
    (λ q. absurd (none-some (simp q at e)))
    (λ q. simp (q, numbers.self u))
    (λ q. simp q (ap (λ (l : Map ℕ Upload). w ∷ l) (remove-replaced u x y m (simp q at e))))

-- entries that are kept or not, with the same record each
kept : (b c : Bool) (v w : ℕ × Upload) (k l : Map ℕ Upload) → b ≡ c → upload_record v.0 v.1 ≡ upload_record w.0 w.1 →
    (length k ≡ length l) × (records upload_record k ≡ records upload_record l) →
    (length (cond b (v ∷ k) k) ≡ length (cond c (w ∷ l) l)) × (records upload_record (cond b (v ∷ k) k) ≡ records upload_record (cond c (w ∷ l) l))
kept true true v w k l p e h = (rw h.0, rw (e, h.1))
kept false false v w k l p e h = h
kept true false v w k l p e h = absurd (false≢true (sym p))
kept false true v w k l p e h = absurd (false≢true p)

-- an upload with the same path and the same record leaves what UPLOADS writes
open-replaced : (prefix : Bytes) (u : ℕ) (x y : Upload) (m : Map ℕ Upload) → y.path ≡ x.path → upload_record u y ≡ upload_record u x → lookup by_number u m ≡ some x →
    (length (open_under prefix (insert by_number u y m)) ≡ length (open_under prefix m))
    × (records upload_record (open_under prefix (insert by_number u y m)) ≡ records upload_record (open_under prefix m))
unfolding open_under
open-replaced prefix u x y [] path same e = absurd (none-some e)
open-replaced prefix u x y (w ∷ m) path same e =
    cases (by_number u w.0)
    (λ q. absurd (none-some (simp q at e)))
    (λ q.
    let k = numbers.alike u w.0 q in
    let f : some w.1 ≡ some x = simp q at e in
    let v : w.1 ≡ x = cc in
    simp q (kept (begins prefix y.path) (begins prefix w.1.path) (u, y) w _ _
    (ap (begins prefix) (path ∙ ap (λ (z : Upload). z.path) (sym v)))
    (same ∙ ap (λ (n : ℕ). upload_record n x) k ∙ ap (upload_record w.0) (sym v)) (refl, refl)))
    (λ q. simp q (kept (begins prefix w.1.path) (begins prefix w.1.path) w w _ _ refl refl (open-replaced prefix u x y m path same (simp q at e))))

-- the test of a buffer, over one state and over another
write_same : (t : Bool) (b : Buffers) (n : Refusal) (a : Answer) (out : Buffers) (s s' : State) → reply_of b (t else n then accept a out s') ≡ reply_of b (t else n then accept a out s)
unfolding ◌else◌then◌
write_same true b n a out s s' = refl
write_same false b n a out s s' = refl

accepted-after : (s s' : State) (b : Buffers) (o : Outcome) → accepted (reply_of b o) ≡ true → after s' o ≡ after s o
accepted-after s s' b (refuse n) h = absurd (false≢true (sym (refused-not-accepted b n) ∙ h))
accepted-after s s' b (accept a out z) h = refl

module _ (A : ℕ) (s : State) (u : ℕ) (x : Upload) (f : ℕ → ℕ) (rising : Rising f) (e : lookup by_number u s.U ≡ some x) where
  abbrev y : Upload
  y = renumbered f x

  abbrev s' : State
  s' = with_upload s u y

  record_same : upload_record u y ≡ upload_record u x
  unfolding upload_record
  record_same = rw (renumber-length f x.parts)

  uploads-same : (prefix buffer : Bytes) → reply A s' (UPLOADS prefix buffer) ≡ reply A s (UPLOADS prefix buffer)
  unfolding act
  uploads-same prefix buffer =
      let h = open-replaced prefix u x y s.U refl record_same e in
      rw (h.0, h.1) (write_same _ _ _ _ _ s s')

  commit-same : (ns : List ℕ) → act A s' (COMMIT u (map f ns)) ≡ act A s (COMMIT u ns)
  unfolding act given
  commit-same ns = rw (lookup-insert numbers u y s.U, e, renumber-fit f rising ns x.parts, remove-replaced u x y s.U e)

  aborted : (z : State) (w : Upload) → lookup by_number u z.U ≡ some w → act A z (ABORT u) ≡ accept nothing no_buffers (without_upload z u)
  unfolding act
  aborted z w h = abort-accepted z u w h

  abort-same : act A s' (ABORT u) ≡ act A s (ABORT u)
  abort-same =
      aborted s' y (lookup-insert numbers u y s.U)
      ∙ ap (λ (m : Map ℕ Upload). accept nothing no_buffers (with_u s m)) (remove-replaced u x y s.U e)
      ∙ sym (aborted s x e)

  pub as-any-other : AsAnyOther A s u x f
  as-any-other = record {
    is-counted = uploads-same;
    is-committed = λ ns. ap (reply_of no_buffers) (commit-same ns);
    as-committed = λ ns h. ap (after s') (commit-same ns) ∙ accepted-after s s' no_buffers (act A s (COMMIT u ns)) h;
    is-aborted = ap (reply_of no_buffers) abort-same;
    as-aborted = ap (after s') (abort-same ∙ aborted s x e) ∙ sym (ap (after s) (aborted s x e));
  }
