-- A line from C: the call of its entry, by that call's own contract. Assumes nothing.
use Prim.Native.Nat.{ℕ, ◌≤◌}
use native.Mathlib.Decide.{ℕ_discrete}
use native.Mathlib.Omega.{arith}
use mathlib.Core.Path.{◌≡◌, refl, sym, ap, ap₂, ◌∙◌}
use mathlib.Core.Bool.{Bool, true, false}
use mathlib.Core.List.{[], ◌∷◌, ◌++◌, append-nil}
use lib.ListN.{length, drop, length-append, length-drop, drop_of_length-le}
use borrow.Author.Tests.{eq-eqb, ne_eqb, leb-true}
use Rattle.machine.specs.Names.{Bytes}
use Rattle.machine.specs.State.{State}
use Rattle.machine.specs.Calls.{Answer, Buffers, buffers, Reply, Outcome, refuse, accept, lent}
use Rattle.machine.specs.Steps.{over, written, reply_of, delete_at, abort_at, act}
use Rattle.machine.proofs.Outcome.{Then, then-accept, then-else, then-given, then-object, then-put}
use Rattle.call_contract.specs.Made.{Memory, whole_memory, state_in, meant_reply}
use Rattle.c_reply.specs.Reply.{reply_length, reply_after}
use Rattle.recording.specs.Entry.{Entry, put, get, head, delete, copy, list, initiate, part, commit, abort, uploads, call_of}
use Rattle.recording_replay.specs.Replayed.{CallDone, LineReplayed}
use Rattle.rathnodi.specs.Exported.{answer_with, Exported}
use Rattle.rathnodi.specs.Line.{buffers_of, ExportedLine}

-- What a call writes has room in its buffers, which keep their lengths ----------------------------------------------------

abbrev Room : Buffers → Answer → (out : Buffers) → State → Type 0
Room b a out s = (length out.answer ≤ length b.answer) × (length out.pairs ≤ length b.pairs)

nothing_written : (0 ≤ 0) × (0 ≤ 0)
nothing_written = (omega arith, omega arith)

has_room : (b p : Bytes) (e : Entry) (A : ℕ) (s : State) → Then (Room (lent (call_of b p e))) (act A s (call_of b p e))
unfolding act delete_at abort_at
has_room b p (put t q d ps) A s = then-else _ _ _ _ λ _. then-put _ A s t q d _ λ _ _. nothing_written
has_room b p (get q) A s = then-object _ s q _ λ x. then-else _ _ _ _ λ i. then-else _ _ _ _ λ j. then-accept _ _ _ _ (leb-true _ _ i, leb-true _ _ j)
has_room b p (head q) A s = then-object _ s q _ λ x. then-else _ _ _ _ λ j. then-accept _ _ _ _ (omega arith, leb-true _ _ j)
has_room b p (delete q) A s = then-else _ _ _ _ λ _. then-given _ _ _ _ λ x _. then-accept _ _ _ _ (nothing_written)
has_room b p (copy t q z) A s = then-else _ _ _ _ λ _. then-given _ _ _ _ λ x _. then-put _ A s t z x.content x.pairs λ _ _. nothing_written
has_room b p (list q z) A s = then-else _ _ _ _ λ i. then-accept _ _ _ _ (leb-true _ _ i, omega arith)
has_room b p (initiate t q ps) A s =
    then-else _ _ _ _ λ _. then-else _ _ _ _ λ _. then-else _ _ _ _ λ _. then-else _ _ _ _ λ _. then-accept _ _ _ _ (nothing_written)
has_room b p (part u n d) A s =
    then-else _ _ _ _ λ _. then-given _ _ _ _ λ x _. then-else _ _ _ _ λ _. then-else _ _ _ _ λ _. then-accept _ _ _ _ (nothing_written)
has_room b p (commit u ns) A s = then-given _ _ _ _ λ x _. then-given _ _ _ _ λ xs _. then-else _ _ _ _ λ _. then-accept _ _ _ _ (nothing_written)
has_room b p (abort u) A s = then-given _ _ _ _ λ x _. then-accept _ _ _ _ (nothing_written)
has_room b p (uploads q) A s = then-else _ _ _ _ λ i. then-accept _ _ _ _ (leb-true _ _ i, omega arith)

length_over : (x b : Bytes) → length x ≤ length b → length (over x b) ≡ length b
length_over x b h = omega (arith, length-append x (drop (length x) b), length-drop (length x) b)

abbrev SameLengths : Buffers → Buffers → Type 0
SameLengths x y = (length x.answer ≡ length y.answer) × (length x.pairs ≡ length y.pairs)

outcome-lengths : (b : Buffers) (o : Outcome) → Then (Room b) o → SameLengths (reply_of b o).buffers b
unfolding Then
outcome-lengths b (refuse n) h = (refl, refl)
outcome-lengths b (accept a out s) h = (length_over out.answer b.answer h.0, length_over out.pairs b.pairs h.1)

reply-lengths : (b p : Bytes) (e : Entry) (m : Memory) → SameLengths (meant_reply (call_of b p e) m).buffers (lent (call_of b p e))
unfolding meant_reply
reply-lengths b p e m = go (whole_memory m) refl
  where
    go : (w : Bool) → whole_memory m ≡ w → SameLengths (meant_reply (call_of b p e) m).buffers (lent (call_of b p e))
    go true t = rw t (outcome-lengths (lent (call_of b p e)) (act (length m.arena) (state_in m) (call_of b p e)) (has_room b p e (length m.arena) (state_in m)))
    go false t = rw t (refl, refl)

-- So the buffers that the call has are those of its reply -----------------------------------------------------------------

over-all : (x b : Bytes) → length x ≡ length b → over x b ≡ x
over-all x b e =
    let h : length b ≤ length x = omega arith in
    ap (λ (l : Bytes). x ++ l) (drop_of_length-le b h) ∙ append-nil x

no_bytes : (x : Bytes) → length x ≡ 0 → [] ≡ x
no_bytes [] e = refl
no_bytes (y ∷ x) e = absurd (omega arith)

own-buffers : (b p : Bytes) (e : Entry) (w : Buffers) → SameLengths w (lent (call_of b p e)) → buffers_of e (written w (buffers b p)) ≡ w
own-buffers b p (put t q d ps) w h = ap₂ buffers (no_bytes w.answer h.0) (no_bytes w.pairs h.1)
own-buffers b p (get q) w h = ap₂ buffers (over-all w.answer b h.0) (over-all w.pairs p h.1)
own-buffers b p (head q) w h = ap₂ buffers (no_bytes w.answer h.0) (over-all w.pairs p h.1)
own-buffers b p (delete q) w h = ap₂ buffers (no_bytes w.answer h.0) (no_bytes w.pairs h.1)
own-buffers b p (copy t q z) w h = ap₂ buffers (no_bytes w.answer h.0) (no_bytes w.pairs h.1)
own-buffers b p (list q z) w h = ap₂ buffers (over-all w.answer b h.0) (no_bytes w.pairs h.1)
own-buffers b p (initiate t q ps) w h = ap₂ buffers (no_bytes w.answer h.0) (no_bytes w.pairs h.1)
own-buffers b p (part u n d) w h = ap₂ buffers (no_bytes w.answer h.0) (no_bytes w.pairs h.1)
own-buffers b p (commit u ns) w h = ap₂ buffers (no_bytes w.answer h.0) (no_bytes w.pairs h.1)
own-buffers b p (abort u) w h = ap₂ buffers (no_bytes w.answer h.0) (no_bytes w.pairs h.1)
own-buffers b p (uploads q) w h = ap₂ buffers (over-all w.answer b h.0) (no_bytes w.pairs h.1)

-- The line ----------------------------------------------------------------------------------------------------------------

module _ (l b p : Bytes) (m : Memory) (o : Bytes) (n : ℕ) (b' : Buffers) (o' : Bytes) (m' : Memory) where
  -- a reply of 48 bytes
  module _ (e : Entry) (fits : length o ≡ reply_length) (d : CallDone (call_of b p e) (buffers b p) m o n b' o' m') where
    is : answer_with (call_of b p e) m o ≡ meant_reply (call_of b p e) m
    unfolding answer_with
    is = rw (eq-eqb _ _ fits)

    same : d.reply ≡ answer_with (call_of b p e) m o
    same = d.made.answers ∙ sym is

    own : buffers_of e b' ≡ d.reply.buffers
    own =
        let r = d.made.answers in
        ap (buffers_of e) (d.held ∙ ap (λ (x : Reply). written x.buffers (buffers b p)) r)
        ∙ own-buffers b p e (meant_reply (call_of b p e) m).buffers (reply-lengths b p e m)
        ∙ ap (λ (x : Reply). x.buffers) (sym r)

    call-exported : Exported (call_of b p e) m o n (buffers_of e b') o' m'
    call-exported = record {
      number = d.result ∙ ap (λ (x : Reply). x.result) same;
      buffer = own ∙ ap (λ (x : Reply). x.buffers) same;
      reply = d.told ∙ ap (λ (x : Reply). reply_after x o) same;
      made = λ _. rw d.made.answers at d.made;
      kept = λ h. absurd (h fits);
    }

    call_kept : b' ≡ written (buffers_of e b') (buffers b p)
    call_kept = d.held ∙ ap (λ (x : Buffers). written x (buffers b p)) (sym own)

  -- another length
  module _ (e : Entry) (h : length o ≡ reply_length → ⊥) (k : (n ≡ 1) × (b' ≡ buffers b p) × (o' ≡ o) × (m' ≡ m)) where
    lent-buffers : (e : Entry) → buffers_of e (buffers b p) ≡ lent (call_of b p e)
    lent-buffers (put t q d ps) = refl
    lent-buffers (get q) = refl
    lent-buffers (head q) = refl
    lent-buffers (delete q) = refl
    lent-buffers (copy t q z) = refl
    lent-buffers (list q z) = refl
    lent-buffers (initiate t q ps) = refl
    lent-buffers (part u n d) = refl
    lent-buffers (commit u ns) = refl
    lent-buffers (abort u) = refl
    lent-buffers (uploads q) = refl

    another-exported : Exported (call_of b p e) m o n (buffers_of e b') o' m'
    unfolding answer_with reply_after
    another-exported = record {
      number = k.0 ∙ rw (ne_eqb _ _ h);
      buffer = ap (buffers_of e) k.1 ∙ lent-buffers e ∙ rw (ne_eqb _ _ h);
      reply = k.2 ∙ rw (ne_eqb _ _ h);
      made = λ f. absurd (h f);
      kept = λ _. k.3;
    }

  pub line-exported : LineReplayed l (buffers b p) m o n b' o' m' → ExportedLine l (buffers b p) m o n b' o' m'
  line-exported r = go (ℕ_discrete (length o) reply_length)
    where
      go : Dec (length o ≡ reply_length) → ExportedLine l (buffers b p) m o n b' o' m'
      go (yes f) =
          let d = r.done f in
          record {
            form = λ e q. call-exported e f (d.form e q);
            kept = λ e q. call_kept e f (d.form e q);
            other = λ q. let w = d.other q in (w.0 ∙ rw (eq-eqb _ _ f), w.1, w.2, w.3);
          }
      go (no h) =
          let k = r.another h in
          record {
            form = λ e q. another-exported e h k;
            kept = λ e q. k.1 ∙ sym (ap (λ (x : Buffers). written (buffers_of e x) (buffers b p)) k.1 ∙ over-lent e);
            other = λ q. (k.0 ∙ rw (ne_eqb _ _ h), k.1, k.2, k.3);
          }
        where
          over-lent : (e : Entry) → written (buffers_of e (buffers b p)) (buffers b p) ≡ buffers b p
          over-lent (put t q d ps) = refl
          over-lent (get q) = ap₂ buffers (over-all b b refl) (over-all p p refl)
          over-lent (head q) = ap (λ (x : Bytes). buffers b x) (over-all p p refl)
          over-lent (delete q) = refl
          over-lent (copy t q z) = refl
          over-lent (list q z) = ap (λ (x : Bytes). buffers x p) (over-all b b refl)
          over-lent (initiate t q ps) = refl
          over-lent (part u n d) = refl
          over-lent (commit u ns) = refl
          over-lent (abort u) = refl
          over-lent (uploads q) = ap (λ (x : Bytes). buffers x p) (over-all b b refl)
