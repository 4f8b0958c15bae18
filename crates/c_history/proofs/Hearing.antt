-- A list of exported calls is a run: what C hears is what the machine answers. Assumes nothing.
use Prim.Native.Nat.{ℕ}
use native.Mathlib.Decide.{ℕ_discrete}
use mathlib.Core.Path.{◌≡◌, refl, sym, ap, ◌∙◌, subst}
use mathlib.Core.Bool.{Bool, true, false, cond}
use mathlib.Core.List.{List, ◌∷◌}
use mathlib.Core.Option.{Option, none, some}
use borrow.Author.Tests.{eq-eqb, ne_eqb}
use lib.Dec.{eqb}
use lib.ListN.{length}
use Rattle.machine.specs.Names.{Bytes}
use Rattle.machine.specs.Calls.{Call, Answer, Buffers, Reply, Outcome, refuse, accept, lent}
use Rattle.machine.specs.Lists.{Trace}
use Rattle.machine.specs.Steps.{act, reply_of}
use Rattle.machine.proofs.Outcome.{refused-not-accepted, Then}
use Rattle.call_contract.specs.Made.{Memory, whole_memory, state_in, meant_reply, Made}
use Rattle.store_history.specs.Runs.{Run}
use Rattle.store_history.specs.Runs as runs
use Rattle.c_reply.specs.Reply.{reply_length, reply_after}
use Rattle.recording.specs.Entry.{Entry, call_of}
use Rattle.recording.specs.Parse.{entry_of}
use Rattle.recording_line.specs.Replayed.{not_a_line}
use Rattle.rathnodi.specs.Exported.{answer_with, Exported}
use Rattle.rathnodi.specs.Line.{buffers_of, ExportedLine}
use Rattle.c_history.specs.Events.{Event, alone, replied, line, told, heard_reply, heard_line, heard}
use Rattle.c_history.specs.Lists.{Step, CRun, stop, call}
use Rattle.c_history.proofs.Telling.{ReadBack, reads-back}
use Rattle.c_history.proofs.Sound.{Promised, promised, Sound, promised-sound}

-- what an outcome's reply tells
outcome-told : (k : Call) (b : Buffers) (o : Bytes) (x : Outcome) → Then (ReadBack k) x
    → told k (reply_of b x).result (reply_of b x).buffers (reply_after (reply_of b x) o) ≡ reply_of b x
unfolding reply_after Then
outcome-told k b o (refuse n) h = rw (refused-not-accepted b n)
outcome-told k b o (accept a out s) h = ap (λ (y : Answer). record { result = 0; answer = y; buffers = (reply_of b (accept a out s)).buffers }) h

meant-told : (k : Call) (m : Memory) (o : Bytes) → Sound m
    → told k (meant_reply k m).result (meant_reply k m).buffers (reply_after (meant_reply k m) o) ≡ meant_reply k m
unfolding Sound meant_reply reply_after
meant-told k m o h = go (whole_memory m) refl
  where
    go : (w : Bool) → whole_memory m ≡ w → told k (meant_reply k m).result (meant_reply k m).buffers (reply_after (meant_reply k m) o) ≡ meant_reply k m
    go true e =
        let s = h e in
        rw e (outcome-told k (lent k) o (act (length m.arena) (state_in m) k) (reads-back (length m.arena) (state_in m) s.small s.valid k))
    go false e = rw e

exported-told : (k : Call) (m : Memory) (o : Bytes) (n : ℕ) (b : Buffers) (o' : Bytes) (m' : Memory) → Sound m → length o ≡ reply_length → Exported k m o n b o' m'
    → told k n b o' ≡ meant_reply k m
unfolding answer_with
exported-told k m o n b o' m' h l x =
    let is : answer_with k m o ≡ meant_reply k m = rw (eq-eqb _ _ l) in
    let at_n = x.number ∙ ap (λ (r : Reply). r.result) is in
    let at_b = x.buffer ∙ ap (λ (r : Reply). r.buffers) is in
    let at-o = x.reply ∙ ap (λ (r : Reply). reply_after r o) is in
    (λ i. told k (at_n i) (at_b i) (at-o i)) ∙ meant-told k m o h

-- a call with a reply before a run
reply-heard : (k : Call) (o : Bytes) (n : ℕ) (b : Buffers) (o' : Bytes) (t : Trace) (m m₁ m₂ : Memory) → Sound m → Exported k m o n b o' m₁ → Run t m₁ m₂ → Run (heard_reply k o n b o' t) m m₂
reply-heard k o n b o' t m m₁ m₂ h x rest = go (ℕ_discrete (length o) reply_length)
  where
    go : Dec (length o ≡ reply_length) → Run (heard_reply k o n b o' t) m m₂
    go (yes l) =
        rw (eq-eqb _ _ l)
        (runs.call (subst (λ (r : Reply). Made k m r m₁) (sym (exported-told k m o n b o' m₁ h l x)) (x.made l)) rest)
    go (no l) = rw (ne_eqb _ _ l) (subst (λ (y : Memory). Run t y m₂) (x.kept l) rest)

-- a line before a run
line-heard : (l : Bytes) (b : Buffers) (o : Bytes) (n : ℕ) (b' : Buffers) (o' : Bytes) (t : Trace) (m m₁ m₂ : Memory) → Sound m → ExportedLine l b m o n b' o' m₁ → Run t m₁ m₂ → Run (heard_line (entry_of l) b o n b' o' t) m m₂
line-heard l b o n b' o' t m m₁ m₂ h x rest = go (entry_of l) refl
  where
    go : (e : Option Entry) → entry_of l ≡ e → Run (heard_line e b o n b' o' t) m m₂
    go none q = subst (λ (y : Memory). Run t y m₂) (x.other q).3 rest
    go (some e) q = reply-heard (call_of b.answer b.pairs e) o n (buffers_of e b') o' t m m₁ m₂ h (x.form e q) rest

-- one call before the rest of the list
one-heard : (e : Event) (es : List Event) (m m₁ m₂ : Memory) → Sound m → Promised e m m₁ → Run (heard es) m₁ m₂ → Run (heard (e ∷ es)) m m₂
unfolding Promised heard
one-heard (alone k n b) es m m₁ m₂ h made rest = runs.call made rest
one-heard (replied k o n b o') es m m₁ m₂ h x rest = reply-heard k o n b o' (heard es) m m₁ m₂ h x rest
one-heard (line l b o n b' o') es m m₁ m₂ h x rest = line-heard l b o n b' o' (heard es) m m₁ m₂ h x rest

pub sound-run : {es : List Event} {m m' : Memory} → Sound m → CRun es m m' → Run (heard es) m m'
unfolding heard
sound-run h stop = runs.stop
sound-run h (call {e} {es} {m} {m₁} {m₂} step rest) =
    one-heard e es m m₁ m₂ h (promised step) (sound-run (promised-sound e m m₁ h (promised step)) rest)

-- a call with a reply of another length answers 1 and leaves every byte
pub another-length : {k : Call} {n : ℕ} {o : Bytes} {b : Buffers} {o' : Bytes} {m m' : Memory} → Step (replied k o n b o') m m' → (length o ≡ reply_length → ⊥)
    → (n ≡ 1) × (b ≡ lent k) × (o' ≡ o) × (m' ≡ m)
unfolding Promised answer_with reply_after
another-length {k} {n} {o} {b} {o'} {m} {m'} step l =
    let x : Exported k m o n b o' m' = promised step in
    (x.number ∙ rw (ne_eqb _ _ l), x.buffer ∙ rw (ne_eqb _ _ l), x.reply ∙ rw (ne_eqb _ _ l), x.kept l)

-- a line that says no call answers 9, or 1, and leaves every byte
pub no_line : {l : Bytes} {b : Buffers} {o : Bytes} {n : ℕ} {b' : Buffers} {o' : Bytes} {m m' : Memory} → Step (line l b o n b' o') m m' → entry_of l ≡ none
    → (n ≡ cond (eqb (length o) reply_length) (not_a_line m) 1) × (b' ≡ b) × (o' ≡ o) × (m' ≡ m)
unfolding Promised
no_line {l} {b} {o} {n} {b'} {o'} {m} {m'} step q = let x : ExportedLine l b m o n b' o' m' = promised step in x.other q
