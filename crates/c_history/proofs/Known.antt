-- What a C program knows of its list of calls follows from what each call promised. Assumes nothing.
use Prim.Native.Nat.{ℕ}
use native.Mathlib.Decide.{ℕ_discrete}
use mathlib.Core.Path.{◌≡◌, refl, ap, ◌∙◌, subst}
use mathlib.Core.Bool.{Bool, true, false, cond}
use mathlib.Core.List.{List, ◌∷◌, ◌++◌, append-nil}
use mathlib.Core.Option.{Option, none, some}
use borrow.Author.Tests.{eq-eqb, ne_eqb}
use lib.Dec.{eqb}
use lib.ListN.{length}
use lib.Seq.{drop-length}
use Rattle.machine.specs.Names.{Bytes}
use Rattle.machine.specs.Calls.{Buffers, buffers, lent}
use Rattle.machine.specs.Steps.{over, written}
use Rattle.call_contract.specs.Made.{Memory, whole_memory, MadeFresh}
use Rattle.c_reply.specs.Reply.{reply_length, reply_after}
use Rattle.recording.specs.Entry.{Entry, put, get, head, delete, copy, list, initiate, part, commit, abort, uploads, call_of}
use Rattle.recording.specs.Parse.{entry_of}
use Rattle.recording_line.specs.Replayed.{refusal_over}
use Rattle.rathnodi.specs.Exported.{answer_with, Exported}
use Rattle.rathnodi.specs.Line.{buffers_of, ExportedLine}
use Rattle.c_history.specs.Events.{Event, alone, replied, line}
use Rattle.c_history.specs.Lists.{Step, CRun, stop, call, CFromFresh}
use Rattle.c_history.specs.Known.{made_of, OthersLeave, Known}
use Rattle.c_history.proofs.Sound.{Promised, promised}
use Rattle.c_history.proofs.Hearing.{another-length, no_line}
use Rattle.c_history.proofs.Demand3.{demand3}
use Rattle.c_history.proofs.Questions.{consistent}

-- one list after the other
pub then : {es fs : List Event} {m m₁ m₂ : Memory} → CRun es m m₁ → CRun fs m₁ m₂ → CRun (es ++ fs) m m₂
then stop more = more
then (call step rest) more = call step (then rest more)

-- buffers written over themselves are as they were
over-self : (b : Bytes) → over b b ≡ b
over-self b = rw (drop-length, append-nil)

lent_written : (e : Entry) (b : Buffers) → written (lent (call_of b.answer b.pairs e)) b ≡ b
lent_written (put t p d ps) b = refl
lent_written (get p) b = λ i. buffers (over-self b.answer i) (over-self b.pairs i)
lent_written (head p) b = λ i. buffers b.answer (over-self b.pairs i)
lent_written (delete p) b = refl
lent_written (copy t p q) b = refl
lent_written (list p q) b = λ i. buffers (over-self b.answer i) b.pairs
lent_written (initiate t p ps) b = refl
lent_written (part u n d) b = refl
lent_written (commit u ns) b = refl
lent_written (abort u) b = refl
lent_written (uploads p) b = λ i. buffers (over-self b.answer i) b.pairs

-- a line with a reply of another length answers 1 and leaves every byte
line-left : {l : Bytes} {b : Buffers} {o : Bytes} {n : ℕ} {b' : Buffers} {o' : Bytes} {m m' : Memory} → Step (line l b o n b' o') m m'
    → (length o ≡ reply_length → ⊥) → (n ≡ 1) × (b' ≡ b) × (o' ≡ o) × (m' ≡ m)
unfolding Promised answer_with reply_after
line-left {l} {b} {o} {n} {b'} {o'} {m} {m'} step other = go (entry_of l) refl
  where
    x : ExportedLine l b m o n b' o' m'
    x = promised step

    go : (e : Option Entry) → entry_of l ≡ e → (n ≡ 1) × (b' ≡ b) × (o' ≡ o) × (m' ≡ m)
    go none q = let k = x.other q in (k.0 ∙ rw (ne_eqb _ _ other), k.1, k.2, k.3)
    go (some e) q =
        let y : Exported (call_of b.answer b.pairs e) m o n (buffers_of e b') o' m' = x.form e q in
        let lent_back : buffers_of e b' ≡ lent (call_of b.answer b.pairs e) = y.buffer ∙ rw (ne_eqb _ _ other) in (
          y.number ∙ rw (ne_eqb _ _ other),
          x.kept e q ∙ ap (λ (z : Buffers). written z b) lent_back ∙ lent_written e b,
          y.reply ∙ rw (ne_eqb _ _ other),
          y.kept other,
        )

-- 9, or 1 over what is no store and with a reply of another length
nine : (c w : Bool) (n : ℕ) → n ≡ cond c (cond w 9 1) 1 → (n ≡ 9 → ⊥) → n ≡ 1
nine true true n e other = absurd (other e)
nine true false n e other = e
nine false w n e other = e

no-line-left : {l : Bytes} {b : Buffers} {o : Bytes} {n : ℕ} {b' : Buffers} {o' : Bytes} {m m' : Memory} → Step (line l b o n b' o') m m'
    → entry_of l ≡ none → ((n ≡ 9 → ⊥) → n ≡ 1) × (b' ≡ b) × (o' ≡ o)
unfolding refusal_over
no-line-left {o} {n} {m} step q = let k = no_line step q in (nine (eqb (length o) reply_length) (whole_memory m) n k.0, k.1, k.2)

others-leave : {es : List Event} {m m' : Memory} → CRun es m m' → OthersLeave es
unfolding OthersLeave
others-leave stop = tt
others-leave (call {e = alone k n b} step rest) = others-leave rest
others-leave (call {e = replied k o n b o'} step rest) = (λ l. let x = another-length step l in (x.0, x.1, x.2), others-leave rest)
others-leave (call {e = line l b o n b' o'} step rest) = (λ other. let x = line-left step other in (x.0, x.1, x.2), no-line-left step, others-leave rest)

one-made : (e : Event) (es : List Event) (m m₁ m₂ : Memory) → Step e m m₁ → CRun (made_of es) m₁ m₂ → CRun (made_of (e ∷ es)) m m₂
unfolding made_of
one-made (alone k n b) es m m₁ m₂ step rest = call step rest
one-made (replied k o n b o') es m m₁ m₂ step rest = go (ℕ_discrete (length o) reply_length)
  where
    go : Dec (length o ≡ reply_length) → CRun (made_of (replied k o n b o' ∷ es)) m m₂
    go (yes l) = rw (eq-eqb _ _ l) (call step rest)
    go (no l) = rw (ne_eqb _ _ l) (subst (λ (y : Memory). CRun (made_of es) y m₂) (another-length step l).3 rest)
one-made (line l b o n b' o') es m m₁ m₂ step rest = go (entry_of l) refl (ℕ_discrete (length o) reply_length)
  where
    go : (e : Option Entry) → entry_of l ≡ e → Dec (length o ≡ reply_length) → CRun (made_of (line l b o n b' o' ∷ es)) m m₂
    go none q d = rw q (subst (λ (y : Memory). CRun (made_of es) y m₂) (no_line step q).3 rest)
    go (some e) q (yes k) = rw (q, eq-eqb _ _ k) (call step rest)
    go (some e) q (no k) = rw (q, ne_eqb _ _ k) (subst (λ (y : Memory). CRun (made_of es) y m₂) (line-left step k).3 rest)

run-made : {es : List Event} {m m' : Memory} → CRun es m m' → CRun (made_of es) m m'
unfolding made_of
run-made stop = stop
run-made (call {e} {es} {m} {m₁} {m₂} step rest) = one-made e es m m₁ m₂ step (run-made rest)

pub known : (A : ℕ) (es : List Event) (m : Memory) → CFromFresh A es m → Known A es m
known A es m f =
    record {
      demand3 = demand3 A es m f;
      consistent = consistent A es m f;
      others = others-leave f.run;
      without-others = record { lent = f.lent; start = f.start; arena = f.arena; fresh = f.fresh; run = run-made f.run };
    }

-- what a caller concludes once FRESH answered 0 and its calls were made
pub conclude : (m m₀ m' : Memory) (n : ℕ) (es : List Event) → MadeFresh m n m₀ → n ≡ 0 → CRun es m₀ m' → Known (length m.arena) es m'
conclude m m₀ m' n es made z run =
    known (length m.arena) es m' (record { lent = m; start = m₀; arena = refl; fresh = subst (λ (k : ℕ). MadeFresh m k m₀) z made; run = run })
