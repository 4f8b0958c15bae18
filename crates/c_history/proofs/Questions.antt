-- The auditor's two questions, of every list of exported calls. Assumes nothing.
use Prim.Native.Nat.{ℕ}
use native.Mathlib.Decide.{ℕ_discrete}
use mathlib.Core.Path.{◌≡◌, sym, ap, ◌∙◌}
use mathlib.Core.Bool.{true}
use mathlib.Core.List.{List, ◌∷◌, ◌++◌}
use borrow.Author.Tests.{eq-eqb, ne_eqb}
use lib.ListN.{length}
use Rattle.base_number.specs.Number.{AreBytes}
use Rattle.machine.specs.Calls.{ABORT, SWEEP, Reply}
use Rattle.machine.specs.State.{fresh}
use Rattle.machine.specs.Steps.{to_sweep}
use Rattle.machine.specs.Lists.{Trace, final}
use Rattle.machine.specs.ListFits.{member}
use Rattle.machine.specs.Demand3.{accepted, calls}
use Rattle.call_contract.specs.Made.{Memory}
use Rattle.store_history.specs.Questions.{ChangesNone, SameReads, StaysOut}
use Rattle.store_history.specs.LastWrites.{Consistent}
use Rattle.store_history.proofs.LastWrites as history
use Rattle.store_history.proofs.Reading as reading
use Rattle.store_history.proofs.Aborted as aborted
use Rattle.c_reply.specs.Reply.{reply_length, reply_after}
use Rattle.rathnodi.specs.Exported.{answer_with}
use Rattle.c_history.specs.Events.{Event, heard}
use Rattle.c_history.specs.Lists.{CRun, CFromFresh}
use Rattle.c_history.specs.Questions.{CReadsSame}
use Rattle.c_history.proofs.Demand3.{is-run, from-fresh}

-- "Can a batch record be read before its last weighing is committed?" What is read at a path is what its last accepted write left there.
pub consistent : (A : ℕ) (es : List Event) (m : Memory) → CFromFresh A es m → Consistent A (heard es) m
consistent A es m f = history.consistent A (heard es) m (from-fresh A es m f)

-- over any memory of bytes, damaged or not: calls that set and remove no object change nothing that is read
pub unread : {es : List Event} {m m' : Memory} → AreBytes m.tables → CRun es m m' → ChangesNone (heard es) → SameReads m m'
unread b run h = reading.unread (is-run b run) h

-- the same calls from C: with a reply of 48 bytes they are made, with another length both answer 1
c-reads-same : (m m' : Memory) → SameReads m m' → CReadsSame m m'
unfolding SameReads CReadsSame answer_with
c-reads-same m m' same k o n n' b b' r r' x x' look e e' =
    let is = go (ℕ_discrete (length o) reply_length) in (
      e'.number ∙ ap (λ (y : Reply). y.result) is ∙ sym e.number,
      e'.buffer ∙ ap (λ (y : Reply). y.buffers) is ∙ sym e.buffer,
      e'.reply ∙ ap (λ (y : Reply). reply_after y o) is ∙ sym e.reply,
    )
  where
    go : Dec (length o ≡ reply_length) → answer_with k m' o ≡ answer_with k m o
    go (yes l) = rw (eq-eqb _ _ l) (same k _ _ _ _ look (e.made l) (e'.made l))
    go (no l) = rw (ne_eqb _ _ l)

pub c-unread : {es : List Event} {m m' : Memory} → AreBytes m.tables → CRun es m m' → ChangesNone (heard es) → CReadsSame m m'
c-unread {m} {m'} b run h = c-reads-same m m' (unread b run h)

-- "Can weighings of an aborted upload turn up in a later record?"
pub stays_out : (A : ℕ) (es : List Event) (m : Memory) → CFromFresh A es m → (before after : Trace) (u : ℕ) (r : Reply)
    → heard es ≡ before ++ (ABORT u, r) ∷ after → accepted r ≡ true → StaysOut A before (ABORT u) u r after m
stays_out A es m f = aborted.stays_out A (heard es) m (from-fresh A es m f)

-- E3: the same of an upload that a sweep aborted
pub swept-stays-out : (A : ℕ) (es : List Event) (m : Memory) → CFromFresh A es m → (before after : Trace) (u : ℕ) (r : Reply) (stamp most : ℕ)
    → heard es ≡ before ++ (SWEEP stamp most, r) ∷ after → accepted r ≡ true
    → member u (to_sweep stamp most (final A fresh (calls before)).U) ≡ true → StaysOut A before (SWEEP stamp most) u r after m
swept-stays-out A es m f = aborted.swept-stays-out A (heard es) m (from-fresh A es m f)
