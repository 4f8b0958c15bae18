-- How a fact of every accepted outcome is shown, through the checks of a step; and that a refused outcome is told from an accepted one.
-- Assumes nothing.
use mathlib.Core.Path.{◌≡◌, refl}
use mathlib.Core.Bool.{Bool, true, false}
use mathlib.Core.List.{[], ◌∷◌}
use mathlib.Core.Option.{Option, none, some}
use Prim.Native.Nat.{ℕ}
use native.Mathlib.Omega.{arith}
use borrow.Author.Tests.{ne_eqb}
use lib.Dec.{leb}
use Rattle.machine.specs.Map.{Map}
use Rattle.machine.specs.Names.{Bytes}
use Rattle.machine.specs.State.{Object, State, with_object, held, counted}
use Rattle.machine.specs.Calls.{Answer, nothing, Buffers, no_buffers, Reply, Refusal, badRequest, notFound, tableFull, arenaFull, numbersUsedUp, bufferShort, tooMany, code, Outcome, refuse, accept, ◌else◌then◌, given}
use Rattle.machine.specs.Steps.{plain_object, put_at, object_at, reply_of, after}
use Rattle.machine.specs.Demand3.{accepted}

-- no refusal has the number of success
pub code-not-zero : (n : Refusal) → code n ≡ 0 → ⊥
code-not-zero badRequest e = omega arith
code-not-zero notFound e = omega arith
code-not-zero tableFull e = omega arith
code-not-zero arenaFull e = omega arith
code-not-zero numbersUsedUp e = omega arith
code-not-zero bufferShort e = omega arith
code-not-zero tooMany e = omega arith

pub refused-not-accepted : (b : Buffers) (n : Refusal) → accepted (reply_of b (refuse n)) ≡ false
refused-not-accepted b n = ne_eqb (code n) 0 (code-not-zero n)

-- Q holds where the outcome is accepted
unfoldable pub Then : (Answer → Buffers → State → Type 0) → Outcome → Type 0
Then Q (refuse n) = Unit {0}
Then Q (accept a out s) = Q a out s

pub then-accept : (Q : Answer → Buffers → State → Type 0) (a : Answer) (out : Buffers) (s : State) → Q a out s → Then Q (accept a out s)
unfolding Then
then-accept Q a out s h = h

pub then-else : (Q : Answer → Buffers → State → Type 0) (b : Bool) (n : Refusal) (o : Outcome) → (b ≡ true → Then Q o) → Then Q (b else n then o)
unfolding Then ◌else◌then◌
then-else Q true n o h = h refl
then-else Q false n o h = tt

pub then-given : (Q : Answer → Buffers → State → Type 0) {X : Type 0} (o : Option X) (n : Refusal) (k : X → Outcome) → ((x : X) → o ≡ some x → Then Q (k x)) → Then Q (given o n k)
unfolding Then given
then-given Q none n k h = tt
then-given Q (some x) n k h = h x refl

-- through what GET and HEAD find
pub then-object : (Q : Answer → Buffers → State → Type 0) (s : State) (p : Bytes) (k : Object → Outcome) → ((x : Object) → Then Q (k x)) → Then Q (object_at s p k)
unfolding object_at
then-object Q s [] k h = h _
then-object Q s (b ∷ p) k h = then-else _ _ _ _ λ _. then-given _ _ _ _ λ x _. h x

-- through the step that PUT and COPY share
pub then-put : (Q : Answer → Buffers → State → Type 0) (A : ℕ) (s : State) (t : ℕ) (p d : Bytes) (m : Map Bytes Bytes) →
    (counted (with_object s p (plain_object t d m)) ≡ true → leb (held (with_object s p (plain_object t d m))) A ≡ true → Q nothing no_buffers (with_object s p (plain_object t d m))) →
    Then Q (put_at A s t p d m)
unfolding put_at
then-put Q A s t p d m h = then-else _ _ _ _ λ c. then-else _ _ _ _ λ r. then-accept Q _ _ _ (h c r)

-- what holds where the outcome is refused, and where it is accepted and Q holds, holds of its reply and the state after it
pub then-step : (Q : Answer → Buffers → State → Type 0) (P : Reply → State → Type 0) (s : State) (b : Buffers) (o : Outcome) → Then Q o →
    ((n : Refusal) → P (reply_of b (refuse n)) s) → ((a : Answer) (out : Buffers) (s' : State) → Q a out s' → P (reply_of b (accept a out s')) s') →
    P (reply_of b o) (after s o)
unfolding Then
then-step Q P s b (refuse n) h f g = f n
then-step Q P s b (accept a out s') h f g = g a out s' h
