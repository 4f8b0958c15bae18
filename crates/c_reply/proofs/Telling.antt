-- The calls with a reply slice answer something where they are accepted, so the reply is written then and only then. Assumes nothing.
use Prim.Native.Nat.{ℕ}
use mathlib.Core.Path.{◌≡◌, refl}
use mathlib.Core.Bool.{Bool, true, false}
use mathlib.Core.List.{List}
use lib.ListN.{length}
use Rattle.machine.specs.Names.{Bytes}
use Rattle.machine.specs.Pairs.{Pair}
use Rattle.machine.specs.State.{State}
use Rattle.machine.specs.Calls.{Call, GET, HEAD, LIST, INITIATE, PART, UPLOADS, SWEEP, Answer, Buffers, Outcome, refuse, accept, lent}
use Rattle.machine.specs.Steps.{act, reply_of}
use Rattle.machine.proofs.Outcome.{refused-not-accepted, Then, then-accept, then-else, then-given, then-object}
use Rattle.call_contract.specs.Made.{Memory, whole_memory, state_in, meant_reply}
use Rattle.c_reply.specs.Reply.{reply_bytes, reply_over, reply_after}

-- an answer that is written
abbrev pub Tells : Answer → Buffers → State → Type 0
Tells a out s = (o : Bytes) → reply_over a o ≡ reply_bytes a

-- whatever the state, call k tells where it is accepted
abbrev pub Telling : Call → Type 0
Telling k = (A : ℕ) (s : State) → Then Tells (act A s k)

pub get_tells : (p b k : Bytes) → Telling (GET p b k)
unfolding act
get_tells p b k A s = then-object _ s p _ λ x. then-else _ _ _ _ λ _. then-else _ _ _ _ λ _. then-accept Tells _ _ _ λ o. refl

pub head-tells : (p k : Bytes) → Telling (HEAD p k)
unfolding act
head-tells p k A s = then-object _ s p _ λ x. then-else _ _ _ _ λ _. then-accept Tells _ _ _ λ o. refl

pub list_tells : (p q b : Bytes) → Telling (LIST p q b)
unfolding act
list_tells p q b A s = then-else _ _ _ _ λ _. then-accept Tells _ _ _ λ o. refl

pub initiate-tells : (t : ℕ) (p : Bytes) (ps : List Pair) → Telling (INITIATE t p ps)
unfolding act
initiate-tells t p ps A s = then-else _ _ _ _ λ _. then-else _ _ _ _ λ _. then-else _ _ _ _ λ _. then-else _ _ _ _ λ _. then-accept Tells _ _ _ λ o. refl

pub part-tells : (u n : ℕ) (d : Bytes) → Telling (PART u n d)
unfolding act
part-tells u n d A s = then-else _ _ _ _ λ _. then-given _ _ _ _ λ x _. then-else _ _ _ _ λ _. then-else _ _ _ _ λ _. then-accept Tells _ _ _ λ o. refl

pub uploads-tells : (p b : Bytes) → Telling (UPLOADS p b)
unfolding act
uploads-tells p b A s = then-else _ _ _ _ λ _. then-accept Tells _ _ _ λ o. refl

pub sweep-tells : (t n : ℕ) → Telling (SWEEP t n)
unfolding act
sweep-tells t n A s = then-else _ _ _ _ λ _. then-accept Tells _ _ _ λ o. refl

-- by the answer or by the number: the reply slice is the same
outcome-over : (b : Buffers) (o : Bytes) (x : Outcome) → Then Tells x → reply_over (reply_of b x).answer o ≡ reply_after (reply_of b x) o
unfolding reply_after Then
outcome-over b o (refuse n) h = rw (refused-not-accepted b n)
outcome-over b o (accept a out s) h = h o

pub meant-over : (k : Call) → Telling k → (m : Memory) (o : Bytes) → reply_over (meant_reply k m).answer o ≡ reply_after (meant_reply k m) o
unfolding meant_reply reply_after
meant-over k tells m o = go (whole_memory m) refl
  where
    go : (w : Bool) → whole_memory m ≡ w → reply_over (meant_reply k m).answer o ≡ reply_after (meant_reply k m) o
    go true e = rw e (outcome-over (lent k) o (act (length m.arena) (state_in m) k) (tells (length m.arena) (state_in m)))
    go false e = rw e
