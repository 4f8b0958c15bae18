-- What a C program passes to one exported function and sees of it, and what it hears by that. Assumes nothing.
use Rattle.std.specs.Prelude.{ℕ, cond, List, [], ◌∷◌, eqb, length}
use Rattle.std.proofs.Math.Option.{Option, none, some}
use Rattle.machine.specs.Names.{Bytes}
use Rattle.machine.specs.Calls.{Call, Buffers, Reply, nothing}
use Rattle.machine.specs.Lists.{Trace}
use Rattle.c_reply.specs.Reply.{reply_length}
use Rattle.c_reply.specs.ReadBack.{answer_in}
use Rattle.recording.specs.Entry.{Entry, call_of}
use Rattle.recording.specs.Parse.{entry_of}
use Rattle.rathnodi.specs.Exported.{numbered_with}
use Rattle.rathnodi.specs.Line.{buffers_of}

-- One call. Its arguments, and the bytes of its answer buffers before, are those of the machine's call.
pub data Event : Type 0 where
  -- without a reply slice: the number returned, and the answer buffers after the call, of no bytes where it has none
  alone : (call : Call) (number : ℕ) (buffers : Buffers) → Event
  -- with one that held `before`: the number returned, then the answer buffers and the reply slice after the call
  replied : (call : Call) (before : Bytes) (number : ℕ) (buffers : Buffers) (after : Bytes) → Event
  -- E8, a line replayed, with both answer buffers as they were lent: the same, of both buffers
  line : (line : Bytes) (lent : Buffers) (before : Bytes) (number : ℕ) (buffers : Buffers) (after : Bytes) → Event

-- what a reply of 48 bytes tells with the number and the answer buffers; a refusal (not 0) answers nothing
abbrev pub told : Call → (number : ℕ) → Buffers → (reply : Bytes) → Reply
told k n b o = record { result = n; answer = cond (eqb n 0) (answer_in k o) nothing; buffers = b }

-- a call with a reply, heard before the trace t; with a reply of another length it adds nothing
abbrev pub heard_reply : Call → (before : Bytes) (number : ℕ) → Buffers → (after : Bytes) → Trace → Trace
heard_reply k o n b o' t = cond (eqb (length o) reply_length) ((k, told k n b o') ∷ t) t

-- a line that says a call is heard as that call; a line that says none adds nothing
abbrev pub heard_line : Option Entry → (lent : Buffers) (before : Bytes) (number : ℕ) → Buffers → (after : Bytes) → Trace → Trace
heard_line none b o n b' o' t = t
heard_line (some e) b o n b' o' t = heard_reply (call_of b.answer b.pairs e) o n (buffers_of e b') o' t

-- what C hears of a list of calls, as a trace of the machine
unfoldable pub heard : List Event → Trace
heard [] = []
heard (alone k n b ∷ es) = (k, numbered_with n b) ∷ heard es
heard (replied k o n b o' ∷ es) = heard_reply k o n b o' (heard es)
heard (line l b o n b' o' ∷ es) = heard_line (entry_of l) b o n b' o' (heard es)
