-- What the function that replays a line gives to C. Assumes nothing.
use Rattle.std.specs.Prelude.{ℕ, ◌≡◌, cond, [], eqb, length}
use Rattle.std.proofs.Math.Option.{none, some}
use Rattle.machine.specs.Names.{Bytes}
use Rattle.machine.specs.Calls.{Buffers, buffers, no_buffers}
use Rattle.machine.specs.Steps.{written}
use Rattle.call_contract.specs.Made.{Memory}
use Rattle.c_reply.specs.Reply.{reply_length}
use Rattle.recording.specs.Entry.{Entry, put, get, head, delete, copy, list, initiate, part, commit, abort, uploads, call_of}
use Rattle.recording.specs.Parse.{entry_of}
use Rattle.recording_line.specs.Replayed.{not_a_line}
use Rattle.rathnodi.specs.Exported.{Exported}

-- of both answer buffers, those that the entry's call has
abbrev pub buffers_of : Entry → Buffers → Buffers
buffers_of (put t p d ps) b = no_buffers
buffers_of (get p) b = b
buffers_of (head p) b = buffers [] b.pairs
buffers_of (delete p) b = no_buffers
buffers_of (copy t p q) b = no_buffers
buffers_of (list p q) b = buffers b.answer []
buffers_of (initiate t p ps) b = no_buffers
buffers_of (part u n d) b = no_buffers
buffers_of (commit u ns) b = no_buffers
buffers_of (abort u) b = no_buffers
buffers_of (uploads p) b = buffers b.answer []

-- Line l, lent both answer buffers b, memory m and a reply slice that held o, returned n and left b', the reply slice o' and memory m'.
pub record ExportedLine (l : Bytes) (b : Buffers) (m : Memory) (o : Bytes) (n : ℕ) (b' : Buffers) (o' : Bytes) (m' : Memory) : Type 0 where
  -- "Its results are those of the same calls made directly": the call of the line's entry, with its reply written whole on success
  pub form : (e : Entry) → entry_of l ≡ some e → Exported (call_of b.answer b.pairs e) m o n (buffers_of e b') o' m'
  -- a buffer that this call does not have keeps its bytes
  pub kept : (e : Entry) → entry_of l ≡ some e → b' ≡ written (buffers_of e b') b
  -- "A line that isn't such a form .. prints 9 and changes nothing"; 1 comes first
  pub other : entry_of l ≡ none → (n ≡ cond (eqb (length o) reply_length) (not_a_line m) 1) × (b' ≡ b) × (o' ≡ o) × (m' ≡ m)
