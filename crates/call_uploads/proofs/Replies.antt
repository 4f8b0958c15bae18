-- UPLOADS' replies over whole memory. Assumes nothing.
use Prim.Native.Nat.{ℕ, ◌≤◌, ◌<◌}
use mathlib.Core.Path.{◌≡◌, sym, ap, ap₂, ◌∙◌}
use mathlib.Core.Bool.{true}
use mathlib.Core.List.{List, []}
use native.Mathlib.Omega.{arith}
use lib.ListN.{length}
use Rattle.base_number.specs.Number.{AreBytes, fronted}
use Rattle.call_types.specs.declared.Counts.{Counts}
use Rattle.std.specs.Prelude.{Ok, Err}
use Rattle.call_types.specs.declared.Refusal.TheVariants.{BufferShort}
use Rattle.machine.specs.Map.{Map, records}
use Rattle.machine.specs.Names.{Bytes}
use Rattle.machine.specs.State.{Upload, State}
use Rattle.machine.specs.Calls.{UPLOADS, counts, buffers, Reply}
use Rattle.machine.specs.Steps.{open_under, upload_record, act, reply_of}
use Rattle.machine.proofs.Records.{write-fits, write-short}
use Rattle.mem_layout.specs.Memory.{whole, state_of}
use Rattle.mem_layout.proofs.WholeLaws.{whole-stands}
use Rattle.call_contract.specs.Answers.{list_reply, success}
use Rattle.call_contract.specs.Made.{memory, outcome, Made}
use Rattle.call_contract.proofs.Reading.{reads, write_keeps}

module _ (t a : List ℕ) (prefix b : Bytes) where
  abbrev s : State
  s = state_of t a

  -- the uploads that UPLOADS has, and its bytes
  abbrev l : Map ℕ Upload
  l = open_under prefix s.U

  abbrev out : Bytes
  out = records upload_record l

  -- the buffer is short
  pub refused-short : (n : ℕ) → n ≡ length out → length b < n → list_reply (Err BufferShort) b ≡ reply_of (buffers b []) (outcome (UPLOADS prefix b) (memory t a))
  unfolding outcome act
  refused-short n e h = sym (write-short (counts (length l) (length out)) out b s (omega arith))

  -- the records stand at its front
  pub all-written : (c : Counts) (x b' : Bytes) → (c.records ≡ length l) × (c.bytes ≡ length out) → c.bytes ≤ length b → x ≡ out → b' ≡ fronted b x
      → list_reply (Ok c) b' ≡ reply_of (buffers b []) (outcome (UPLOADS prefix b) (memory t a))
  unfolding outcome act
  all-written c x b' e h same told =
      let m = e.0 in
      let n = e.1 in
      ap₂ (λ (j k : ℕ). success (counts j k) (buffers b' [])) m n
      ∙ ap (λ (y : Bytes). success (counts (length l) (length out)) (buffers y [])) (told ∙ ap (fronted b) same)
      ∙ sym (write-fits (counts (length l) (length out)) out b s (omega arith))

  -- the contract
  pub made-uploads : AreBytes t → whole t a ≡ true → (r : Reply) → r ≡ reply_of (buffers b []) (outcome (UPLOADS prefix b) (memory t a)) → Made (UPLOADS prefix b) (memory t a) r (memory t a)
  unfolding outcome act
  made-uploads bytes w r e = reads (UPLOADS prefix b) (memory t a) r w (whole-stands t a bytes w) (write_keeps (counts (length l) (length out)) out b s) e
