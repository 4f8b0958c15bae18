-- LIST's replies over whole memory. Assumes nothing.
use Prim.Native.Nat.{ℕ, ◌≤◌, ◌<◌}
use mathlib.Core.Path.{◌≡◌, sym, ap₂, ◌∙◌}
use mathlib.Core.Bool.{true}
use mathlib.Core.List.{List, [], ◌++◌}
use native.Mathlib.Omega.{arith}
use lib.ListN.{length, drop}
use Rattle.base_number.specs.Number.{AreBytes}
use Rattle.call_types.specs.declared.Counts.{Counts}
use Rattle.std.specs.Prelude.{Ok, Err}
use Rattle.call_types.specs.declared.Refusal.TheVariants.{BufferShort}
use Rattle.machine.specs.State.{State}
use Rattle.machine.specs.Calls.{LIST, Answer, counts, buffers, Reply}
use Rattle.machine.specs.Steps.{act, listed, reply_of}
use Rattle.machine.proofs.Records.{write-fits, write-short}
use Rattle.mem_layout.specs.Memory.{whole, state_of}
use Rattle.mem_layout.proofs.WholeLaws.{whole-stands}
use Rattle.call_contract.specs.Answers.{list_reply, success}
use Rattle.call_contract.specs.Made.{memory, outcome, Made}
use Rattle.call_contract.proofs.Reading.{reads, write_keeps}
use Rattle.call_list.specs.Rows.{list_bytes}

module _ (t a prefix suffix b : List ℕ) where
  abbrev s : State
  s = state_of t a

  abbrev out : List ℕ
  out = list_bytes prefix suffix s

  abbrev told : Answer
  told = counts (length (listed prefix suffix s.O)) (length out)

  -- the bytes exceed the buffer
  pub list-short : (n : ℕ) → n ≡ length out → length b < n → list_reply (Err BufferShort) b ≡ reply_of (buffers b []) (outcome (LIST prefix suffix b) (memory t a))
  unfolding outcome act
  list-short n e l = sym (write-short told out b s (omega arith))

  -- they fit, and are written
  pub list_written : (b' : List ℕ) (c : Counts) → c.records ≡ length (listed prefix suffix s.O) → c.bytes ≡ length out → c.bytes ≤ length b → b' ≡ out ++ drop (length out) b
      → list_reply (Ok c) b' ≡ reply_of (buffers b []) (outcome (LIST prefix suffix b) (memory t a))
  unfolding outcome act
  list_written b' c e f l q = ap₂ (λ (x : Answer) (y : List ℕ). success x (buffers y [])) (ap₂ counts e f) q ∙ sym (write-fits told out b s (omega arith))

  -- the contract
  pub made_list : AreBytes t → whole t a ≡ true → (r : Reply) → r ≡ reply_of (buffers b []) (outcome (LIST prefix suffix b) (memory t a)) → Made (LIST prefix suffix b) (memory t a) r (memory t a)
  unfolding outcome act
  made_list bytes w r e = reads (LIST prefix suffix b) (memory t a) r w (whole-stands t a bytes w) (write_keeps told out b s) e
