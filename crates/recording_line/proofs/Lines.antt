-- A line is replayed, or it is none. Assumes nothing.
use Prim.Native.Nat.{ℕ}
use mathlib.Core.Path.{◌≡◌, refl, sym, ap, subst}
use mathlib.Core.Option.{Option, none, some}
use native.Mathlib.Omega.{arith}
use Rattle.machine.specs.Names.{Bytes}
use Rattle.machine.specs.Calls.{Call, Buffers, Reply, no_buffers}
use Rattle.call_contract.specs.Answers.{refused}
use Rattle.call_contract.specs.Made.{Memory, whole_memory, Made}
use mathlib.Core.Bool.{true, false}
use Rattle.recording.specs.Entry.{Entry, call_of}
use Rattle.recording_line.specs.Replayed.{refusal_over, not_a_line, Replayed}

-- no line
pub no_line : {o : Option Entry} {m : Memory} (b p : Bytes) (own : Buffers) (n : ℕ) → o ≡ none → n ≡ not_a_line m → Replayed o b p own m (refused n own) m
no_line b p own n e h = record {
  form = λ x q. let z : ◌≡◌ {A = ℕ} 0 1 = cc in absurd (omega arith);
  other = λ q. (ap (λ (k : ℕ). refused k own) h, refl);
}

-- the call of the entry
pub a-line : {o : Option Entry} {m m' : Memory} {r : Reply} (b p : Bytes) (own : Buffers) (e : Entry) → o ≡ some e → Made (call_of b p e) m r m' → Replayed o b p own m r m'
a-line {m} {m'} {r} b p own e h k = record {
  form = λ x q. subst (λ (y : Entry). Made (call_of b p y) m r m') (let s : e ≡ x = cc in s) k;
  other = λ q. let z : ◌≡◌ {A = ℕ} 0 1 = cc in absurd (omega arith);
}

pub no_store : (n : ℕ) (m : Memory) → whole_memory m ≡ false → 1 ≡ refusal_over n m
unfolding refusal_over
no_store n m h = rw h

pub a-store : (n : ℕ) (m : Memory) → whole_memory m ≡ true → n ≡ refusal_over n m
unfolding refusal_over
a-store n m h = rw h

-- the number that was answered
pub by_number : {k : Call} {m : Memory} {n i : ℕ} → i ≡ n → Made k m (refused n no_buffers) m → Made k m (refused i no_buffers) m
by_number {k} {m} e h = subst (λ (j : ℕ). Made k m (refused j no_buffers) m) (sym e) h
