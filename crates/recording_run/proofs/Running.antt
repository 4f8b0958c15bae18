-- A line that was replayed has the machine's result, whatever bytes its answer buffers hold. Assumes nothing.
use Prim.Native.Nat.{ℕ, zero, suc, ◌≤◌, ◌<◌}
use native.Mathlib.Omega.{arith}
use mathlib.Core.Path.{◌≡◌, refl, sym, ap, ap₂, subst, ◌∙◌}
use mathlib.Core.Option.{Option, none, some}
use lib.ListN.{length, take}
use Rattle.machine.specs.Names.{Bytes}
use Rattle.machine.specs.State.{State}
use Rattle.machine.specs.Calls.{Call, Buffers, buffers, Reply, Refusal, badRequest, notFound, tableFull, arenaFull, numbersUsedUp, bufferShort, tooMany, code, Outcome, refuse, accept, lent}
use Rattle.machine.specs.Steps.{reply_of, after, act}
use Rattle.call_contract.specs.Made.{Memory, whole_memory, state_in, meant_reply, meant_state}
use Rattle.recording.specs.Entry.{Entry, put, get, head, delete, copy, list, initiate, part, commit, abort, uploads, call_of}
use Rattle.recording.specs.Parse.{entry_of}
use Rattle.recording.proofs.Readers.{by-test}
use Rattle.recording_line.specs.Replayed.{refusal_over, not_a_line}
use Rattle.recording_replay.specs.Replayed.{CallDone, LineDone, LineReplayed}
use Rattle.recording_split.specs.Held.{Holds}
use Rattle.recording_split.proofs.Holding.{no-entry}
use Rattle.recording_run.specs.Results.{zeros, line_result, line_after}
use Rattle.recording_run.specs.Run.{Store, LineRun}

length-zeros : (n : ℕ) → length (zeros n) ≡ n
unfolding zeros
length-zeros zero = refl
length-zeros (suc n) = omega (arith, length-zeros n)

-- of the answer buffers, only the lengths matter to a step
same-act : (A : ℕ) (s : State) (b p c q : Bytes) → length b ≡ length c → length p ≡ length q → (e : Entry) → act A s (call_of b p e) ≡ act A s (call_of c q e)
unfolding act
same-act A s b p c q x y (put t r d ps) = refl
same-act A s b p c q x y (get r) = rw (x, y)
same-act A s b p c q x y (head r) = rw y
same-act A s b p c q x y (delete r) = refl
same-act A s b p c q x y (copy t r z) = refl
same-act A s b p c q x y (list r z) = rw x
same-act A s b p c q x y (initiate t r ps) = refl
same-act A s b p c q x y (part u n d) = refl
same-act A s b p c q x y (commit u ns) = refl
same-act A s b p c q x y (abort u) = refl
same-act A s b p c q x y (uploads r) = rw x

same-result : (b c : Buffers) (o : Outcome) → (reply_of b o).result ≡ (reply_of c o).result
same-result b c (refuse n) = refl
same-result b c (accept a out s) = refl

-- Results have one digit ---------------------------------------------------------------------------------------------------

small-code : (n : Refusal) → code n < 10
small-code badRequest = omega arith
small-code notFound = omega arith
small-code tableFull = omega arith
small-code arenaFull = omega arith
small-code numbersUsedUp = omega arith
small-code bufferShort = omega arith
small-code tooMany = omega arith

small-outcome : (b : Buffers) (o : Outcome) → (reply_of b o).result < 10
small-outcome b (refuse n) = small-code n
small-outcome b (accept a out s) = omega arith

small-meant : (k : Call) (m : Memory) → (meant_reply k m).result < 10
unfolding meant_reply
small-meant k m = by-test (whole_memory m) (λ w. rw w (small-outcome (lent k) (act (length m.arena) (state_in m) k))) (λ w. rw w (omega arith))

pub small-refusal : (m : Memory) (n : ℕ) → n ≡ not_a_line m → n < 10
unfolding refusal_over
small-refusal m n e = by-test (whole_memory m) (λ w. let f : n ≡ 9 = rw w at e in omega arith) (λ w. let f : n ≡ 1 = rw w at e in omega arith)

module _ {b b' : Buffers} {m m' : Memory} {o o' : Bytes} {n : ℕ} where
  small_line : (e : Option Entry) → LineDone e b m o n b' o' m' → n < 10
  small_line none d = small-refusal m n (d.other refl).0
  small_line (some e) d =
      let c = d.form e refl in
      let q = c.result ∙ ap (λ (r : Reply). r.result) c.made.answers in
      subst (λ (k : ℕ). k < 10) (sym q) (small-meant (call_of b.answer b.pairs e) m)

  pub small-replayed : {l : Bytes} → length o ≡ 48 → LineReplayed l b m o n b' o' m' → n < 10
  small-replayed {l} f r = small_line (entry_of l) (r.done f)

-- One line -------------------------------------------------------------------------------------------------------------------

module _ (A size : ℕ) (s : State) (m : Memory) (st : Store A s m) where
  pub refused-run : (n : ℕ) → n ≡ not_a_line m → LineRun A size s none n m
  unfolding refusal_over line_result line_after
  refused-run n e = record { result = e ∙ rw st.is_whole; store = st }

  module _ (b p : Bytes) (x : length b ≡ size) (y : length p ≡ size) {o o' : Bytes} {n : ℕ} {b' : Buffers} {m' : Memory} where
    call-run : (e : Entry) → CallDone (call_of b p e) (buffers b p) m o n b' o' m' → LineRun A size s (some e) n m'
    unfolding line_result line_after meant_reply meant_state
    call-run e c =
        let k : Call = call_of b p e in
        let k₀ : Call = call_of (zeros size) (zeros size) e in
        let z : length b ≡ length (zeros size) = x ∙ sym (length-zeros size) in
        let w : length p ≡ length (zeros size) = y ∙ sym (length-zeros size) in
        let is : act (length m.arena) (state_in m) k ≡ act A s k₀ = ap₂ (λ (i : ℕ) (t : State). act i t k) st.arena st.state ∙ same-act A s b p (zeros size) (zeros size) z w e in
        let r : meant_reply k m ≡ reply_of (lent k) (act (length m.arena) (state_in m) k) = rw st.is_whole in
        let t : meant_state k m ≡ after (state_in m) (act (length m.arena) (state_in m) k) = rw st.is_whole in
        record {
          result =
              c.result ∙ ap (λ (r : Reply). r.result) (c.made.answers ∙ r)
              ∙ ap (λ (o : Outcome). (reply_of (lent k) o).result) is
              ∙ same-result (lent k) (lent k₀) (act A s k₀);
          store = record {
            is_whole = c.made.keeps-whole st.is_whole;
            state = c.made.state ∙ t ∙ ap₂ (λ (i : State) (o : Outcome). after i o) st.state is;
            arena = c.made.arena-length ∙ st.arena;
          };
        }

    line-run : (e : Option Entry) → LineDone e (buffers b p) m o n b' o' m' → LineRun A size s e n m'
    line-run none d = let w = d.other refl in subst (λ (i : Memory). LineRun A size s none n i) (sym w.3) (refused-run n w.0)
    line-run (some e) d = call-run e (d.form e refl)

    -- the line that the splitter holds
    pub held-run : (l line : Bytes) (held : ℕ) → length line ≡ 4096 → held ≤ 4096 → Holds line held l → length o ≡ 48
        → LineReplayed (take held line) (buffers b p) m o n b' o' m' → LineRun A size s (entry_of l) n m'
    held-run l line held long few h f r =
        let q : take held line ≡ l = h.fits (omega arith) in
        subst (λ (i : Bytes). LineRun A size s (entry_of i) n m') q (line-run (entry_of (take held line)) (r.done f))

-- a line that is too long
pub long-run : (A size : ℕ) (s : State) (m : Memory) → Store A s m → (l line : Bytes) (held n : ℕ) → length line ≡ 4096 → 4096 < held → Holds line held l
    → n ≡ not_a_line m → LineRun A size s (entry_of l) n m
long-run A size s m st l line held n long over h e =
    subst (λ (i : Option Entry). LineRun A size s i n m) (sym (no-entry line held l h long over)) (refused-run A size s m st n e)
