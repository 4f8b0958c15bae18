-- How a call meets its contract: memory is not whole, or it is, and the call is refused or done. Assumes nothing.
use Prim.Native.Nat.{ℕ}
use mathlib.Core.Path.{◌≡◌, refl, sym, ap, ◌∙◌}
use mathlib.Core.Bool.{true, false}
use native.Mathlib.Omega.{arith}
use lib.ListN.{length}
use Rattle.machine.specs.State.{State}
use Rattle.machine.specs.Calls.{Call, Buffers, Reply, Answer, Outcome, refuse, accept, lent}
use Rattle.machine.specs.Steps.{reply_of, after}
use Rattle.mem_layout.specs.Memory.{Stands}
use Rattle.mem_layout.proofs.StandsLaws.{stands-state, stands-whole}
use Rattle.call_types.specs.declared.Refusal.{Refusal}
use Rattle.call_types.specs.declared.Refusal.TheVariants.{NotAStore, BadRequest, NotFound, TableFull, ArenaFull, NumbersUsedUp, BufferShort, TooMany, NotALine}
use Rattle.call_types.specs.Numbers.{number_of, result_number}
use Rattle.std.specs.Prelude.{Result, Ok, Err}
use Rattle.call_contract.specs.Answers.{refused}
use Rattle.call_contract.specs.Made.{Memory, whole_memory, state_in, outcome, result_of, meant_reply, meant_state, Made, MadeWhole}
use Rattle.machine.proofs.Outcome.{code-not-zero}

pub one_not_zero : ◌≡◌ {A = ℕ} 1 0 → ⊥
one_not_zero e = omega arith

-- "Success is 0.": a refusal has another number
pub refusal-not-zero : (r : Refusal) → number_of r ≡ 0 → ⊥
refusal-not-zero NotAStore e = omega arith
refusal-not-zero BadRequest e = omega arith
refusal-not-zero NotFound e = omega arith
refusal-not-zero TableFull e = omega arith
refusal-not-zero ArenaFull e = omega arith
refusal-not-zero NumbersUsedUp e = omega arith
refusal-not-zero BufferShort e = omega arith
refusal-not-zero TooMany e = omega arith
refusal-not-zero NotALine e = omega arith

-- refusal 1: memory that is not whole
pub not-whole : {k : Call} {m : Memory} → whole_memory m ≡ false → Made k m (refused 1 (lent k)) m
unfolding meant_reply meant_state
not-whole w =
    record {
      answers = rw w;
      state = rw w;
      keeps-whole = λ h. h;
      bytes = λ z. absurd (one_not_zero z);
      tables-length = refl;
      arena-length = refl;
      refusal = λ _. refl;
    }

-- what a judge answers: the number of the machine's result
pub judged_err : {A : Type 0} {n : ℕ} {r : Result A Refusal} (x : Refusal) → result_number r ≡ n → r ≡ Err x → number_of x ≡ n
judged_err x e q = sym (ap result_number q) ∙ e

pub judged_ok : {A : Type 0} {n : ℕ} {r : Result A Refusal} (x : A) → result_number r ≡ n → r ≡ Ok x → n ≡ 0
judged_ok x e q = sym e ∙ ap result_number q

-- Over whole memory ----------------------------------------------------------------------------------------------------

module _ {k : Call} {m : Memory} where
  -- refused, by the number that was judged
  pub judged : (n : ℕ) → n ≡ result_of (outcome k m) → (n ≡ 0 → ⊥) → MadeWhole k m (refused n (lent k)) m
  judged n e not = go (outcome k m) refl e
    where
      go : (o : Outcome) → outcome k m ≡ o → n ≡ result_of o → MadeWhole k m (refused n (lent k)) m
      go (accept a out s) is h = absurd (not h)
      go (refuse x) is h =
          record {
            answers = ap (λ (i : ℕ). refused i (lent k)) h ∙ sym (rw is);
            bytes = λ z. absurd (not z);
            tables-length = refl;
            arena-length = refl;
            refusal = λ _. refl;
          }

  -- the same of a judge's refusal
  pub judged-refused : (x : Refusal) → number_of x ≡ result_of (outcome k m) → MadeWhole k m (refused (number_of x) (lent k)) m
  judged-refused x e = judged (number_of x) e (refusal-not-zero x)

  module _ {m' : Memory} {r : Reply} where
    -- accepted: its reply and the memory that it leaves
    pub done : (a : Answer) (out : Buffers) (s : State) → outcome k m ≡ accept a out s → r ≡ reply_of (lent k) (accept a out s) → Stands m'.tables m'.arena s
        → length m'.tables ≡ length m.tables → length m'.arena ≡ length m.arena → MadeWhole k m r m'
    done a out s is e h lt la =
        record {
          answers = e ∙ sym (rw is);
          bytes = λ _. rw is h;
          tables-length = lt;
          arena-length = la;
          refusal = λ not. absurd (not (ap (λ (x : Reply). x.result) e));
        }

    module _ (w : whole_memory m ≡ true) (d : MadeWhole k m r m') where
      -- what it leaves is whole, and stands for the machine's next state
      pub leaves : (state_in m' ≡ after (state_in m) (outcome k m)) × (whole_memory m' ≡ true)
      leaves = go (outcome k m) refl
        where
          go : (o : Outcome) → outcome k m ≡ o → (state_in m' ≡ after (state_in m) (outcome k m)) × (whole_memory m' ≡ true)
          go (accept a out s) is =
              let h = d.bytes (ap (λ (x : Reply). x.result) (d.answers ∙ ap (reply_of (lent k)) is)) in
              (stands-state m'.tables m'.arena _ h, stands-whole m'.tables m'.arena _ h)
          go (refuse n) is =
              let same = d.refusal (λ z. code-not-zero n (sym (ap (λ (x : Reply). x.result) (d.answers ∙ ap (reply_of (lent k)) is)) ∙ z)) in
              (ap state_in same ∙ sym (ap (after (state_in m)) is), ap whole_memory same ∙ w)

      -- refused too, it stands for that state where the memory before stood for its own
      pub stands_after : Stands m.tables m.arena (state_in m) → Stands m'.tables m'.arena (after (state_in m) (outcome k m))
      stands_after h = go (outcome k m) refl
        where
          go : (o : Outcome) → outcome k m ≡ o → Stands m'.tables m'.arena (after (state_in m) (outcome k m))
          go (accept a out s) is = d.bytes (ap (λ (x : Reply). x.result) (d.answers ∙ ap (reply_of (lent k)) is))
          go (refuse n) is =
              let same = d.refusal (λ z. code-not-zero n (sym (ap (λ (x : Reply). x.result) (d.answers ∙ ap (reply_of (lent k)) is)) ∙ z)) in
              rw (is, same) h

      -- the contract, once the test "whole" was passed
      pub over-whole : Made k m r m'
      unfolding meant_reply meant_state outcome
      over-whole =
          let next-is : meant_state k m ≡ after (state_in m) (outcome k m) = rw w in
          record {
            answers = d.answers ∙ sym (rw w);
            state = leaves.0 ∙ sym next-is;
            keeps-whole = λ _. leaves.1;
            bytes = λ z. rw next-is (d.bytes z);
            tables-length = d.tables-length;
            arena-length = d.arena-length;
            refusal = d.refusal;
          }
