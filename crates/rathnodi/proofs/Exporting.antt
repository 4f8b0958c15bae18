-- How a function that C calls meets its contract: by what the call of the store ensures. Assumes nothing.
use Prim.Native.Nat.{ℕ}
use mathlib.Core.Path.{◌≡◌, refl, sym, ap, ◌∙◌}
use mathlib.Core.List.{[]}
use lib.ListN.{length}
use borrow.Author.Tests.{eq-eqb, ne_eqb}
use Rattle.std.specs.Prelude.{Result, Ok, Err}
use Rattle.call_types.specs.declared.Etag.{Etag}
use Rattle.call_types.specs.declared.Metadata.{Metadata}
use Rattle.call_types.specs.declared.UploadNumber.{UploadNumber}
use Rattle.call_types.specs.declared.Counts.{Counts}
use Rattle.call_types.specs.declared.Sweep.{Sweep}
use Rattle.call_types.specs.declared.Refusal.{Refusal}
use Rattle.call_types.specs.Numbers.{result_number}
use Rattle.machine.specs.Names.{Bytes}
use Rattle.machine.specs.Calls.{Call, Buffers, buffers, no_buffers, Reply, lent}
use Rattle.call_contract.specs.Answers.{done_reply, results_reply, get_reply, part_reply, initiate_reply, list_reply, sweep_reply}
use Rattle.call_contract.specs.Made.{Memory, meant_reply, Made}
use Rattle.c_reply.specs.Reply.{reply_over, reply_after}
use Rattle.rathnodi.specs.Exported.{numbered, numbered_with, answer_with, Exported}
use Rattle.c_reply.proofs.Telling.{Telling, meant-over}

-- FRESH answers its number alone
pub number-is : (a : Result (Unit {0}) Refusal) → (done_reply a).result ≡ result_number a
number-is (Ok x) = refl
number-is (Err x) = refl

-- a call that answers its number alone
pub numbered-made : (k : Call) (m m' : Memory) (a : Result (Unit {0}) Refusal) (n : ℕ) → Made k m (done_reply a) m' → n ≡ (done_reply a).result → Made k m (numbered n) m'
numbered-made k m m' (Err x) n made e = rw e made
numbered-made k m m' (Ok x) n made e = rw e made

-- a call that answers its number and fills a result buffer
pub results-made : (k : Call) (m m' : Memory) (a : Result (Unit {0}) Refusal) (n : ℕ) (b : Bytes) → Made k m (results_reply a b) m' → n ≡ (done_reply a).result → Made k m (numbered_with n (buffers b [])) m'
results-made k m m' (Err x) n b made e = rw e made
results-made k m m' (Ok x) n b made e = rw e made

-- a reply slice of another length
pub another-length : (k : Call) (m : Memory) (o : Bytes) → (length o ≡ 48 → ⊥) → Exported k m o 1 (lent k) o m
unfolding answer_with reply_after
another-length k m o h =
    record {
      number = rw (ne_eqb _ _ h);
      buffer = rw (ne_eqb _ _ h);
      reply = rw (ne_eqb _ _ h);
      made = λ e. absurd (h e);
      kept = λ _. refl;
    }

-- a reply slice of 48 bytes
module _ (k : Call) (tells : Telling k) (m m' : Memory) (o o' : Bytes) (n : ℕ) (fits : length o ≡ 48) where
  with-reply : (r : Reply) → Made k m r m' → n ≡ r.result → o' ≡ reply_over r.answer o → Exported k m o n r.buffers o' m'
  unfolding answer_with
  with-reply r made n-is o_is =
      let is : answer_with k m o ≡ meant_reply k m = rw (eq-eqb _ _ fits) in
      let same : r ≡ answer_with k m o = made.answers ∙ sym is in
      record {
        number = n-is ∙ ap (λ (x : Reply). x.result) same;
        buffer = ap (λ (x : Reply). x.buffers) same;
        reply = o_is ∙ ap (λ (x : Reply). reply_over x.answer o) made.answers ∙ meant-over k tells m o ∙ ap (λ (x : Reply). reply_after x o) (sym is);
        made = λ _. rw made.answers at made;
        kept = λ h. absurd (h fits);
      }

  pub got : (a : Result Metadata Refusal) (b : Buffers) → Made k m (get_reply a b) m' → n ≡ (get_reply a no_buffers).result → o' ≡ reply_over (get_reply a no_buffers).answer o → Exported k m o n b o' m'
  got (Err x) b made n-is o_is = with-reply _ made n-is o_is
  got (Ok x) b made n-is o_is = with-reply _ made n-is o_is

  pub listed : (a : Result Counts Refusal) (b : Bytes) → Made k m (list_reply a b) m' → n ≡ (list_reply a []).result → o' ≡ reply_over (list_reply a []).answer o → Exported k m o n (buffers b []) o' m'
  listed (Err x) b made n-is o_is = with-reply _ made n-is o_is
  listed (Ok x) b made n-is o_is = with-reply _ made n-is o_is

  pub initiated : (a : Result UploadNumber Refusal) → Made k m (initiate_reply a) m' → n ≡ (initiate_reply a).result → o' ≡ reply_over (initiate_reply a).answer o → Exported k m o n no_buffers o' m'
  initiated (Err x) made n-is o_is = with-reply _ made n-is o_is
  initiated (Ok x) made n-is o_is = with-reply _ made n-is o_is

  pub part-stored : (a : Result Etag Refusal) → Made k m (part_reply a) m' → n ≡ (part_reply a).result → o' ≡ reply_over (part_reply a).answer o → Exported k m o n no_buffers o' m'
  part-stored (Err x) made n-is o_is = with-reply _ made n-is o_is
  part-stored (Ok x) made n-is o_is = with-reply _ made n-is o_is

  pub swept-out : (a : Result Sweep Refusal) → Made k m (sweep_reply a) m' → n ≡ (sweep_reply a).result → o' ≡ reply_over (sweep_reply a).answer o → Exported k m o n no_buffers o' m'
  swept-out (Err x) made n-is o_is = with-reply _ made n-is o_is
  swept-out (Ok x) made n-is o_is = with-reply _ made n-is o_is
