-- A line by its verb. Assumes nothing.
use Prim.Native.Nat.{ℕ, ◌≤◌, ◌<◌}
use mathlib.Core.Path.{◌≡◌, refl, sym, ap, ap₂, subst, ◌∙◌}
use mathlib.Core.List.{[], ◌++◌, append-nil}
use mathlib.Core.Option.{Option, none}
use native.Mathlib.Omega.{arith}
use lib.ListN.{length, drop_of_length-le}
use borrow.Author.Tests.{le-leb, lt-leb}
use Rattle.machine.specs.Names.{Bytes}
use Rattle.machine.specs.Calls.{Reply, Answer, Buffers, buffers, no_buffers}
use Rattle.machine.specs.Steps.{over, written}
use Rattle.std.specs.Prelude.{Result, Ok, Err}
use Rattle.call_types.specs.declared.Refusal.{Refusal}
use Rattle.call_types.specs.declared.Metadata.{Metadata}
use Rattle.call_types.specs.declared.Etag.{Etag}
use Rattle.call_types.specs.declared.UploadNumber.{UploadNumber}
use Rattle.call_types.specs.declared.Counts.{Counts}
use Rattle.call_contract.specs.Answers.{refused, done_reply, get_reply, list_reply, initiate_reply, part_reply}
use Rattle.call_contract.specs.Made.{Memory, whole_memory}
use Rattle.c_reply.specs.Reply.{reply_over, reply_after}
use Rattle.c_reply.proofs.Telling.{meant-over}
use Rattle.recording.specs.Entry.{Entry, call_of}
use Rattle.recording.specs.Parse.{verbs, verb_index, by_index, parse, entry_of, whole}
use Rattle.recording.proofs.Readers.{by-test}
use Rattle.recording.proofs.Wholes.{parse-at}
use Rattle.recording_line.specs.Replayed.{refusal_over, not_a_line, Replayed, ReplayedAlone}
use Rattle.recording_replay.specs.Replayed.{LineDone, LineReplayed}
use Rattle.recording_replay.proofs.Tells.{LinesTell}

-- the entry of a line that is not too long
module _ (l : Bytes) where
  pub entry-long : 4096 < length l → entry_of l ≡ none
  unfolding entry_of
  entry-long h = rw (lt-leb (length l) 4096 h)

  entry-parsed : length l ≤ 4096 → entry_of l ≡ parse l
  unfolding entry_of
  entry-parsed h = rw (le-leb (length l) 4096 h)

  pub no-verb : 11 ≡ verb_index verbs l → parse l ≡ none
  no-verb e = parse-at l 11 e

  -- what was replayed after the verb was replayed for the line
  module _ {b b' : Buffers} {m m' : Memory} {n : ℕ} {o o' : Bytes} where
    pub line-by-verb : (i : ℕ) → i ≡ verb_index verbs l → LineDone (whole (by_index verbs i l)) b m o n b' o' m' → LineDone (parse l) b m o n b' o' m'
    line-by-verb i e h = subst (λ (x : Option Entry). LineDone x b m o n b' o' m') (sym (parse-at l i e)) h

    pub line-entry : length l ≤ 4096 → length o ≡ 48 → LineDone (parse l) b m o n b' o' m' → LineReplayed l b m o n b' o' m'
    line-entry s f h = record {
      done = λ _. subst (λ (x : Option Entry). LineDone x b m o n b' o' m') (sym (entry-parsed s)) h;
      another = λ k. absurd (k f);
    }

-- The buffers ----------------------------------------------------------------------------------------------------------------

over-all : (b' b : Bytes) → length b' ≡ length b → b' ≡ over b' b
over-all b' b e =
    let h : length b ≤ length b' = omega arith in
    sym (ap (λ (l : Bytes). b' ++ l) (drop_of_length-le b h) ∙ append-nil b')

get-buffers : (a : Result Metadata Refusal) (x : Buffers) → (get_reply a x).buffers ≡ x
get-buffers (Err n) x = refl
get-buffers (Ok m) x = refl

get-result : (a : Result Metadata Refusal) (x y : Buffers) → (get_reply a x).result ≡ (get_reply a y).result
get-result (Err n) x y = refl
get-result (Ok m) x y = refl

get-answer : (a : Result Metadata Refusal) (x y : Buffers) → (get_reply a x).answer ≡ (get_reply a y).answer
get-answer (Err n) x y = refl
get-answer (Ok m) x y = refl

list-buffers : (a : Result Counts Refusal) (b : Bytes) → (list_reply a b).buffers ≡ buffers b []
list-buffers (Err n) b = refl
list-buffers (Ok k) b = refl

list-result : (a : Result Counts Refusal) (b c : Bytes) → (list_reply a b).result ≡ (list_reply a c).result
list-result (Err n) b c = refl
list-result (Ok k) b c = refl

list-answer : (a : Result Counts Refusal) (b c : Bytes) → (list_reply a b).answer ≡ (list_reply a c).answer
list-answer (Err n) b c = refl
list-answer (Ok k) b c = refl

done-buffers : (a : Result (Unit {0}) Refusal) → (done_reply a).buffers ≡ no_buffers
done-buffers (Err n) = refl
done-buffers (Ok u) = refl

initiate-buffers : (a : Result UploadNumber Refusal) → (initiate_reply a).buffers ≡ no_buffers
initiate-buffers (Err n) = refl
initiate-buffers (Ok u) = refl

part-buffers : (a : Result Etag Refusal) → (part_reply a).buffers ≡ no_buffers
part-buffers (Err n) = refl
part-buffers (Ok e) = refl

-- Lines ----------------------------------------------------------------------------------------------------------------------

pub line-none : {x : Option Entry} {m : Memory} (b : Buffers) (o : Bytes) (n : ℕ) → x ≡ none → n ≡ not_a_line m → LineDone x b m o n b o m
line-none b o n e h = record {
  form = λ y q. let z : ◌≡◌ {A = ℕ} 0 1 = cc in absurd (omega arith);
  other = λ q. (h, refl, refl, refl);
}

pub too_long : {l : Bytes} {m : Memory} (b : Buffers) (o : Bytes) (n : ℕ) → 4096 < length l → length o ≡ 48 → n ≡ not_a_line m → LineReplayed l b m o n b o m
too_long {l} b o n s f h = record { done = λ _. line-none b o n (entry-long l s) h; another = λ k. absurd (k f) }

pub another-length : {l : Bytes} {m : Memory} (b : Buffers) (o : Bytes) → (length o ≡ 48 → ⊥) → LineReplayed l b m o 1 b o m
another-length b o h = record { done = λ f. absurd (h f); another = λ _. (refl, refl, refl, refl) }

-- a refusal's reply is as it was
refusal-kept : (m : Memory) (b : Buffers) (o : Bytes) → reply_after (refused (not_a_line m) b) o ≡ o
unfolding reply_after refusal_over
refusal-kept m b o = by-test (whole_memory m) (λ w. rw w) (λ w. rw w)

-- the line's call tells r in its reply, and r's buffers are those that it wrote
module _ {x : Option Entry} {m m' : Memory} (b p b' p' o o' : Bytes) (n : ℕ) (tells : LinesTell x b p) (lent : Buffers) (r : Reply) (n-is : n ≡ r.result) (o_is : o' ≡ reply_over r.answer o)
    (wrote : buffers b' p' ≡ written r.buffers (buffers b p)) (kept : r.buffers ≡ lent → buffers b' p' ≡ buffers b p) (done : Replayed x b p lent m r m') where
  telling-line : LineDone x (buffers b p) m o n (buffers b' p') o' m'
  unfolding LinesTell
  telling-line = record {
    form = λ e q. record {
      reply = r;
      made = done.form e q;
      result = n-is;
      held = wrote;
      told =
          let k = (done.form e q).answers in
          o_is ∙ ap (λ (y : Reply). reply_over y.answer o) k ∙ meant-over (call_of b p e) (tells e q) m o ∙ ap (λ (y : Reply). reply_after y o) (sym k);
    };
    other = λ q. let w = done.other q in (
      n-is ∙ ap (λ (y : Reply). y.result) w.0,
      kept (ap (λ (y : Reply). y.buffers) w.0),
      o_is ∙ ap (λ (y : Reply). reply_over y.answer o) w.0,
      w.1,
    );
  }

module _ {x : Option Entry} {m m' : Memory} (b p o o' : Bytes) (n : ℕ) where
  pub line-done : (a : Result (Unit {0}) Refusal) → n ≡ (done_reply a).result → o' ≡ reply_after (done_reply a) o → ReplayedAlone x m (done_reply a) m' → LineDone x (buffers b p) m o n (buffers b p) o' m'
  line-done a n-is o_is r = record {
    form = λ e q. record {
      reply = done_reply a;
      made = (r b p).form e q;
      result = n-is;
      held = ap (λ (z : Buffers). written z (buffers b p)) (sym (done-buffers a));
      told = o_is;
    };
    other = λ q. let w = (r b p).other q in (
      n-is ∙ ap (λ (y : Reply). y.result) w.0,
      refl,
      o_is ∙ ap (λ (y : Reply). reply_after y o) w.0 ∙ refusal-kept m no_buffers o,
      w.1,
    );
  }

  module _ (tells : LinesTell x b p) where
    -- a verb without buffers
    alone : (r : Reply) → r.buffers ≡ no_buffers → n ≡ r.result → o' ≡ reply_over r.answer o → ReplayedAlone x m r m' → LineDone x (buffers b p) m o n (buffers b p) o' m'
    alone r own n-is o_is d = telling-line b p b p o o' n tells no_buffers r n-is o_is (ap (λ (z : Buffers). written z (buffers b p)) (sym own)) (λ _. refl) (d b p)

    pub line-opened : (a : Result UploadNumber Refusal) → n ≡ (initiate_reply a).result → o' ≡ reply_over (initiate_reply a).answer o → ReplayedAlone x m (initiate_reply a) m' → LineDone x (buffers b p) m o n (buffers b p) o' m'
    line-opened a n-is o_is d = alone (initiate_reply a) (initiate-buffers a) n-is o_is d

    pub line-stored : (a : Result Etag Refusal) → n ≡ (part_reply a).result → o' ≡ reply_over (part_reply a).answer o → ReplayedAlone x m (part_reply a) m' → LineDone x (buffers b p) m o n (buffers b p) o' m'
    line-stored a n-is o_is d = alone (part_reply a) (part-buffers a) n-is o_is d

    pub line-got : (a : Result Metadata Refusal) (b' p' : Bytes) → n ≡ (get_reply a no_buffers).result → o' ≡ reply_over (get_reply a no_buffers).answer o → length b' ≡ length b → length p' ≡ length p
        → Replayed x b p (buffers b p) m (get_reply a (buffers b' p')) m' → LineDone x (buffers b p) m o n (buffers b' p') o' m'
    line-got a b' p' n-is o_is s t d =
        telling-line b p b' p' o o' n tells (buffers b p) (get_reply a (buffers b' p')) (n-is ∙ get-result a no_buffers (buffers b' p')) (o_is ∙ ap (λ (y : Answer). reply_over y o) (get-answer a no_buffers (buffers b' p')))
        (ap₂ (λ (i j : Bytes). buffers i j) (over-all b' b s) (over-all p' p t) ∙ ap (λ (z : Buffers). written z (buffers b p)) (sym (get-buffers a (buffers b' p'))))
        (λ e. sym (get-buffers a (buffers b' p')) ∙ e)
        d

    pub line-head : (a : Result Metadata Refusal) (p' : Bytes) → n ≡ (get_reply a no_buffers).result → o' ≡ reply_over (get_reply a no_buffers).answer o → length p' ≡ length p
        → Replayed x b p (buffers [] p) m (get_reply a (buffers [] p')) m' → LineDone x (buffers b p) m o n (buffers b p') o' m'
    line-head a p' n-is o_is t d =
        telling-line b p b p' o o' n tells (buffers [] p) (get_reply a (buffers [] p')) (n-is ∙ get-result a no_buffers (buffers [] p')) (o_is ∙ ap (λ (y : Answer). reply_over y o) (get-answer a no_buffers (buffers [] p')))
        (ap (λ (j : Bytes). buffers b j) (over-all p' p t) ∙ ap (λ (z : Buffers). written z (buffers b p)) (sym (get-buffers a (buffers [] p'))))
        (λ e. ap (λ (z : Buffers). buffers b z.pairs) (sym (get-buffers a (buffers [] p')) ∙ e))
        d

    pub line-listed : (a : Result Counts Refusal) (b' : Bytes) → n ≡ (list_reply a []).result → o' ≡ reply_over (list_reply a []).answer o → length b' ≡ length b
        → Replayed x b p (buffers b []) m (list_reply a b') m' → LineDone x (buffers b p) m o n (buffers b' p) o' m'
    line-listed a b' n-is o_is s d =
        telling-line b p b' p o o' n tells (buffers b []) (list_reply a b') (n-is ∙ list-result a [] b') (o_is ∙ ap (λ (y : Answer). reply_over y o) (list-answer a [] b'))
        (ap (λ (i : Bytes). buffers i p) (over-all b' b s) ∙ ap (λ (z : Buffers). written z (buffers b p)) (sym (list-buffers a b')))
        (λ e. ap (λ (z : Buffers). buffers z.answer p) (sym (list-buffers a b') ∙ e))
        d
