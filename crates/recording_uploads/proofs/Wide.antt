-- A number too wide for its argument is refused by 2, as by the machine. Assumes nothing.
use Prim.Native.Nat.{ℕ, ◌<◌}
use mathlib.Core.Path.{◌≡◌, refl, sym}
use mathlib.Core.Bool.{true}
use mathlib.Core.List.{List}
use mathlib.Core.Option.{Option, none, some}
use native.Mathlib.Omega.{arith}
use lib.ListN.{length}
use borrow.Author.Tests.{le-leb, lt-leb}
use Rattle.base_number.specs.Number.{AreBytes}
use Rattle.machine.specs.Map.{by_number, lookup}
use Rattle.machine.specs.State.{Upload, State}
use Rattle.machine.specs.Valid.{Valid, UploadOk}
use Rattle.machine.specs.Names.{Bytes, request_part_ok}
use Rattle.machine.specs.Calls.{PART, COMMIT, ABORT, badRequest, no_buffers, ◌else◌then◌}
use Rattle.machine.specs.Steps.{abort_at, act}
use Rattle.machine.proofs.MapLaws.{every-lookup}
use Rattle.base_order.proofs.OrderLaws.{numbers}
use Rattle.mem_layout.proofs.WholeLaws.{whole-stands}
use Rattle.call_contract.specs.Answers.{refused}
use Rattle.call_contract.specs.Made.{memory, whole_memory, state_in, outcome, result_of, Made}
use Rattle.call_contract.proofs.MadeLaws.{not-whole, judged, over-whole}
use Rattle.call_contract.proofs.Judging.{result-missing}
use Rattle.recording.proofs.Readers.{by-test}
use Rattle.recording_line.specs.Replayed.{refusal_over}

-- no upload has such a number
no-upload : (A : ℕ) (s : State) → Valid A s → (u : ℕ) → 4294967295 < u → lookup by_number u s.U ≡ none
no-upload A s v u wide = go (lookup by_number u s.U) refl
  where
    go : (o : Option Upload) → lookup by_number u s.U ≡ o → lookup by_number u s.U ≡ none
    go none e = e
    go (some x) e = let k = every-lookup numbers (UploadOk s.N) u x s.U v.upload e in absurd (omega (arith, k.high, v.last))

pub wide-abort : (t a : List ℕ) → AreBytes t → (u : ℕ) → 4294967295 < u
    → Made (ABORT u) (memory t a) (refused (refusal_over 2 (memory t a)) no_buffers) (memory t a)
unfolding refusal_over outcome act abort_at
wide-abort t a b u wide =
    by-test (whole_memory (memory t a))
    (λ w.
    let v = (whole-stands t a b w).valid in
    rw w (over-whole w (judged 2 (sym (result-missing (lookup by_number u (state_in (memory t a)).U) badRequest _ (no-upload (length a) (state_in (memory t a)) v u wide))) (λ z. omega arith))))
    (λ w. rw w (not-whole w))

pub wide-commit : (t a : List ℕ) → AreBytes t → (u : ℕ) (ns : List ℕ) → 4294967295 < u
    → Made (COMMIT u ns) (memory t a) (refused (refusal_over 2 (memory t a)) no_buffers) (memory t a)
unfolding refusal_over outcome act
wide-commit t a b u ns wide =
    by-test (whole_memory (memory t a))
    (λ w.
    let v = (whole-stands t a b w).valid in
    rw w (over-whole w (judged 2 (sym (result-missing (lookup by_number u (state_in (memory t a)).U) badRequest _ (no-upload (length a) (state_in (memory t a)) v u wide))) (λ z. omega arith))))
    (λ w. rw w (not-whole w))

-- PART with a number of an upload or of a part that is too wide: the checks are two, and both give 2
part-missing : (A : ℕ) (s : State) (u n : ℕ) (d : Bytes) → lookup by_number u s.U ≡ none → 2 ≡ result_of (act A s (PART u n d))
unfolding act ◌else◌then◌
part-missing A s u n d e = by-test (request_part_ok n) (λ r. rw r (sym (result-missing (lookup by_number u s.U) badRequest _ e))) (λ r. rw r)

part-number : (A : ℕ) (s : State) (u n : ℕ) (d : Bytes) → 65535 < n → 2 ≡ result_of (act A s (PART u n d))
unfolding act ◌else◌then◌ request_part_ok
part-number A s u n d wide = rw (le-leb 1 n (omega arith), lt-leb n 10000 (omega arith))

module _ (t a : List ℕ) (b : AreBytes t) (u n : ℕ) (d : Bytes) where
  wide-part : (whole_memory (memory t a) ≡ true → 2 ≡ result_of (act (length a) (state_in (memory t a)) (PART u n d)))
      → Made (PART u n d) (memory t a) (refused (refusal_over 2 (memory t a)) no_buffers) (memory t a)
  unfolding refusal_over outcome
  wide-part h =
      by-test (whole_memory (memory t a))
      (λ w. rw w (over-whole w (judged 2 (h w) (λ z. omega arith))))
      (λ w. rw w (not-whole w))

  pub wide-upload : 4294967295 < u → Made (PART u n d) (memory t a) (refused (refusal_over 2 (memory t a)) no_buffers) (memory t a)
  wide-upload wide =
      wide-part (λ w. part-missing (length a) (state_in (memory t a)) u n d (no-upload (length a) (state_in (memory t a)) (whole-stands t a b w).valid u wide))

  pub wide-number : 65535 < n → Made (PART u n d) (memory t a) (refused (refusal_over 2 (memory t a)) no_buffers) (memory t a)
  wide-number wide = wide-part (λ w. part-number (length a) (state_in (memory t a)) u n d wide)
