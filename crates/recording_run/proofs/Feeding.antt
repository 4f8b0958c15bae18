-- A piece, line by line: what was printed, with what is still to come, is all. Assumes nothing.
use Prim.Native.Nat.{ℕ, suc, ◌+◌, ◌≤◌, ◌<◌}
use native.Mathlib.Numerals.{add-one}
use native.Mathlib.Omega.{arith}
use mathlib.Core.Path.{◌≡◌, refl, sym, ap, subst, ◌∙◌}
use mathlib.Core.List.{List, [], ◌∷◌, ◌++◌, append_assoc, append-nil}
use lib.ListN.{length, take, drop, set, length-set, drop_of_length-le}
use lib.Seq.{take-suc-set}
use Rattle.base_text.specs.Text.{decimal}
use Rattle.machine.specs.Names.{Bytes}
use Rattle.machine.specs.State.{State}
use Rattle.call_contract.specs.Made.{Memory}
use Rattle.recording.specs.Parse.{entry_of}
use Rattle.recording.proofs.Digits.{decimal-one}
use Rattle.recording_split.specs.Held.{Holds, Finished, Unfinished}
use Rattle.recording_split.specs.Pieces.{finished, begun}
use Rattle.recording_split.proofs.Holding.{nothing-held}
use Rattle.recording_run.specs.Results.{line_result, line_after, results_from, state_after, printed}
use Rattle.recording_run.specs.Run.{Store, LineRun, PieceRun}
use Rattle.recording_run.specs.declared.Fed.{Fed}

-- two bytes stored after the first k
pub two-stored : (out : Bytes) (k x y : ℕ) → k + 2 ≤ length out → take (k + 2) (set (set out k x) (k + 1) y) ≡ take k out ++ x ∷ y ∷ []
two-stored out k x y h =
    let e : k + 2 ≡ suc (k + 1) = omega arith in
    ap (λ (i : ℕ). take i (set (set out k x) (k + 1) y)) e
    ∙ take-suc-set (set out k x) (k + 1) y (omega (arith, length-set out k x))
    ∙ ap (λ (l : Bytes). l ++ y ∷ []) (ap (λ (i : ℕ). take i (set out k x)) (add-one k) ∙ take-suc-set out k x (omega arith))
    ∙ append_assoc (take k out) (x ∷ []) (y ∷ [])

module _ (A size : ℕ) (s : State) (line piece : Bytes) where
  -- the bytes before `at` were fed: `now` is begun, and memory stands for `state`
  pub record SoFar (at k : ℕ) (b : Bytes) (n : ℕ) (out : Bytes) (m : Memory) : Type 0 where
    pub now : Bytes
    pub state : State
    pub held : Holds b n now
    pub store : Store A state m
    pub text : printed (results_from A size s (finished line piece)) ≡ take k out ++ printed (results_from A size state (finished now (drop at piece)))
    pub after : state_after A size s (finished line piece) ≡ state_after A size state (finished now (drop at piece))
    pub left : begun line piece ≡ begun now (drop at piece)

  pub start : (b : Bytes) (n : ℕ) (out : Bytes) (m : Memory) → Holds b n line → Store A s m → SoFar 0 0 b n out m
  start b n out m h st = record { now = line; state = s; held = h; store = st; text = refl; after = refl; left = refl }

  module _ (at k : ℕ) (b : Bytes) (n : ℕ) (out : Bytes) (m : Memory) (so : SoFar at k b n out m) where
    -- one line more
    pub one_line : (b' : Bytes) (full next : ℕ) (f : Finished so.now (drop at piece) b' full (drop next piece)) (r : ℕ) (m' : Memory) (out' : Bytes)
        → LineRun A size so.state (entry_of f.whole) r m' → r < 10
        → take (k + 2) out' ≡ take k out ++ (48 + r) ∷ 10 ∷ [] → SoFar next (k + 2) b' 0 out' m'
    unfolding printed
    one_line b' full next f r m' out' run small wrote =
        let t : State = line_after A size so.state (entry_of f.whole) in
        let tail : Bytes = printed (results_from A size t (finished [] (drop next piece))) in
        let digit : decimal (line_result A size so.state (entry_of f.whole)) ≡ (48 + r) ∷ [] = ap decimal (sym run.result) ∙ decimal-one r small in
        record {
          now = [];
          state = t;
          held = nothing-held b';
          store = run.store;
          text =
              so.text ∙ ap (λ (ls : List Bytes). take k out ++ printed (results_from A size so.state ls)) f.lines
              ∙ ap (λ (d : Bytes). take k out ++ (d ++ 10 ∷ tail)) digit
              ∙ sym (append_assoc (take k out) ((48 + r) ∷ 10 ∷ []) tail)
              ∙ ap (λ (d : Bytes). d ++ tail) (sym wrote);
          after = so.after ∙ ap (state_after A size so.state) f.lines;
          left = so.left ∙ f.after;
        }

    -- the piece has ended amid a line
    pub amid : (b' : Bytes) (rest : ℕ) → Unfinished so.now (drop at piece) b' rest → (f : Fed) → f.held ≡ rest → f.written ≡ k → PieceRun A size s line piece f b' out m
    unfolding printed
    amid b' rest u f h w = record {
      text =
          ap (λ (i : ℕ). take i out) w
          ∙ sym (so.text ∙ ap (λ (ls : List Bytes). take k out ++ printed (results_from A size so.state ls)) u.lines ∙ append-nil (take k out));
      held = subst (λ (i : ℕ). Holds b' i (begun line piece)) (sym h) (subst (Holds b' rest) (sym so.left) u.held);
      store = subst (λ (t : State). Store A t m) (sym (so.after ∙ ap (state_after A size so.state) u.lines)) so.store;
    }

    -- no byte is left
    pub at-end : length piece ≤ at → (f : Fed) → f.held ≡ n → f.written ≡ k → PieceRun A size s line piece f b out m
    unfolding finished begun
    at-end e f h w =
        let z : drop at piece ≡ [] = drop_of_length-le piece e in
        amid b n (record {
          held = subst (Holds b n) (sym (ap (begun so.now) z)) so.held;
          lines = ap (finished so.now) z;
        }) f h w
