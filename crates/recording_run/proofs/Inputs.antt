-- An input in any pieces: what is printed is the results of the whole, each on a line. Assumes nothing.
use Prim.Native.Nat.{ℕ, ◌+◌, ◌≤◌, ◌<◌}
use native.Mathlib.Omega.{arith}
use mathlib.Core.Path.{◌≡◌, refl, sym, ap, subst, ◌∙◌}
use mathlib.Core.List.{List, [], ◌∷◌, ◌++◌, append_assoc, append-nil}
use lib.Dec.{leb}
use lib.ListN.{length, take}
use lib.Seq.{length-take-le}
use borrow.Author.Tests.{leb-true, leb-false}
use Rattle.base_text.specs.Text.{decimal}
use Rattle.machine.specs.Names.{Bytes}
use Rattle.machine.specs.State.{State, fresh}
use Rattle.call_contract.specs.Made.{Memory}
use Rattle.recording.specs.Print.{lines_of}
use Rattle.recording.specs.Parse.{entry_of}
use Rattle.recording.proofs.Readers.{by-test}
use Rattle.recording.proofs.Digits.{decimal-one}
use Rattle.recording_split.specs.Pieces.{finished, begun, ended, over_pieces, joined}
use Rattle.recording_split.specs.Held.{Holds}
use Rattle.recording_split.proofs.Splits.{in_pieces}
use Rattle.recording_run.specs.Results.{line_result, line_after, results_from, state_after, results, printed}
use Rattle.recording_run.specs.Run.{Store, LineRun, PieceRun, InputRun}
use Rattle.recording_run.specs.declared.Fed.{Fed}
use Rattle.recording_run.specs.Pieces.{printed_pieces}

results-append : (A size : ℕ) (s : State) (ls ms : List Bytes) → results_from A size s (ls ++ ms) ≡ results_from A size s ls ++ results_from A size (state_after A size s ls) ms
results-append A size s [] ms = refl
results-append A size s (l ∷ ls) ms = ap (λ (ns : List ℕ). line_result A size s (entry_of l) ∷ ns) (results-append A size (line_after A size s (entry_of l)) ls ms)

printed-append : (ns is : List ℕ) → printed (ns ++ is) ≡ printed ns ++ printed is
unfolding printed
printed-append [] is = refl
printed-append (n ∷ ns) is = ap (λ (l : Bytes). decimal n ++ 10 ∷ l) (printed-append ns is) ∙ sym (append_assoc (decimal n) (10 ∷ printed ns) (printed is))

over-pieces : (A size : ℕ) (s : State) (line : Bytes) (ps : List Bytes) → printed_pieces A size s line ps ≡ printed (results_from A size s (over_pieces line ps))
over-pieces A size s line [] = refl
over-pieces A size s line (p ∷ ps) =
    let f = finished line p in
    ap (λ (l : Bytes). printed (results_from A size s f) ++ l) (over-pieces A size (state_after A size s f) (begun line p) ps)
    ∙ sym (ap printed (results-append A size s f (over_pieces (begun line p) ps)) ∙ printed-append (results_from A size s f) (results_from A size (state_after A size s f) (over_pieces (begun line p) ps)))

-- over a fresh store, with an arena and answer buffers of 65,536 bytes each, whatever the pieces are
pub in-any-pieces : (ps : List Bytes) → printed_pieces 65536 65536 fresh [] ps ≡ printed (results (joined ps))
unfolding results
in-any-pieces ps = over-pieces 65536 65536 fresh [] ps ∙ ap (λ (ls : List Bytes). printed (results_from 65536 65536 fresh ls)) (in_pieces ps)

-- A whole input at once ------------------------------------------------------------------------------------------------------

after-append : (A size : ℕ) (s : State) (ls ms : List Bytes) → state_after A size s (ls ++ ms) ≡ state_after A size (state_after A size s ls) ms
after-append A size s [] ms = refl
after-append A size s (l ∷ ls) ms = after-append A size (line_after A size s (entry_of l)) ls ms

-- the lines that it finishes, and the one that its end finishes
lines-of : (input : Bytes) → lines_of input ≡ finished [] input ++ ended (begun [] input)
lines-of input = sym (in_pieces (input ∷ []) ∙ ap lines_of (append-nil input))

ended_some : (l : Bytes) → (length l ≡ 0 → ⊥) → ended l ≡ l ∷ []
ended_some [] h = absurd (h refl)
ended_some (x ∷ l) h = refl

held-some : (b : Bytes) (n : ℕ) (l : Bytes) → Holds b n l → (n ≡ 0 → ⊥) → n ≤ length b → length l ≡ 0 → ⊥
held-some b n l h some fits e = some (sym (length-take-le n b fits) ∙ ap length (h.fits fits) ∙ e)

long-some : (b : Bytes) (n : ℕ) (l : Bytes) → Holds b n l → length b < n → length l ≡ 0 → ⊥
long-some b n l h long e = omega (arith, h.over long)

begun-some : (b : Bytes) (n : ℕ) (l : Bytes) → Holds b n l → (n ≡ 0 → ⊥) → ended l ≡ l ∷ []
begun-some b n l h some =
    by-test (leb n (length b))
    (λ t. ended_some l (held-some b n l h some (leb-true n (length b) t)))
    (λ t. ended_some l (long-some b n l h (leb-false n (length b) t)))

module _ (A size : ℕ) (s : State) (input : Bytes) (f : Fed) (b out : Bytes) (m : Memory) (run : PieceRun A size s [] input f b out m) where
  -- no line was begun
  pub all_finished : f.held ≡ 0 → InputRun A size s input f.written out m
  all_finished e =
      let none : begun [] input ≡ [] = sym (run.held.fits (omega arith)) ∙ ap (λ (i : ℕ). take i b) e in
      let lines : lines_of input ≡ finished [] input = lines-of input ∙ ap (λ (l : Bytes). finished [] input ++ ended l) none ∙ append-nil (finished [] input) in
      record {
        text = run.text ∙ ap (λ (ls : List Bytes). printed (results_from A size s ls)) (sym lines);
        store = subst (λ (ls : List Bytes). Store A (state_after A size s ls) m) (sym lines) run.store;
      }

  -- the input's end finishes one
  pub one_last : (f.held ≡ 0 → ⊥) → (r : ℕ) (m' : Memory) (out' : Bytes) → LineRun A size (state_after A size s (finished [] input)) (entry_of (begun [] input)) r m' → r < 10
      → take (f.written + 2) out' ≡ take f.written out ++ (48 + r) ∷ 10 ∷ [] → InputRun A size s input (f.written + 2) out' m'
  unfolding printed
  one_last some r m' out' last small wrote =
      let t : State = state_after A size s (finished [] input) in
      let l : Bytes = begun [] input in
      let lines : lines_of input ≡ finished [] input ++ l ∷ [] = lines-of input ∙ ap (λ (ls : List Bytes). finished [] input ++ ls) (begun-some b f.held l run.held some) in
      let digit : (48 + r) ∷ [] ≡ decimal (line_result A size t (entry_of l)) = sym (decimal-one r small) ∙ ap decimal last.result in
      record {
        text =
            wrote ∙ ap (λ (x : Bytes). x ++ (48 + r) ∷ 10 ∷ []) run.text
            ∙ ap (λ (x : Bytes). printed (results_from A size s (finished [] input)) ++ (x ++ 10 ∷ [])) digit
            ∙ sym (printed-append (results_from A size s (finished [] input)) (results_from A size t (l ∷ [])))
            ∙ ap printed (sym (results-append A size s (finished [] input) (l ∷ [])))
            ∙ ap (λ (ls : List Bytes). printed (results_from A size s ls)) (sym lines);
        store = subst (λ (i : State). Store A i m') (sym (ap (state_after A size s) lines ∙ after-append A size s (finished [] input) (l ∷ []))) last.store;
      }
