-- What is held, byte by byte. Assumes nothing.
use Prim.Native.Nat.{ℕ, ◌+◌, ◌≤◌, ◌<◌}
use mathlib.Core.Path.{◌≡◌, refl, sym, ap, subst, ◌∙◌}
use mathlib.Core.List.{[], ◌∷◌, ◌++◌}
use mathlib.Core.Option.{none}
use native.Mathlib.Numerals.{add-one}
use native.Mathlib.Omega.{arith}
use lib.ListN.{length, take, drop, get_or, set, length-append, length-set, drop_of_length-le}
use lib.Seq.{take-suc-set, length-take-le, drop-cons}
use borrow.Author.Tests.{eq-eqb, ne_eqb, le-leb, lt-leb}
use Rattle.machine.specs.Names.{Bytes}
use Rattle.recording.specs.Parse.{parse, entry_of}
use Rattle.recording_split.specs.Pieces.{finished, begun}
use Rattle.recording_split.specs.Held.{Holds, Finished, Unfinished}

pub nothing-held : (b : Bytes) → Holds b 0 []
nothing-held b = record { fits = λ h. refl; over = λ h. absurd (omega arith) }

-- One more byte ----------------------------------------------------------------------------------------------------------

module _ (b : Bytes) (n : ℕ) (line : Bytes) (x : ℕ) (h : Holds b n line) where
  pub still-over : length b < n → Holds b n (line ++ x ∷ [])
  still-over o = record { fits = λ f. absurd (omega arith); over = λ f. omega (arith, length-append line (x ∷ []), h.over o) }

  pub now-over : length b ≡ n → Holds b (n + 1) (line ++ x ∷ [])
  now-over e = record {
    fits = λ f. absurd (omega arith);
    over = λ f. omega (arith, length-append line (x ∷ []), ap length (h.fits (omega arith)), length-take-le n b (omega arith));
  }

  pub stored : n < length b → Holds (set b n x) (n + 1) (line ++ x ∷ [])
  stored s = record {
    fits = λ f. ap (λ (k : ℕ). take k (set b n x)) (add-one n) ∙ take-suc-set b n x s ∙ ap (λ (l : Bytes). l ++ x ∷ []) (h.fits (omega arith));
    over = λ f. absurd (omega (arith, length-set b n x));
  }

-- Up to the end of a line --------------------------------------------------------------------------------------------------

-- `line` stood before the bytes from `at` on, and `now` before those from i on
pub record SoFar (s : Bytes) (at i : ℕ) (line b : Bytes) (n : ℕ) : Type 0 where
  pub now : Bytes
  pub held : Holds b n now
  pub lines : finished line (drop at s) ≡ finished now (drop i s)
  pub after : begun line (drop at s) ≡ begun now (drop i s)

pub start : (s : Bytes) (at : ℕ) (line b : Bytes) (n : ℕ) → Holds b n line → SoFar s at at line b n
start s at line b n h = record { now = line; held = h; lines = refl; after = refl }

module _ (s : Bytes) (at i : ℕ) (line b : Bytes) (n : ℕ) (so : SoFar s at i line b n) where
  pub no_more : length s ≤ i → Unfinished line (drop at s) b n
  unfolding finished begun
  no_more h =
      let e : drop i s ≡ [] = drop_of_length-le s h in
      record {
        held = subst (Holds b n) (sym (so.after ∙ ap (begun so.now) e)) so.held;
        lines = so.lines ∙ ap (finished so.now) e;
      }

  module _ (h : i < length s) where
    here : drop i s ≡ get_or s i 0 ∷ drop (i + 1) s
    here = drop-cons s i 0 h ∙ ap (λ (k : ℕ). get_or s i 0 ∷ drop k s) (sym (add-one i))

    pub a-line : get_or s i 0 ≡ 10 → Finished line (drop at s) b n (drop (i + 1) s)
    unfolding finished begun
    a-line e = record {
      whole = so.now;
      held = so.held;
      lines = so.lines ∙ ap (finished so.now) here ∙ rw (eq-eqb (get_or s i 0) 10 e);
      after = so.after ∙ ap (begun so.now) here ∙ rw (eq-eqb (get_or s i 0) 10 e);
    }

    pub one_more : (get_or s i 0 ≡ 10 → ⊥) → (b' : Bytes) (n' : ℕ) → ((l : Bytes) → Holds b n l → Holds b' n' (l ++ get_or s i 0 ∷ [])) → SoFar s at (i + 1) line b' n'
    unfolding finished begun
    one_more e b' n' k = record {
      now = so.now ++ get_or s i 0 ∷ [];
      held = k so.now so.held;
      lines = so.lines ∙ ap (finished so.now) here ∙ rw (ne_eqb (get_or s i 0) 10 e);
      after = so.after ∙ ap (begun so.now) here ∙ rw (ne_eqb (get_or s i 0) 10 e);
    }

-- The entry of the line that is held -------------------------------------------------------------------------------------------

module _ (b : Bytes) (n : ℕ) (line : Bytes) (h : Holds b n line) (size : length b ≡ 4096) where
  pub held-entry : n ≤ 4096 → entry_of line ≡ parse (take n b)
  unfolding entry_of
  held-entry f =
      let e : take n b ≡ line = h.fits (omega arith) in
      let l : length line ≤ 4096 = omega (arith, ap length e, length-take-le n b (omega arith)) in
      rw (le-leb (length line) 4096 l) (ap parse (sym e))

  pub no-entry : 4096 < n → entry_of line ≡ none
  unfolding entry_of
  no-entry f = let l : 4096 < length line = omega (arith, h.over (omega arith)) in rw (lt-leb (length line) 4096 l)
