-- What stands at a place of a line. Assumes nothing.
use Prim.Native.Nat.{ℕ, ◌+◌, ◌-◌, ◌≤◌, ◌<◌}
use mathlib.Core.Bool.{false}
use Rattle.recording.specs.Parse.{ends_line}
use mathlib.Core.Path.{◌≡◌, sym, ap, ◌∙◌}
use mathlib.Core.List.{[], ◌∷◌}
use native.Mathlib.Numerals.{add-one}
use native.Mathlib.Omega.{arith}
use lib.Dec.{eqb, ltb}
use lib.ListN.{length, drop, get_or, drop_of_length-le}
use lib.Seq.{drop-cons}
use borrow.Author.Tests.{eq-eqb, ne_eqb, ltb-true, ltb-false}
use Rattle.machine.specs.Names.{Bytes}
use Rattle.recording.specs.Read.{Read, got, no, Reader, and_then, both, past}
use Rattle.recording.proofs.Readers.{by-test}

module _ (s : Bytes) (i : ℕ) where
  pub at_place : i < length s → drop i s ≡ get_or s i 0 ∷ drop (i + 1) s
  at_place h = drop-cons s i 0 h ∙ ap (λ (k : ℕ). get_or s i 0 ∷ drop k s) (sym (add-one i))

  pub at-end : length s ≤ i → drop i s ≡ []
  at-end h = drop_of_length-le s h

-- either way
pub within_or_not : {B : Type 0} (s : Bytes) (i : ℕ) → (i < length s → B) → (length s ≤ i → B) → B
within_or_not s i f g = by-test (ltb i (length s)) (λ t. f (ltb-true i (length s) t)) (λ t. g (ltb-false i (length s) t))

-- the byte b, or another
module _ {X : Type 0} (r : Reader X) (s : Bytes) (i b : ℕ) where
  pub past-at : i < length s → get_or s i 0 ≡ b → past b r (drop i s) ≡ r (drop (i + 1) s)
  past-at h e = rw (at_place s i h, eq-eqb (get_or s i 0) b e)

  pub past-not : (i < length s → get_or s i 0 ≡ b → ⊥) → past b r (drop i s) ≡ no
  past-not n = within_or_not s i (λ h. rw (at_place s i h, ne_eqb (get_or s i 0) b (n h))) (λ h. rw (at-end s i h))

-- how many bytes are left
module _ (s : Bytes) (i : ℕ) where
  pub none_left : length s ≤ i → ends_line (drop i s) ≡ false
  unfolding ends_line
  none_left h = rw (at-end s i h)

  pub more_left : i < length s → (length s - i ≡ 1 → ⊥) → ends_line (drop i s) ≡ false
  unfolding ends_line
  more_left h n = rw (at_place s i h, at_place s (i + 1) (omega arith))

  pub one_left : i < length s → length s - i ≡ 1 → ends_line (drop i s) ≡ eqb (get_or s i 0) 41
  unfolding ends_line
  one_left h n = rw (at_place s i h, at-end s (i + 1) (omega arith))

-- one field after another
module _ {X Y : Type 0} (r : Reader X) (q : Reader Y) (l : Bytes) where
  pub no-first : no ≡ r l → no ≡ both r q l
  no-first e = ap (λ (x : Read X). and_then x (λ x m. and_then (q m) (λ y n. got (x, y) n))) e

  module _ (x : X) (m : Bytes) (e : got x m ≡ r l) where
    pub no_second : no ≡ q m → no ≡ both r q l
    no_second f = ap (λ (y : Read Y). and_then y (λ y n. got (x, y) n)) f ∙ ap (λ (x : Read X). and_then x (λ x m. and_then (q m) (λ y n. got (x, y) n))) e

    pub both_read : (y : Y) (n : Bytes) → got y n ≡ q m → got (x, y) n ≡ both r q l
    both_read y n f = ap (λ (y : Read Y). and_then y (λ y n. got (x, y) n)) f ∙ ap (λ (x : Read X). and_then x (λ x m. and_then (q m) (λ y n. got (x, y) n))) e
