-- A number, digit by digit. Assumes nothing.
use Prim.Native.Nat.{ℕ, ◌+◌, ◌*◌, ◌^◌, ◌≤◌, ◌<◌}
use mathlib.Core.Path.{◌≡◌, refl, sym, ap, subst, ◌∙◌}
use native.Mathlib.Omega.{arith}
use lib.ListN.{length, drop, get_or, get_or-eq_default}
use Rattle.machine.specs.Names.{Bytes}
use Rattle.recording.specs.Read.{Read, got, no, digit_value, digits_on, read_number}
use Rattle.recording.proofs.Digits.{digits-more-read, digits-wide, digits-end, number-zero, number_digits, number-none}
use Rattle.recording_read.proofs.Places.{at_place, at-end, within_or_not}

nul-value : digit_value 0 ≡ 10
unfolding digit_value
nul-value = refl

-- `all` is what is read in all, v the number so far, and i the place that was come to
module _ (all : Read ℕ) (s : Bytes) (v i : ℕ) (so_far : digits_on v (drop i s) ≡ all) where
  pub ended : length s ≤ i → got v (drop i s) ≡ all
  unfolding digits_on
  ended h = ap (got v) (at-end s i h) ∙ sym (ap (digits_on v) (at-end s i h)) ∙ so_far

  module _ (here : i < length s) (d : ℕ) (is : d ≡ digit_value (get_or s i 0)) where
    abbrev b : ℕ
    b = get_or s i 0

    abbrev l : Bytes
    l = drop (i + 1) s

    pub stopped : 10 ≤ d → got v (drop i s) ≡ all
    stopped h = ap (got v) (at_place s i here) ∙ sym (digits-end v b l (omega arith)) ∙ sym (ap (digits_on v) (at_place s i here)) ∙ so_far

    pub wide : d < 10 → 2 ^ 64 ≤ 10 * v + d → no ≡ all
    wide h w = sym (digits-wide v b l (omega arith) (omega arith)) ∙ sym (ap (digits_on v) (at_place s i here)) ∙ so_far

    pub more : d < 10 → 10 * v + d < 2 ^ 64 → digits_on (10 * v + d) l ≡ all
    more h w =
        ap (λ (x : ℕ). digits_on (10 * v + x) l) is
        ∙ sym (digits-more-read v b l (omega arith) (omega arith))
        ∙ sym (ap (digits_on v) (at_place s i here)) ∙ so_far

-- a whole number, by the byte b that stands first
module _ (s : Bytes) (at b : ℕ) (is : b ≡ get_or s at 0) where
  pub zero-at : at < length s → b ≡ 48 → got 0 (drop (at + 1) s) ≡ read_number (drop at s)
  zero-at h e = sym (ap read_number (at_place s at h) ∙ number-zero (get_or s at 0) (drop (at + 1) s) (sym is ∙ e))

  module _ (other : b ≡ 48 → ⊥) where
    pub none-at : 10 ≤ digit_value b → no ≡ read_number (drop at s)
    unfolding read_number
    none-at n =
        within_or_not s at
        (λ h. sym (ap read_number (at_place s at h) ∙ number-none (get_or s at 0) (drop (at + 1) s) (λ e. other (is ∙ e)) (subst (λ (x : ℕ). 10 ≤ digit_value x) is n)))
        (λ h. sym (ap read_number (at-end s at h)))

    pub digits-at : digit_value b < 10 → digits_on 0 (drop at s) ≡ read_number (drop at s)
    digits-at d =
        within_or_not s at
        (λ h.
        ap (digits_on 0) (at_place s at h)
        ∙ sym (ap read_number (at_place s at h) ∙ number_digits (get_or s at 0) (drop (at + 1) s) (λ e. other (is ∙ e)) (subst (λ (x : ℕ). digit_value x < 10) is d)))
        (λ h. let z : digit_value b ≡ 10 = ap digit_value (is ∙ get_or-eq_default s 0 h) ∙ nul-value in absurd (omega arith))
