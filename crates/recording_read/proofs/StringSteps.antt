-- A quoted string, byte by byte. Assumes nothing.
use Prim.Native.Nat.{ℕ, ◌+◌, ◌≤◌, ◌<◌}
use mathlib.Core.Path.{◌≡◌, sym, ap, ap₂, ◌∙◌}
use mathlib.Core.List.{[], ◌∷◌, ◌++◌}
use native.Mathlib.Numerals.{add-one}
use native.Mathlib.Omega.{arith}
use lib.ListN.{length, take, drop, get_or, set, get_or-eq_default}
use lib.Seq.{take-suc-set}
use Rattle.machine.specs.Names.{Bytes}
use Rattle.recording.specs.Read.{Read, got, no, hex_pair, hex_on}
use Rattle.recording.proofs.Strings.{pair-zero, hex-closed, hex-more, hex-bad, hex-cut}
use Rattle.recording_read.proofs.Places.{at_place, at-end, within_or_not}

-- `all` is what is read in all, the first n bytes of `out` what was read so far, and i the place that was come to
module _ (all : Read Bytes) (s out : Bytes) (n i : ℕ) (so_far : hex_on (take n out) (drop i s) ≡ all) where
  pub unclosed : length s ≤ i → no ≡ all
  unfolding hex_on
  unclosed h = sym (ap (hex_on (take n out)) (at-end s i h)) ∙ so_far

  module _ (here : i < length s) where
    abbrev b : ℕ
    b = get_or s i 0

    pub closed : b ≡ 34 → got (take n out) (drop (i + 1) s) ≡ all
    closed e = sym (hex-closed (take n out) b (drop (i + 1) s) e) ∙ sym (ap (hex_on (take n out)) (at_place s i here)) ∙ so_far

    module _ (other : b ≡ 34 → ⊥) (c x : ℕ) (is_c : c ≡ get_or s (i + 1) 0) (is_x : x ≡ hex_pair b c) where
      -- two bytes are left
      two : i + 1 < length s → drop i s ≡ b ∷ c ∷ drop (i + 2) s
      two h =
          let k : i + 1 + 1 ≡ i + 2 = omega arith in
          at_place s i here
          ∙ ap (λ (m : Bytes). b ∷ m) (at_place s (i + 1) h)
          ∙ ap₂ (λ (y k : ℕ). b ∷ y ∷ drop k s) (sym is_c) k

      -- or one
      one : length s ≤ i + 1 → drop i s ≡ b ∷ []
      one h = at_place s i here ∙ ap (λ (m : Bytes). b ∷ m) (at-end s (i + 1) h)

      pub bad : 256 ≤ x → no ≡ all
      bad h =
          within_or_not s (i + 1)
          (λ w. sym (hex-bad (take n out) b c (drop (i + 2) s) other (omega arith)) ∙ sym (ap (hex_on (take n out)) (two w)) ∙ so_far)
          (λ w. sym (hex-cut (take n out) b other) ∙ sym (ap (hex_on (take n out)) (one w)) ∙ so_far)

      -- no digit stands past the end
      pub second : x < 256 → i + 1 < length s
      second h =
          within_or_not s (i + 1) (λ w. w)
          (λ w.
          let z : c ≡ 0 = is_c ∙ get_or-eq_default s 0 w in
          let q : x ≡ 256 = is_x ∙ ap (hex_pair b) z ∙ pair-zero b in
          absurd (omega arith))

      pub more : x < 256 → n < length out → hex_on (take (n + 1) (set out n x)) (drop (i + 2) s) ≡ all
      more h room =
          let t : take (n + 1) (set out n x) ≡ take n out ++ hex_pair b c ∷ [] =
          ap (λ (k : ℕ). take k (set out n x)) (add-one n) ∙ take-suc-set out n x room ∙ ap (λ (y : ℕ). take n out ++ y ∷ []) is_x in
          ap (λ (m : Bytes). hex_on m (drop (i + 2) s)) t
          ∙ sym (hex-more (take n out) b c (drop (i + 2) s) other (omega arith))
          ∙ sym (ap (hex_on (take n out)) (two (second h)))
          ∙ so_far
