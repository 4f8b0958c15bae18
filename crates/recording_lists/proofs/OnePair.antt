-- One pair, byte by byte, in the bytes that the store takes. Assumes nothing.
use Prim.Native.Nat.{ℕ, ◌+◌, ◌<◌}
use mathlib.Core.Path.{◌≡◌, sym, ap, ◌∙◌}
use mathlib.Core.List.{◌++◌, append_assoc}
use lib.ListN.{length, take, drop, get_or}
use Rattle.machine.specs.Names.{Bytes}
use Rattle.machine.specs.Pairs.{Pair}
use Rattle.recording.specs.Read.{Read, got, no, Reader, and_then, both, past, closed, read_string, read_pair}
use Rattle.recording_lists.specs.Packed.{counted, counted_pair, string_after, pair_after}
use Rattle.recording_read.proofs.Places.{past-at, past-not, no-first, no_second, both_read}
use Rattle.recording_lists.proofs.PairSteps.{MappedRead, unmapped, unmapped-no}

-- a pair's two strings
abbrev two : Reader Pair
two = both read_string (past 32 read_string)

module _ (s out : Bytes) (n at : ℕ) where
  -- no pair
  none : no ≡ read_pair (drop at s) → no ≡ pair_after (take n out) (drop at s)
  none e = ap (λ (r : Read Pair). and_then r (λ x m. got (take n out ++ counted_pair x) m)) e

  pub no-bracket : (at < length s → get_or s at 0 ≡ 40 → ⊥) → no ≡ pair_after (take n out) (drop at s)
  unfolding read_pair
  no-bracket other = none (sym (past-not (closed two) s at 40 other))

  module _ (in-line : at < length s) (bracket : get_or s at 0 ≡ 40) where
    pair-at : and_then (two (drop (at + 1) s)) (λ x. past 41 (got x)) ≡ read_pair (drop at s)
    unfolding read_pair
    pair-at = sym (past-at (closed two) s at 40 in-line bracket)

    no-two : no ≡ two (drop (at + 1) s) → no ≡ pair_after (take n out) (drop at s)
    no-two e = none (ap (λ (r : Read Pair). and_then r (λ x. past 41 (got x))) e ∙ pair-at)

    pub no_key : no ≡ string_after (take n out) (drop (at + 1) s) → no ≡ pair_after (take n out) (drop at s)
    no_key e = no-two (no-first read_string (past 32 read_string) (drop (at + 1) s) (unmapped-no (λ xs. take n out ++ counted xs) (read_string (drop (at + 1) s)) e))

    module _ (out₁ : Bytes) (m b : ℕ) (key : got (take m out₁) (drop b s) ≡ string_after (take n out) (drop (at + 1) s)) where
      k : MappedRead (λ xs. take n out ++ counted xs) (read_string (drop (at + 1) s)) (take m out₁) (drop b s)
      k = unmapped (λ xs. take n out ++ counted xs) (read_string (drop (at + 1) s)) (take m out₁) (drop b s) key

      no_other : no ≡ past 32 read_string (drop b s) → no ≡ pair_after (take n out) (drop at s)
      no_other e = no-two (no_second read_string (past 32 read_string) (drop (at + 1) s) k.value (drop b s) k.here e)

      pub no-space : (b < length s → get_or s b 0 ≡ 32 → ⊥) → no ≡ pair_after (take n out) (drop at s)
      no-space other = no_other (sym (past-not read_string s b 32 other))

      module _ (b-in : b < length s) (space : get_or s b 0 ≡ 32) where
        pub no_value : no ≡ string_after (take m out₁) (drop (b + 1) s) → no ≡ pair_after (take n out) (drop at s)
        no_value e = no_other (unmapped-no (λ xs. take m out₁ ++ counted xs) (read_string (drop (b + 1) s)) e ∙ sym (past-at read_string s b 32 b-in space))

        module _ (out₂ : Bytes) (len next : ℕ) (value : got (take len out₂) (drop next s) ≡ string_after (take m out₁) (drop (b + 1) s)) where
          v : MappedRead (λ xs. take m out₁ ++ counted xs) (read_string (drop (b + 1) s)) (take len out₂) (drop next s)
          v = unmapped (λ xs. take m out₁ ++ counted xs) (read_string (drop (b + 1) s)) (take len out₂) (drop next s) value

          read : past 41 (got (k.value, v.value)) (drop next s) ≡ read_pair (drop at s)
          read =
              ap (λ (r : Read Pair). and_then r (λ x. past 41 (got x)))
              (both_read read_string (past 32 read_string) (drop (at + 1) s) k.value (drop b s) k.here v.value (drop next s) (v.here ∙ sym (past-at read_string s b 32 b-in space)))
              ∙ pair-at

          pub no_end : (next < length s → get_or s next 0 ≡ 41 → ⊥) → no ≡ pair_after (take n out) (drop at s)
          no_end other = none (sym (past-not (got (k.value, v.value)) s next 41 other) ∙ read)

          bytes : take len out₂ ≡ take n out ++ counted_pair (k.value, v.value)
          unfolding counted_pair
          bytes = v.so ∙ ap (λ (l : Bytes). l ++ counted v.value) k.so ∙ append_assoc (take n out) (counted k.value) (counted v.value)

          pub a_pair : next < length s → get_or s next 0 ≡ 41 → got (take len out₂) (drop (next + 1) s) ≡ pair_after (take n out) (drop at s)
          a_pair h e =
              ap (λ (l : Bytes). got l (drop (next + 1) s)) bytes
              ∙ ap (λ (r : Read Pair). and_then r (λ x m. got (take n out ++ counted_pair x) m)) (sym (past-at (got (k.value, v.value)) s next 41 h e) ∙ read)
