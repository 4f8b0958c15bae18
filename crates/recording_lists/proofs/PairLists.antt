-- A list of pairs, one by one. Assumes nothing.
use Prim.Native.Nat.{ℕ, zero, suc, ◌+◌, ◌-◌, ◌≤◌, ◌<◌}
use mathlib.Core.Path.{◌≡◌, refl, sym, ap, ◌∙◌}
use mathlib.Core.List.{List, [], ◌∷◌, ◌++◌, append_assoc, append-nil}
use native.Mathlib.Omega.{arith}
use lib.ListN.{length, take, drop, get_or, length-append, length-drop}
use Rattle.machine.specs.Names.{Bytes}
use Rattle.machine.specs.Pairs.{Pair}
use Rattle.recording.specs.Print.{pair}
use Rattle.recording.specs.Read.{Read, got, no, and_then, items_on, items, read_pair}
use Rattle.recording.proofs.Verbs.{pair-exact}
use Rattle.recording_lists.specs.Packed.{counted_pair, packed_pairs, pair_after}
use Rattle.recording_lists.proofs.ListSteps.{no_item, item-at}
use Rattle.recording_lists.proofs.PairSteps.{MappedRead, unmapped, unmapped-no}

pairs-more : (ps : List Pair) (e : Pair) → packed_pairs (ps ++ e ∷ []) ≡ packed_pairs ps ++ counted_pair e
unfolding packed_pairs
pairs-more [] e = append-nil (counted_pair e)
pairs-more (p ∷ ps) e = ap (λ (m : Bytes). counted_pair p ++ m) (pairs-more ps e) ∙ sym (append_assoc (counted_pair p) (packed_pairs ps) (counted_pair e))

-- What is known before each space: the pairs so far stand in `out`, and what is read after them is what is read in all
pub record SoFar (all : Read (List Pair)) (s out : Bytes) (n i : ℕ) : Type 0 where
  pub ps : List Pair
  pub left : ℕ
  pub enough : length s - i ≤ left
  pub bytes : take n out ≡ packed_pairs ps
  pub here : items_on read_pair (suc left) ps (drop i s) ≡ all

pub begin : (s out : Bytes) (at : ℕ) → SoFar (items read_pair (drop at s)) s out 0 at
unfolding packed_pairs
begin s out at = record { ps = []; left = length (drop at s); enough = omega (arith, length-drop at s); bytes = refl; here = refl }

module _ (all : Read (List Pair)) (s out : Bytes) (n i : ℕ) (so : SoFar all s out n i) where
  pub finish : (i < length s → get_or s i 0 ≡ 32 → ⊥) → got (take n out) (drop i s) ≡ and_then all (λ ps l. got (packed_pairs ps) l)
  finish other =
      ap (λ (m : Bytes). got m (drop i s)) so.bytes
      ∙ ap (λ (r : Read (List Pair)). and_then r (λ ps l. got (packed_pairs ps) l)) (sym (no_item read_pair so.left so.ps s i other) ∙ so.here)

  module _ (h : i < length s) (space : get_or s i 0 ≡ 32) where
    -- no pair after the space
    pub fail : no ≡ pair_after (take n out) (drop (i + 1) s) → no ≡ and_then all (λ ps l. got (packed_pairs ps) l)
    fail e =
        let d : no ≡ read_pair (drop (i + 1) s) = unmapped-no (λ x. take n out ++ counted_pair x) (read_pair (drop (i + 1) s)) e in
        ap (λ (r : Read (List Pair)). and_then r (λ ps l. got (packed_pairs ps) l))
        (ap (λ (r : Read Pair). and_then r (λ x. items_on read_pair so.left (so.ps ++ x ∷ []))) d ∙ sym (item-at read_pair so.left so.ps s i h space) ∙ so.here)

    module _ (out₁ : Bytes) (len next : ℕ) (e : got (take len out₁) (drop next s) ≡ pair_after (take n out) (drop (i + 1) s)) where
      u : MappedRead (λ x. take n out ++ counted_pair x) (read_pair (drop (i + 1) s)) (take len out₁) (drop next s)
      u = unmapped (λ x. take n out ++ counted_pair x) (read_pair (drop (i + 1) s)) (take len out₁) (drop next s) e

      pub advances : length s - next < length s - i
      advances =
          let o = pair-exact.only (drop (i + 1) s) u.value (drop next s) (sym u.here) in
          omega (arith, ap length o.0, length-append (pair u.value) (drop next s), length-drop (i + 1) s, length-drop next s)

      pub step : SoFar all s out₁ len next
      step = go so.left so.enough so.here
        where
          go : (k : ℕ) → length s - i ≤ k → items_on read_pair (suc k) so.ps (drop i s) ≡ all → SoFar all s out₁ len next
          go zero enough here = absurd (omega arith)
          go (suc k) enough here = record {
            ps = so.ps ++ u.value ∷ [];
            left = k;
            enough = omega (arith, advances);
            bytes = u.so ∙ ap (λ (m : Bytes). m ++ counted_pair u.value) so.bytes ∙ sym (pairs-more so.ps u.value);
            here = ap (λ (r : Read Pair). and_then r (λ x. items_on read_pair (suc k) (so.ps ++ x ∷ []))) u.here ∙ sym (item-at read_pair (suc k) so.ps s i h space) ∙ here;
          }
