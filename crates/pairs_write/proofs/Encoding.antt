-- Pairs written one after the other. Assumes nothing.
use Prim.Native.Nat.{ℕ, ◌+◌, ◌-◌, ◌*◌, ◌≤◌}
use mathlib.Core.Path.{◌≡◌, refl, sym, ap, ap₂, ◌∙◌, subst}
use mathlib.Core.Bool.{true}
use mathlib.Core.List.{List, [], ◌∷◌, ◌++◌, append_assoc, append-nil}
use native.Mathlib.Omega.{arith}
use lib.ListN.{length, take, drop, length-append, length-drop}
use lib.Seq.{length-take-le}
use Rattle.base_number.proofs.Fields.{replaced_at, front-next}
use Rattle.base_number.proofs.Halves.{write-next}
use Rattle.machine.specs.Names.{Bytes}
use Rattle.machine.specs.Pairs.{Pair, pair_record, encode_pairs}
use Rattle.machine.proofs.PairBytes.{length-pair}
use Rattle.pairs_stored.specs.Stored.{bytes_of, sum_of, pairs_at, stored_ok}
use Rattle.pairs_stored.proofs.StoredLaws.{stored-sum, stored-even, stored-few}
use Rattle.pairs_stored.proofs.Storing.{Ends, no_lengths, stored_here, ends-here, sum-all}

-- y is written after x
after : (b b₁ b₂ x y : List ℕ) (at k j place : ℕ) → length x ≡ k → at + k ≤ length b → place ≡ at + k → b₁ ≡ replaced_at b at x k → b₂ ≡ replaced_at b₁ place y j
    → b₂ ≡ replaced_at b at (x ++ y) (k + j)
after b b₁ b₂ x y at k j place n room e one two = two ∙ ap₂ (λ (c : List ℕ) (i : ℕ). replaced_at c i y j) one e ∙ write-next b at x y k j n room

module _ (b : List ℕ) (k v : Bytes) (at : ℕ) where
  pub bytes-written : (b₁ b₂ : List ℕ) → at + (length k + length v) ≤ length b → b₁ ≡ replaced_at b at k (length k) → b₂ ≡ replaced_at b₁ (at + length k) v (length v)
      → b₂ ≡ replaced_at b at (bytes_of k v) (length k + length v)
  bytes-written b₁ b₂ room e₁ e₂ = after b b₁ b₂ k v at (length k) (length v) (at + length k) refl (omega arith) refl e₁ e₂

  pub pair-written : (b₁ b₂ b₃ b₄ : List ℕ) → at + (2 + length k + length v) ≤ length b
      → b₁ ≡ replaced_at b at (length k ∷ []) 1 → b₂ ≡ replaced_at b₁ (at + 1) k (length k) → b₃ ≡ replaced_at b₂ (at + 1 + length k) (length v ∷ []) 1
      → b₄ ≡ replaced_at b₃ (at + 2 + length k) v (length v) → b₄ ≡ replaced_at b at (pair_record k v) (2 + length k + length v)
  pair-written b₁ b₂ b₃ b₄ room e₁ e₂ e₃ e₄ =
      let n = length k in
      let one = length k ∷ [] in
      let two = length v ∷ [] in
      let l₂ : length (one ++ k) ≡ 1 + n = omega (arith, length-append one k) in
      let l₃ : length ((one ++ k) ++ two) ≡ 1 + n + 1 = omega (arith, length-append (one ++ k) two) in
      let q₂ = after b b₁ b₂ one k at 1 n (at + 1) refl (omega arith) refl e₁ e₂ in
      let q₃ = after b b₂ b₃ (one ++ k) two at (1 + n) 1 (at + 1 + n) l₂ (omega arith) (omega arith) q₂ e₃ in
      let q₄ = after b b₃ b₄ ((one ++ k) ++ two) v at (1 + n + 1) (length v) (at + 2 + n) l₃ (omega arith) (omega arith) q₃ e₄ in
      let size : 1 + n + 1 + length v ≡ 2 + n + length v = omega arith in
      q₄ ∙ ap₂ (λ (x : List ℕ) (j : ℕ). replaced_at b at x j) (simp append_assoc) size

-- the first i lengths passed, whose pairs end at `at`: `front` is written at the front of the answer buffer
pub record Encoded (ls bs b₀ b : Bytes) (at i : ℕ) : Type 0 where
  pub front : Bytes
  pub told : b ≡ front ++ drop (i + at) b₀
  pub size : length front ≡ i + at
  pub all : front ++ encode_pairs (pairs_at (drop i ls) (drop at bs)) ≡ encode_pairs (pairs_at ls bs)
  pub sum : at + sum_of (drop i ls) ≡ length bs
  pub even : length ls ≡ i + 2 * length (pairs_at (drop i ls) (drop at bs))
  pub short : length ls ≤ 16
  pub few : at ≤ 255 * i
  pub same : length b ≡ length b₀

pub encoded-none : (ls bs b : Bytes) → stored_ok ls bs ≡ true → Encoded ls bs b b 0 0
encoded-none ls bs b s =
    record {
      front = [];
      told = refl;
      size = refl;
      all = refl;
      sum = omega (arith, stored-sum ls bs s);
      even = omega (arith, stored-even ls bs s);
      short = stored-few ls bs s;
      few = omega arith;
      same = refl;
    }

-- the bytes from one place to another, as the code reads them
abbrev pub part : Bytes → (from to : ℕ) → Bytes
part bs from to = take (to - from) (drop from bs)

module _ {ls bs b₀ b : Bytes} {at i : ℕ} (w : Encoded ls bs b₀ b at i) where
  pub encoded-all : length ls ≤ i → b ≡ encode_pairs (pairs_at ls bs) ++ drop (length ls + length bs) b₀
  unfolding encode_pairs
  encoded-all h =
      let y : i + at ≡ length ls + length bs = omega (arith, w.even, w.sum, sum-all ls i h) in
      let none = no_lengths (drop i ls) (drop at bs) (omega (arith, length-drop i ls)) in
      let q : w.front ≡ encode_pairs (pairs_at ls bs) = sym (append-nil w.front) ∙ sym (ap (λ (m : List Pair). w.front ++ encode_pairs m) none) ∙ w.all in
      w.told ∙ ap₂ (λ (x : Bytes) (n : ℕ). x ++ drop n b₀) q y

  -- the next pair, from `at` to v
  module _ {k v : ℕ} (more : i + 2 ≤ length ls) (key : Ends ls i at k) (value : Ends ls (i + 1) k v) where
    abbrev key_at : Bytes
    key_at = part bs at k

    abbrev value_at : Bytes
    value_at = part bs k v

    ends : v + sum_of (drop (i + 2) ls) ≡ length bs
    ends = ends-here ls bs i at k v more key value w.sum

    key-length : length key_at ≡ k - at
    key-length = length-take-le (k - at) (drop at bs) (omega (arith, ends, value.0, length-drop at bs))

    value-length : length value_at ≡ v - k
    value-length = length-take-le (v - k) (drop k bs) (omega (arith, ends, length-drop k bs))

    pub encoded-next : {b' : Bytes} {next : ℕ} → next ≡ i + 2 → b' ≡ replaced_at b (i + at) (pair_record key_at value_at) (2 + length key_at + length value_at) → length b' ≡ length b
        → Encoded ls bs b₀ b' v next
    unfolding encode_pairs
    encoded-next {b'} told e same =
        let pair = pair_record key_at value_at in
        let n = 2 + length key_at + length value_at in
        let q : i + at + n ≡ i + 2 + v = omega (arith, key-length, value-length, key.0, value.0) in
        let here = stored_here ls bs i at k v more key value in
        subst (Encoded ls bs b₀ b' v) (sym told) (record {
          front = w.front ++ pair;
          told = front-next b₀ b b' w.front pair (i + at) n w.told w.size e ∙ ap (λ (n : ℕ). (w.front ++ pair) ++ drop n b₀) q;
          size = omega (arith, length-append w.front pair, length-pair key_at value_at, w.size);
          all =
              append_assoc w.front pair (encode_pairs (pairs_at (drop (i + 2) ls) (drop v bs)))
              ∙ sym (ap (λ (m : List Pair). w.front ++ encode_pairs m) here)
              ∙ w.all;
          sum = ends;
          even = omega (arith, w.even, ap length here);
          short = w.short;
          few = omega (arith, w.few, key.1, value.1);
          same = omega (arith, w.same);
        })
