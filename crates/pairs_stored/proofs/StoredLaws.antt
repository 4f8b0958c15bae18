-- What is written of pairs is read back from memory, and memory that passes the test is what its pairs are written as, also where an
-- object's data follow. Assumes nothing.
use Prim.Native.Nat.{ℕ, zero, suc, ◌+◌, ◌*◌, ◌≤◌}
use mathlib.Core.Path.{◌≡◌, refl, sym, ap, ◌∙◌}
use mathlib.Core.Bool.{true, false≢true}
use mathlib.Core.List.{[], ◌∷◌, ◌++◌, append_assoc, append-nil}
use native.Mathlib.Omega.{arith}
use borrow.Author.Tests.{eq-eqb, eqb-true}
use lib.Dec.{eqb}
use lib.ListN.{length, take, drop, length-append, length-take, length-drop, take-append-drop}
use lib.Seq.{take_at, drop_at, length-take-le, drop-drop}
use Rattle.base_number.specs.Number.{AreBytes}
use Rattle.machine.specs.Map.{Map}
use Rattle.machine.specs.Names.{Bytes}
use Rattle.machine.specs.Pairs.{pair_ok, kept_after, kept_from, kept_ok, pairs_held, encode_pairs}
use Rattle.machine.proofs.Options.{both}
use Rattle.machine.proofs.PairBytes.{length-encode}
use Rattle.machine.proofs.PairLaws.{Passes, key-short, value-short, kept-few, kept_from_lem, kept-each, none_kept}
use Rattle.pairs.proofs.Passing.{bad-is-bad}
use Rattle.pairs_stored.specs.Stored.{pair_lengths, pair_bytes, sum_of, pairs_at, stored_ok}

-- Written and read back ----------------------------------------------------------------------------------------------------

pub length-lengths : (m : Map Bytes Bytes) → length (pair_lengths m) ≡ 2 * length m
unfolding pair_lengths
length-lengths [] = refl
length-lengths (e ∷ m) = omega (arith, length-lengths m)

pub length-bytes : (m : Map Bytes Bytes) → length (pair_bytes m) ≡ pairs_held m
unfolding pair_bytes
length-bytes [] = refl
length-bytes (e ∷ m) = omega (arith, length-bytes m, length-append (e.0 ++ e.1) (pair_bytes m), length-append e.0 e.1)

pub sum-lengths : (m : Map Bytes Bytes) → sum_of (pair_lengths m) ≡ pairs_held m
unfolding pair_lengths
sum-lengths [] = refl
sum-lengths (e ∷ m) = omega (arith, sum-lengths m)

-- pairs, then data: each is where it was written
module _ (m : Map Bytes Bytes) (content : Bytes) where
  pub take-pairs : take (pairs_held m) (pair_bytes m ++ content) ≡ pair_bytes m
  take-pairs = take_at (pair_bytes m) content (pairs_held m) (length-bytes m)

  pub drop-pairs : drop (pairs_held m) (pair_bytes m ++ content) ≡ content
  drop-pairs = drop_at (pair_bytes m) content (pairs_held m) (length-bytes m)

pub stored-decode : (m : Map Bytes Bytes) (content : Bytes) → pairs_at (pair_lengths m) (pair_bytes m ++ content) ≡ m
unfolding pairs_at pair_lengths pair_bytes
stored-decode [] content = refl
stored-decode (e ∷ m) content =
    let k = e.0 in
    let v = e.1 in
    let rest = pair_bytes m ++ content in
    let s : ((k ++ v) ++ pair_bytes m) ++ content ≡ k ++ (v ++ rest) = simp append_assoc in
    let a : take (length k) (((k ++ v) ++ pair_bytes m) ++ content) ≡ k = ap (take (length k)) s ∙ take_at k (v ++ rest) (length k) refl in
    let d : drop (length k) (((k ++ v) ++ pair_bytes m) ++ content) ≡ v ++ rest = ap (drop (length k)) s ∙ drop_at k (v ++ rest) (length k) refl in
    let b : take (length v) (drop (length k) (((k ++ v) ++ pair_bytes m) ++ content)) ≡ v = ap (take (length v)) d ∙ take_at v rest (length v) refl in
    let c : drop (length k + length v) (((k ++ v) ++ pair_bytes m) ++ content) ≡ rest =
    sym (drop-drop (length v) (length k) (((k ++ v) ++ pair_bytes m) ++ content)) ∙ ap (drop (length v)) d ∙ drop_at v rest (length v) refl in
    let t = ap (pairs_at (pair_lengths m)) c ∙ stored-decode m content in
    λ i. (a i, b i) ∷ t i

-- the pairs that an object may have pass the test of memory
pub kept-stored : (m : Map Bytes Bytes) → kept_ok m ≡ true → stored_ok (pair_lengths m) (pair_bytes m) ≡ true
unfolding stored_ok
kept-stored m ok =
    let d : pairs_at (pair_lengths m) (pair_bytes m) ≡ m = ap (pairs_at (pair_lengths m)) (sym (append-nil (pair_bytes m))) ∙ stored-decode m [] in
    rw (d, eq-eqb (sum_of (pair_lengths m)) (length (pair_bytes m)) (sum-lengths m ∙ sym (length-bytes m))) ok

-- so they do where data follow, and so do none
pub kept_block : (m : Map Bytes Bytes) (content : Bytes) → kept_ok m ≡ true → stored_ok (pair_lengths m) (take (sum_of (pair_lengths m)) (pair_bytes m ++ content)) ≡ true
kept_block m content ok =
    ap (λ (n : ℕ). stored_ok (pair_lengths m) (take n (pair_bytes m ++ content))) (sum-lengths m)
    ∙ ap (stored_ok (pair_lengths m)) (take-pairs m content)
    ∙ kept-stored m ok

pub none-stored : stored_ok [] [] ≡ true
unfolding pair_lengths pair_bytes
none-stored = kept-stored [] none_kept

small-lengths : (m : Map Bytes Bytes) → Passes pair_ok m → AreBytes (pair_lengths m)
unfolding pair_lengths
small-lengths [] p i = omega arith
small-lengths (e ∷ m) p zero = omega (arith, key-short e p.0)
small-lengths (e ∷ m) p (suc zero) = omega (arith, value-short e p.0)
small-lengths (e ∷ m) p (suc (suc i)) = small-lengths m p.1 i

-- and their lengths are bytes
pub lengths-are-bytes : (m : Map Bytes Bytes) → kept_ok m ≡ true → AreBytes (pair_lengths m)
lengths-are-bytes m ok = small-lengths m (kept-each m ok)

-- Memory that passes the test ----------------------------------------------------------------------------------------------

-- pairs that are kept have two lengths each, and are what they are written as
even-from : (last ls bs : Bytes) → kept_from last (pairs_at ls bs) ≡ true → length ls ≡ 2 * length (pairs_at ls bs)
unfolding pairs_at kept_after
even-from last [] bs e = refl
even-from last (x ∷ []) bs e = absurd (false≢true (rw bad-is-bad at e))
even-from last (x ∷ (y ∷ ls)) bs e =
    let w = both (kept_after last (take x bs, take y (drop x bs))) (kept_from (take x bs) (pairs_at ls (drop (x + y) bs))) e in
    omega (arith, even-from (take x bs) ls (drop (x + y) bs) w.1)

encode-from : (last ls bs : Bytes) → kept_from last (pairs_at ls bs) ≡ true → sum_of ls ≡ length bs
    → (ls ≡ pair_lengths (pairs_at ls bs)) × (bs ≡ pair_bytes (pairs_at ls bs))
unfolding pairs_at pair_lengths pair_bytes kept_after
encode-from last [] [] e s = (refl, refl)
encode-from last [] (b ∷ bs) e s = absurd (omega arith)
encode-from last (x ∷ []) bs e s = absurd (false≢true (rw bad-is-bad at e))
encode-from last (x ∷ (y ∷ ls)) bs e s =
    let k = take x bs in
    let v = take y (drop x bs) in
    let rest = drop (x + y) bs in
    let w = both (kept_after last (k, v)) (kept_from k (pairs_at ls rest)) e in
    let r = encode-from k ls rest w.1 (omega (arith, length-drop (x + y) bs)) in
    let lk : length k ≡ x = length-take-le x bs (omega arith) in
    let lv : length v ≡ y = length-take-le y (drop x bs) (omega (arith, length-drop x bs)) in
    let cut : (k ++ v) ++ rest ≡ bs =
    append_assoc k v rest
    ∙ ap (λ (t : Bytes). k ++ (v ++ t)) (sym (drop-drop y x bs))
    ∙ ap (λ (t : Bytes). k ++ t) (take-append-drop y (drop x bs))
    ∙ take-append-drop x bs in
    ((λ i. sym lk i ∷ (sym lv i ∷ r.0 i)), sym cut ∙ ap (λ (t : Bytes). (k ++ v) ++ t) r.1)

module _ (ls bs : Bytes) (s : stored_ok ls bs ≡ true) where
  tests : (eqb (sum_of ls) (length bs) ≡ true) × (kept_ok (pairs_at ls bs) ≡ true)
  unfolding stored_ok
  tests = both (eqb (sum_of ls) (length bs)) (kept_ok (pairs_at ls bs)) s

  pub stored-sum : sum_of ls ≡ length bs
  stored-sum = eqb-true (sum_of ls) (length bs) tests.0

  pub stored-kept : kept_ok (pairs_at ls bs) ≡ true
  stored-kept = tests.1

  pub stored-even : length ls ≡ 2 * length (pairs_at ls bs)
  stored-even = even-from [] ls bs (kept_from_lem (pairs_at ls bs) stored-kept)

  pub stored-few : length ls ≤ 16
  stored-few = omega (arith, stored-even, kept-few (pairs_at ls bs) stored-kept)

  pub stored-encode : (ls ≡ pair_lengths (pairs_at ls bs)) × (bs ≡ pair_bytes (pairs_at ls bs))
  stored-encode = encode-from [] ls bs (kept_from_lem (pairs_at ls bs) stored-kept) stored-sum

  -- how many bytes `encode` writes
  pub encoded-length : length (encode_pairs (pairs_at ls bs)) ≡ length ls + length bs
  encoded-length = omega (arith, length-encode (pairs_at ls bs), stored-even, length-bytes (pairs_at ls bs), ap length stored-encode.1)

-- an object's block: the bytes of its pairs, then its data
module _ (ls bs : Bytes) (s : stored_ok ls (take (sum_of ls) bs) ≡ true) where
  abbrev front : Bytes
  front = take (sum_of ls) bs

  whole : (ls ≡ pair_lengths (pairs_at ls front)) × (front ≡ pair_bytes (pairs_at ls front))
  whole = stored-encode ls front s

  pub block_room : sum_of ls ≤ length bs
  block_room = omega (arith, stored-sum ls front s, length-take (sum_of ls) bs)

  -- the data after them say nothing
  pub block-front : pairs_at ls (take (sum_of ls) bs) ≡ pairs_at ls bs
  block-front =
      let m = pairs_at ls front in
      let c = drop (sum_of ls) bs in
      let q : pair_bytes m ++ c ≡ bs = ap (λ (t : Bytes). t ++ c) (sym whole.1) ∙ take-append-drop (sum_of ls) bs in
      sym (stored-decode m c) ∙ ap (λ (l : Bytes). pairs_at l (pair_bytes m ++ c)) (sym whole.0) ∙ ap (pairs_at ls) q

  pub block-lengths : ls ≡ pair_lengths (pairs_at ls bs)
  block-lengths = whole.0 ∙ ap pair_lengths block-front

  pub block-bytes : bs ≡ pair_bytes (pairs_at ls bs) ++ drop (sum_of ls) bs
  block-bytes = sym (take-append-drop (sum_of ls) bs) ∙ ap (λ (t : Bytes). t ++ drop (sum_of ls) bs) (whole.1 ∙ ap pair_bytes block-front)

  pub block-kept : kept_ok (pairs_at ls bs) ≡ true
  block-kept = rw (sym block-front) (stored-kept ls front s)

  pub block-count : length ls ≡ 2 * length (pairs_at ls bs)
  block-count = omega (arith, stored-even ls front s, ap length block-front)

  pub block_held : sum_of ls ≡ pairs_held (pairs_at ls bs)
  block_held = ap sum_of block-lengths ∙ sum-lengths (pairs_at ls bs)
