-- A block of the arena: the bytes of pairs, then data. Assumes nothing.
use Prim.Native.Nat.{ℕ, ◌*◌, ◌≤◌, ◌<◌}
use mathlib.Core.Path.{◌≡◌, refl, sym, ap, ◌∙◌}
use mathlib.Core.Bool.{Bool, true, false}
use mathlib.Core.List.{[], ◌∷◌, ◌++◌, append-nil}
use native.Mathlib.Omega.{arith}
use lib.ListN.{length, take, drop, length-take}
use Rattle.machine.specs.Map.{Map}
use Rattle.machine.specs.Names.{Bytes}
use Rattle.machine.specs.Pairs.{pairs_most, kept_ok}
use Rattle.pairs_stored.specs.Stored.{pair_lengths, pair_bytes, sum_of, pairs_at, stored_ok, block_ok}
use Rattle.pairs_stored.proofs.Storing.{test-many, test_sum}
use Rattle.pairs_stored.proofs.StoredLaws as stored
use Rattle.pairs_stored.proofs.StoredLaws.{drop-pairs, stored-decode, stored-few, sum-lengths, block_room, block-lengths, block-bytes, block-kept, block-count}

-- Written -----------------------------------------------------------------------------------------------------------------

module _ (m : Map Bytes Bytes) where
  -- the pairs are read back where no data follow
  pub pairs-alone : pairs_at (pair_lengths m) (pair_bytes m) ≡ m
  pairs-alone = ap (pairs_at (pair_lengths m)) (sym (append-nil (pair_bytes m))) ∙ stored-decode m []

  module _ (content : Bytes) where
    -- the data are what stands after so many bytes as the lengths say
    pub data-back : drop (sum_of (pair_lengths m)) (pair_bytes m ++ content) ≡ content
    data-back = ap (λ (n : ℕ). drop n (pair_bytes m ++ content)) (sum-lengths m) ∙ drop-pairs m content

    -- pairs that an object may have, with data after them, pass the test of memory
    pub kept_block : kept_ok m ≡ true → block_ok (pair_lengths m) (pair_bytes m ++ content) ≡ true
    unfolding block_ok
    kept_block ok = stored.kept_block m content ok

-- Read --------------------------------------------------------------------------------------------------------------------

-- what passes the test is written as its pairs, which an object may have, and data
pub record Block (ls bs : Bytes) : Type 0 where
  pub kept : kept_ok (pairs_at ls bs) ≡ true
  pub lengths : ls ≡ pair_lengths (pairs_at ls bs)
  pub bytes : bs ≡ pair_bytes (pairs_at ls bs) ++ drop (sum_of ls) bs
  pub twice : length ls ≡ 2 * length (pairs_at ls bs)
  pub few : length ls ≤ 16
  pub room : sum_of ls ≤ length bs

pub block : (ls bs : Bytes) → block_ok ls bs ≡ true → Block ls bs
unfolding block_ok
block ls bs s =
    record { kept = block-kept ls bs s; lengths = block-lengths ls bs s; bytes = block-bytes ls bs s; twice = block-count ls bs s; few = stored-few ls (take (sum_of ls) bs) s; room = block_room ls bs s }

-- Tested ------------------------------------------------------------------------------------------------------------------

-- no pairs are the pairs of any block
pub block_none : (ls bs : Bytes) → length ls ≡ 0 → block_ok ls bs ≡ true
unfolding block_ok stored_ok kept_ok pairs_at
block_none [] bs e = refl
block_none (x ∷ ls) bs e = absurd (omega arith)

module _ (ls bs : Bytes) where
  pub block-many : 2 * pairs_most < length ls → false ≡ block_ok ls bs
  unfolding block_ok
  block-many h = test-many ls (take (sum_of ls) bs) h

  module _ (n : ℕ) (sum : n ≡ sum_of ls) where
    pub block-short : length bs < n → false ≡ block_ok ls bs
    unfolding block_ok
    block-short h = test_sum ls (take (sum_of ls) bs) (λ e. omega (arith, length-take (sum_of ls) bs))

    pub block-by : (r : Bool) → r ≡ stored_ok ls (take n bs) → r ≡ block_ok ls bs
    unfolding block_ok
    block-by r e = e ∙ ap (λ (n : ℕ). stored_ok ls (take n bs)) sum
