-- The pairs of a row: what is read was written so and keeps the rule of pairs, and what keeps it is read back. Assumes nothing.
use Prim.Native.Nat.{ℕ, ◌≤◌}
use mathlib.Core.Path.{◌≡◌, sym}
use mathlib.Core.Bool.{true}
use mathlib.Core.List.{◌++◌}
use native.Mathlib.Omega.{arith}
use borrow.Author.Tests.{leb-true, le-leb}
use lib.Dec.{leb}
use lib.ListN.{length, drop}
use Rattle.machine.specs.Map.{Map}
use Rattle.machine.specs.Names.{Bytes}
use Rattle.machine.specs.Pairs.{pairs_most, kept_ok}
use Rattle.machine.proofs.Options.{both}
use Rattle.machine.proofs.PairLaws.{kept-few}
use Rattle.pairs_stored.specs.Stored.{pair_lengths, pair_bytes, sum_of, block_ok}
use Rattle.pairs_stored.proofs.Blocks.{block, kept_block}
use Rattle.mem_row.specs.declared.Head.{Head}
use Rattle.mem_row.specs.Row.{Row, head_of, Encodable}
use Rattle.mem_layout.specs.Rules.{pairs_rule}
use Rattle.mem_layout.specs.Memory.{pairs_of}

-- a row is written as its pairs say
pub record Paired (r : Row) : Type 0 where
  pub kept : kept_ok (pairs_of r) ≡ true
  pub count : length (pairs_of r) ≡ r.pairs
  pub lengths : pair_lengths (pairs_of r) ≡ r.lengths
  pub content : pair_bytes (pairs_of r) ++ drop (sum_of r.lengths) r.content ≡ r.content

pub paired : (most : ℕ) (r : Row) → Encodable r → pairs_rule most (head_of r) r.lengths r.content ≡ true → Paired r
unfolding pairs_rule
paired most r f e =
    let b = block r.lengths r.content (both (leb r.pairs most) (block_ok r.lengths r.content) e).1 in
    record {
      kept = b.kept;
      count = let l = f.lengths in omega (arith, b.twice);
      lengths = sym b.lengths;
      content = sym b.bytes;
    }

-- a layout whose rows have at most so many pairs
pub pairs-most : (most : ℕ) (r : Row) → pairs_rule most (head_of r) r.lengths r.content ≡ true → r.pairs ≤ most
unfolding pairs_rule
pairs-most most r e = leb-true _ _ (both (leb r.pairs most) (block_ok r.lengths r.content) e).0

-- pairs that may be kept, at the front of a block
pub pairs-ok : (m : Map Bytes Bytes) (h : Head) (b c : Bytes) → kept_ok m ≡ true → h.pairs ≡ length m → b ≡ pair_bytes m ++ c
    → pairs_rule pairs_most h (pair_lengths m) b ≡ true
unfolding pairs_rule
pairs-ok m h b c k e is = rw (le-leb h.pairs pairs_most (omega (arith, kept-few m k)), is) (kept_block m c k)
