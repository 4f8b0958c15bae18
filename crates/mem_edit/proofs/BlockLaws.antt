-- A block written: the pairs, then the content after them. Assumes nothing.
use Prim.Native.Nat.{ℕ, ◌+◌, ◌-◌, ◌*◌, ◌≤◌}
use mathlib.Core.Path.{◌≡◌, refl, sym, ap, ap₂, ◌∙◌}
use mathlib.Core.Bool.{true}
use mathlib.Core.List.{List, ◌++◌}
use native.Mathlib.Omega.{arith}
use lib.ListN.{length, take, drop, length-append}
use lib.Seq.{take_at}
use Rattle.base_number.specs.Number.{replaced_at, written}
use Rattle.base_number.proofs.Halves.{write-next}
use Rattle.base_buffer.proofs.Splicing.{move-copy}
use Rattle.machine.specs.Pairs.{every, pair_ok, kept, pairs_held, pair_list}
use Rattle.machine.proofs.PairLaws.{formed-is, count-is, held-is, few}
use Rattle.pairs_stored.specs.Stored.{pair_lengths, pair_bytes}
use Rattle.pairs_stored.proofs.StoredLaws.{length-lengths, length-bytes}
use Rattle.mem_edit.specs.declared.blocks.BlockSizes.{BlockSizes}
use Rattle.mem_edit.specs.Blocks.{kept_of, Writable, WrittenBlock, BlockReplaceable, ReplacedBlock}

module _ (a : List ℕ) (at : ℕ) (pairs content lengths : List ℕ) (pre : Writable a at pairs content lengths) where
  pub formed : every pair_ok (pair_list pairs) ≡ true
  formed = formed-is (pair_list pairs) pre.taken

  -- what is counted is what is written
  held-there : (held : ℕ) → held ≡ pairs_held (kept (pair_list pairs)) → held ≡ length (pair_bytes (kept_of pairs))
  held-there held e = e ∙ sym (length-bytes (kept_of pairs) ∙ held-is (pair_list pairs) pre.taken)

  count-there : (n : ℕ) → n ≡ length (kept (pair_list pairs)) → 2 * n ≡ length (pair_lengths (kept_of pairs))
  count-there n e = omega (arith, e, length-lengths (kept_of pairs), count-is (pair_list pairs) pre.taken)

  pub count-few : (n : ℕ) → n ≡ length (kept (pair_list pairs)) → n ≤ 8
  count-few n e = omega (arith, e, count-is (pair_list pairs) pre.taken, few (pair_list pairs) pre.taken)

  pub kept-room : (0 + length (pair_lengths (kept_of pairs)) ≤ length lengths) × (at + length (pair_bytes (kept_of pairs)) ≤ length a)
  kept-room =
      let r = pre.room in
      let l = pre.lengths-room in
      (omega (arith, length-lengths (kept_of pairs), few (pair_list pairs) pre.taken), omega (arith, length-bytes (kept_of pairs)))

  pub content-room : (held : ℕ) → held ≡ pairs_held (kept (pair_list pairs)) → at + held + length content ≤ length a
  content-room held e = let r = pre.room in omega (arith, held-there held e, length-bytes (kept_of pairs))

  pub block_written : (n held : ℕ) (a₁ a' lengths' : List ℕ) → n ≡ length (kept (pair_list pairs)) → held ≡ pairs_held (kept (pair_list pairs))
      → lengths' ≡ written lengths 0 (pair_lengths (kept_of pairs)) → a₁ ≡ written a at (pair_bytes (kept_of pairs)) → a' ≡ written a₁ (at + held) content
      → WrittenBlock a at pairs content (record { lengths = 2 * n; bytes = held + length content }) a' lengths'
  block_written n held a₁ a' lengths' n-is held-is' l e₁ e₂ =
      let m = kept_of pairs in
      let h = held-there held held-is' in
      let r = pre.room in
      record {
        bytes = ap (λ (k : ℕ). k + length content) (h ∙ length-bytes m);
        block =
            e₂ ∙ ap₂ (λ (b : List ℕ) (i : ℕ). replaced_at b (at + i) content (length content)) e₁ h
            ∙ write-next a at (pair_bytes m) content (length (pair_bytes m)) (length content) refl (omega (arith, length-bytes m))
            ∙ ap (λ (k : ℕ). replaced_at a at (pair_bytes m ++ content) (k + length content)) (sym h);
        lengths = ap (take (2 * n)) l ∙ take_at (pair_lengths m) _ (2 * n) (sym (count-there n n-is));
        few = let k = count-few n n-is in omega arith;
      }

-- the room for a block of n bytes in the place of the old one
pub record MoveRoom (a : List ℕ) (at old held n : ℕ) : Type 0 where
  pub block : at + n ≤ length a
  pub to : at + n + (held - (at + old)) ≤ length a
  pub from : at + old + (held - (at + old)) ≤ length a

-- what stands after the old block is moved, then the block is written
module _ (a : List ℕ) (at old held : ℕ) (pairs content lengths : List ℕ) (pre : BlockReplaceable a at old held pairs content lengths) where
  abbrev block : List ℕ
  block = pair_bytes (kept_of pairs) ++ content

  abbrev n : ℕ
  n = pairs_held (kept_of pairs) + length content

  pub move-room : MoveRoom a at old held n
  move-room =
      let w = pre.within in
      let i = pre.inside in
      let r = pre.room in
      record { block = omega arith; to = omega arith; from = omega arith }

  pub block-replaced : (a₁ a' lengths' : List ℕ) (r : BlockSizes) → a₁ ≡ replaced_at a (at + n) (take (held - (at + old)) (drop (at + old) a)) (held - (at + old))
      → WrittenBlock a₁ at pairs content r a' lengths' → ReplacedBlock a at old held pairs content r a' lengths'
  block-replaced a₁ a' lengths' r moved k =
      let l : length block ≡ n = length-append (pair_bytes (kept_of pairs)) content ∙ ap (λ (i : ℕ). i + length content) (length-bytes (kept_of pairs)) in
      record {
        bytes = k.bytes;
        block =
            move-copy a a₁ a' block at old held pre.within pre.inside (let q = pre.room in omega (arith, l))
            (moved ∙ ap (λ (i : ℕ). replaced_at a (at + i) (take (held - (at + old)) (drop (at + old) a)) (held - (at + old))) (sym l))
            (k.block ∙ ap (replaced_at a₁ at block) (k.bytes ∙ sym l));
        lengths = k.lengths;
        few = k.few;
      }
