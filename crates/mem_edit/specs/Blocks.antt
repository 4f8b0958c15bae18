-- The block of an object or an upload, written from the pairs of a request and data. Assumes nothing.
use Rattle.std.specs.Prelude.{ℕ, ◌+◌, ◌≤◌, ◌≡◌, true, List, ◌++◌, length, take}
use Rattle.base_number.specs.Number.{replaced_at}
use Rattle.base_buffer.specs.Buffer.{spliced}
use Rattle.machine.specs.Map.{Map}
use Rattle.machine.specs.Names.{Bytes}
use Rattle.machine.specs.Pairs.{pairs_ok, pair_map, pairs_held, pair_list}
use Rattle.pairs_stored.specs.Stored.{pair_lengths, pair_bytes}
use Rattle.mem_edit.specs.declared.blocks.BlockSizes.{BlockSizes}

-- what is kept of the pairs that these bytes stand for
abbrev pub kept_of : (pairs : Bytes) → Map Bytes Bytes
kept_of pairs = pair_map (pair_list pairs)

-- the pairs are taken, and there is room for them with the content from `at` on, and for their lengths
pub record Writable (a : List ℕ) (at : ℕ) (pairs content lengths : List ℕ) : Type 0 where
  pub taken : pairs_ok (pair_list pairs) ≡ true
  pub room : at + (pairs_held (kept_of pairs) + length content) ≤ length a
  pub lengths-room : 16 ≤ length lengths

-- they are written, the pairs ascending by key, their lengths at the front of lengths'
pub record WrittenBlock (a : List ℕ) (at : ℕ) (pairs content : List ℕ) (r : BlockSizes) (a' lengths' : List ℕ) : Type 0 where
  pub bytes : r.bytes ≡ pairs_held (kept_of pairs) + length content
  pub block : a' ≡ replaced_at a at (pair_bytes (kept_of pairs) ++ content) r.bytes
  pub lengths : take r.lengths lengths' ≡ pair_lengths (kept_of pairs)
  pub few : r.lengths ≤ 16

-- the pairs are taken, the old block is held, and there is room for another in its place, and for the lengths of the pairs
pub record BlockReplaceable (a : List ℕ) (at old held : ℕ) (pairs content lengths : List ℕ) : Type 0 where
  pub taken : pairs_ok (pair_list pairs) ≡ true
  pub within : at + old ≤ held
  pub inside : held ≤ length a
  pub room : held + (pairs_held (kept_of pairs) + length content) ≤ length a + old
  pub lengths-room : 16 ≤ length lengths

-- the old block gave way to them
pub record ReplacedBlock (a : List ℕ) (at old held : ℕ) (pairs content : List ℕ) (r : BlockSizes) (a' lengths' : List ℕ) : Type 0 where
  pub bytes : r.bytes ≡ pairs_held (kept_of pairs) + length content
  pub block : a' ≡ spliced a at old held (pair_bytes (kept_of pairs) ++ content)
  pub lengths : take r.lengths lengths' ≡ pair_lengths (kept_of pairs)
  pub few : r.lengths ≤ 16
