-- The row of an object, in the place of the one that gives way, and an object whose block stands after the last byte held. Assumes nothing.
use Rattle.std.specs.Prelude.{ℕ, ◌+◌, ◌-◌, ◌/◌, ◌≤◌, ◌<◌, ◌^◌, ◌≡◌, true, cond, List, eqb, length, take, drop}
use Rattle.base_md5.specs.declared.words.Digest.{Digest}
use Rattle.base_md5.specs.Md5.{bytes_of}
use Rattle.base_buffer.specs.Buffer.{spliced}
use Rattle.machine.specs.Map.{Map}
use Rattle.machine.specs.Names.{Bytes}
use Rattle.machine.specs.State.{Object, held, with_object}
use Rattle.machine.specs.Valid.{Valid}
use Rattle.pairs_stored.specs.Stored.{sum_of, pairs_at, block_ok}
use Rattle.mem_layout.specs.Rules.{plain_kind, joined_kind, parts_most}
use Rattle.mem_row.specs.declared.Head.{Head}
use Rattle.mem_row.specs.Row.{row_bytes}
use Rattle.mem_layout.specs.declared.Header.{Header}
use Rattle.mem_layout.specs.Header.{headed, header_at}
use Rattle.mem_layout.specs.Memory.{whole, state_of, row_etag}
use Rattle.mem_edit.specs.declared.rows.OldRow.{OldRow}
use Rattle.mem_edit.specs.Rows.{Replaceable}

-- the head of an object's row, where its block has `size` bytes
abbrev pub object_head : (stamp kind count : ℕ) (path lengths : Bytes) (size : ℕ) → Head
object_head stamp kind count path lengths size =
    record { size = size; number = 0; stamp = stamp; kind = kind; pairs = length lengths / 2; pathlen = length path; count = count }

-- the header with another count of objects
abbrev pub with_objects : Header → ℕ → Header
with_objects h n = record { arena = h.arena; next = h.next; objects = n; uploads = h.uploads; parts = h.parts }

-- t with an object's row in the place of the old one
abbrev pub row_put : (t : List ℕ) (at : ℕ) → OldRow → (used stamp kind count : ℕ) → Digest → (path lengths : Bytes) (size : ℕ) → List ℕ
row_put t at old used stamp kind count digest path lengths size =
    headed (spliced t at old.length used (row_bytes (object_head stamp kind count path lengths size) (bytes_of digest) path lengths))
    (with_objects (header_at t) ((header_at t).objects + 1 - old.rows))

-- it may stand there, and the objects are counted in two bytes
pub record RowPuttable (t : List ℕ) (at : ℕ) (old : OldRow) (used stamp kind count : ℕ) (path lengths : Bytes) (size : ℕ) : Type 0 where
  pub small : size < 256 ^ 4
  pub counted : (old.rows ≤ (header_at t).objects + 1) × ((header_at t).objects + 1 < 256 ^ 2)
  pub row : Replaceable t at old.length used (object_head stamp kind count path lengths size) path lengths

-- an object by what its row says of it
abbrev pub object_with : (stamp kind count : ℕ) → Digest → (content : List ℕ) → Map Bytes Bytes → Object
object_with stamp kind count digest content m =
    record { content = content; created = stamp; etag = row_etag kind (bytes_of digest) count; pairs = m }

-- an object with a plain etag
abbrev pub plain_with : (stamp : ℕ) (digest : Digest) (content : List ℕ) → Map Bytes Bytes → Object
plain_with stamp digest content m = object_with stamp plain_kind 0 digest content m

-- the `size` bytes after the last byte held
abbrev pub block_after_held : (t a : List ℕ) (size : ℕ) → List ℕ
block_after_held t a size = take size (drop (held (state_of t a)) a)

-- an object whose block they are: pairs of these lengths, then its data
abbrev pub object_after_held : (t a : List ℕ) (stamp kind count : ℕ) (digest : Digest) (lengths : List ℕ) (size : ℕ) → Object
object_after_held t a stamp kind count digest lengths size =
    object_with stamp kind count digest (drop (sum_of lengths) (block_after_held t a size)) (pairs_at lengths (block_after_held t a size))

-- the block has pairs of these lengths, and the state with this object keeps the rules and ceilings
pub record Movable (t a : List ℕ) (stamp kind count : ℕ) (digest : Digest) (path lengths : Bytes) (size : ℕ) : Type 0 where
  pub is_whole : whole t a ≡ true
  pub room : held (state_of t a) + size ≤ length a
  pub stored : block_ok lengths (block_after_held t a size) ≡ true
  pub kind-most : kind ≤ joined_kind
  pub count_most : count ≤ cond (eqb kind plain_kind) 0 parts_most
  pub valid : Valid (length a) (with_object (state_of t a) path (object_after_held t a stamp kind count digest lengths size))
