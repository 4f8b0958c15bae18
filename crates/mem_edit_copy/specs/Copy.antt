-- What a copy reads, and what it may do. Assumes nothing.
use Rattle.std.specs.Prelude.{ℕ, ◌+◌, ◌≡◌, true, List, [], length, drop}
use Rattle.std.proofs.Math.Option.{Option, none, some}
use Rattle.base_number.specs.Number.{written}
use Rattle.base_md5.specs.declared.words.Digest.{Digest}
use Rattle.base_md5.specs.Md5.{bytes_of}
use Rattle.base_order.specs.Order.{by_bytes}
use Rattle.machine.specs.Map.{Map, is_some, lookup}
use Rattle.machine.specs.Names.{Bytes}
use Rattle.machine.specs.Pairs.{pairs_held}
use Rattle.machine.specs.State.{Object, State, with_object}
use Rattle.machine.specs.Valid.{Valid}
use Rattle.mem_row.specs.declared.Head.{Head}
use Rattle.mem_row.specs.Row.{head_at, row_bytes}
use Rattle.mem_layout.specs.Rules.{plain_kind}
use Rattle.mem_layout.specs.Memory.{whole, state_of}
use Rattle.mem_find.specs.declared.Lookup.{Lookup}
use Rattle.mem_find.specs.declared.RowPlace.{RowPlace}
use Rattle.mem_find.specs.Places.{object_place}
use Rattle.mem_find.specs.Known.{ObjectPlaced}
use Rattle.mem_edit.specs.Objects.{plain_with}

abbrev pub content_in : Option Object → Bytes
content_in none = []
content_in (some x) = x.content

abbrev pub pairs_in : Option Object → Map Bytes Bytes
pairs_in none = []
pairs_in (some x) = x.pairs

-- the data and the pairs of the object at a path
unfoldable pub content_at : State → Bytes → Bytes
content_at s p = content_in (lookup by_bytes p s.O)

unfoldable pub kept_at : State → Bytes → Map Bytes Bytes
kept_at s p = pairs_in (lookup by_bytes p s.O)

-- how many bytes its block has
abbrev pub block_length : State → Bytes → ℕ
block_length s p = pairs_held (kept_at s p) + length (content_at s p)

-- the head of a row with another stamp and a plain etag, and t with that of the row at `at` written so
abbrev pub restamped_head : (stamp : ℕ) → Head → Head
restamped_head stamp h =
    record { size = h.size; number = 0; stamp = stamp; kind = plain_kind; pairs = h.pairs; pathlen = h.pathlen; count = 0 }

abbrev pub restamped : (t : List ℕ) (at stamp : ℕ) → Digest → List ℕ
restamped t at stamp digest = written t at (row_bytes (restamped_head stamp (head_at (drop at t))) (bytes_of digest) [] [])

-- the object at the source, copied to the destination; E6: with its pairs
abbrev pub copied : (stamp : ℕ) → Digest → (source destination : Bytes) → State → State
copied stamp digest source destination s = with_object s destination (plain_with stamp digest (content_at s source) (kept_at s source))

-- the source is there, and the state with the copy keeps the rules and ceilings
pub record Copiable (t a : List ℕ) (stamp : ℕ) (digest : Digest) (source destination : Bytes) : Type 0 where
  pub is_whole : whole t a ≡ true
  pub there : is_some (lookup by_bytes source (state_of t a).O) ≡ true
  pub valid : Valid (length a) (copied stamp digest source destination (state_of t a))

-- `from` and `place` are what the lookups of source and destination answer, and `end` is the end of the rows
pub record CopyPlaced (t a : List ℕ) (source destination : Bytes) (from place : Lookup) (end : RowPlace) : Type 0 where
  pub source-place : from ≡ object_place (state_of t a) source
  pub destination-place : ObjectPlaced t a destination place end
