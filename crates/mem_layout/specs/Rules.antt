-- The rules by which rows follow one another: objects ascend by path; uploads ascend by number, each with its parts after it,
-- ascending by part number. A field that a kind of row does not use is 0. `most` is how many pairs a row may have, by the layout. Assumes nothing.
use Rattle.std.specs.Prelude.{ℕ, Bool, true, ◌&&◌, cond, List, [], ◌∷◌, leb, ltb, eqb, replicate}
use Rattle.base_order.specs.Order.{is_below, same}
use Rattle.machine.specs.Names.{stored_path_ok, stored_part_ok}
use Rattle.pairs_stored.specs.Stored.{sum_of, block_ok}
use Rattle.mem_row.specs.declared.Head.{Head}
use Rattle.mem_row.specs.Row.{Row, head_of}
use Rattle.mem_layout.specs.declared.Mark.{Mark}

-- the kinds of rows
abbrev pub plain_kind : ℕ
plain_kind = 0

abbrev pub joined_kind : ℕ
joined_kind = 1

abbrev pub upload_kind : ℕ
upload_kind = 2

abbrev pub part_kind : ℕ
part_kind = 3

-- the most objects, open uploads, and parts over all uploads
abbrev pub objects_most : ℕ
objects_most = 256

abbrev pub uploads_most : ℕ
uploads_most = 16

abbrev pub parts_most : ℕ
parts_most = 256

-- every test of a list passes
unfoldable pub all : List Bool → Bool
all [] = true
all (b ∷ bs) = b && all bs

-- a digest that is not used
abbrev pub no_digest : List ℕ
no_digest = replicate 16 0

-- E6: the pairs of a row, at most as many as it may have by the layout: its block begins with them, and they keep their rule
unfoldable pub pairs_rule : (most : ℕ) → Head → (lengths content : List ℕ) → Bool
pairs_rule most h lengths content = leb h.pairs most && block_ok lengths content

-- an object's row, after one whose path is `last` ([] for none): a plain etag has no count, a joined one at most that of all parts
unfoldable pub object_rule : (most : ℕ) (last : List ℕ) → Head → (path lengths content : List ℕ) → Bool
object_rule most last h path lengths content =
    all
    (eqb h.number 0
    ∷ leb 1 h.stamp
    ∷ leb h.kind joined_kind
    ∷ leb h.count (cond (eqb h.kind plain_kind) 0 parts_most)
    ∷ stored_path_ok path
    ∷ is_below last path
    ∷ pairs_rule most h lengths content
    ∷ [])

abbrev pub object_ok : (most : ℕ) (last : List ℕ) → Row → Bool
object_ok most last r = object_rule most last (head_of r) r.path r.lengths r.content

abbrev pub object_next : (last : List ℕ) → Row → List ℕ
object_next last r = r.path

-- an upload's row, after upload m .upload (0 for none), with a number below N; its block is its pairs and no more
unfoldable pub upload_rule : (most N : ℕ) → Mark → Head → (digest path lengths content : List ℕ) → Bool
upload_rule most N m h digest path lengths content =
    all
    (eqb h.count 0
    ∷ leb 1 h.stamp
    ∷ ltb m.upload h.number
    ∷ ltb h.number N
    ∷ stored_path_ok path
    ∷ same digest no_digest
    ∷ pairs_rule most h lengths content
    ∷ eqb h.size (sum_of lengths)
    ∷ [])

-- a part's row, after part m .part (0 for none) of upload m .upload
unfoldable pub part_rule : Mark → Head → Bool
part_rule m h =
    all
    (eqb h.kind part_kind
    ∷ eqb h.stamp 0
    ∷ eqb h.count 0
    ∷ eqb h.pathlen 0
    ∷ eqb h.pairs 0
    ∷ leb 1 m.upload
    ∷ ltb m.part h.number
    ∷ stored_part_ok h.number
    ∷ [])

-- a row after the objects: an upload's or a part's
unfoldable pub entry_rule : (most N : ℕ) → Mark → Head → (digest path lengths content : List ℕ) → Bool
entry_rule most N m h digest path lengths content =
    cond (eqb h.kind upload_kind) (upload_rule most N m h digest path lengths content) (part_rule m h)

unfoldable pub entry_ok : (most N : ℕ) → Mark → Row → Bool
entry_ok most N m r = entry_rule most N m (head_of r) r.digest r.path r.lengths r.content

unfoldable pub mark_after : Mark → Head → Mark
mark_after m h = cond (eqb h.kind upload_kind) (record { upload = h.number; part = 0 }) (record { upload = m.upload; part = h.number })

abbrev pub entry_next : Mark → Row → Mark
entry_next m r = mark_after m (head_of r)

abbrev pub start : Mark
start = record { upload = 0; part = 0 }
