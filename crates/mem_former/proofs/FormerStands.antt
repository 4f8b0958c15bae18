-- The layout before E6, written: the same bytes as today's of a state without pairs; what is whole was written so, and what was written so is whole. Assumes nothing.
use Prim.Native.Nat.{ℕ}
use mathlib.Core.Path.{◌≡◌, refl, sym, ap₂}
use mathlib.Core.Bool.{Bool, true, false}
use mathlib.Core.List.{List, [], ◌∷◌, ◌++◌, map, append_assoc, append-nil}
use lib.Dec.{eqb}
use lib.ListN.{length}
use Rattle.base_number.specs.Number.{AreBytes}
use Rattle.machine.specs.Map.{Map, Every}
use Rattle.machine.specs.Names.{Bytes}
use Rattle.machine.specs.Etags.{Etag, absent, plain, joined}
use Rattle.machine.specs.State.{Object, Part, Upload, State}
use Rattle.pairs_stored.specs.Stored.{pair_lengths, pair_bytes}
use Rattle.mem_row.specs.Fields.{fields}
use Rattle.mem_row.specs.Row.{Row, encode_rows, contents_of}
use Rattle.mem_layout.specs.Header.{header_bytes, encode_header}
use Rattle.mem_layout.specs.Memory.{row_kind, object_row, upload_row, object_rows, part_rows, upload_rows, rows_of, former_tables_length, StandsOf}
use Rattle.mem_former.specs.FormerRow.{FormerRow}
use Rattle.mem_former.specs.FormerMemory.{former_objects_of, former_nest, former_state, whole_before_e6}
use Rattle.mem_former.specs.FormerStands.{former_kind, former_object_row, former_upload_row, rows_of_objects, rows_of_parts, rows_of_uploads, former_rows_of, former_header_bytes, former_rows_bytes, former_data, WithoutPairs, FormerStands}
use Rattle.mem_former.proofs.RowsSame.{today, bytes_same}
use Rattle.mem_former.proofs.FormerWhole.{former-stands-same}

-- The state has no pairs -----------------------------------------------------------------------------------------------------------

objects-without : (rs : List FormerRow) → Every (λ p x. x.pairs ≡ []) (former_objects_of rs)
unfolding former_objects_of
objects-without [] = tt
objects-without (r ∷ rs) = (refl, objects-without rs)

uploads-without : (rs : List FormerRow) → Every (λ u x. x.pairs ≡ []) (former_nest rs).uploads
unfolding former_nest
uploads-without [] = tt
uploads-without (r ∷ rs) = go (eqb r.kind 2) refl (uploads-without rs)
  where
    go : (k : Bool) → eqb r.kind 2 ≡ k → Every (λ u x. x.pairs ≡ []) (former_nest rs).uploads → Every (λ u x. x.pairs ≡ []) (former_nest (r ∷ rs)).uploads
    go true e v = rw e (refl, v)
    go false e v = rw e v

pub former-without : (t a : List ℕ) → WithoutPairs (former_state t a)
unfolding former_state
former-without t a = record { objects = objects-without _; uploads = uploads-without _ }

-- The same bytes --------------------------------------------------------------------------------------------------------------------

kind-same : (e : Etag) → row_kind e ≡ former_kind e
kind-same absent = refl
kind-same (plain d) = refl
kind-same (joined d n) = refl

object-row : (p : Bytes) (x : Object) → x.pairs ≡ [] → object_row p x ≡ today (former_object_row p x)
unfolding pair_lengths pair_bytes
object-row p x e = rw (e, kind-same x.etag)

upload-row : (u : ℕ) (x : Upload) → x.pairs ≡ [] → upload_row u x ≡ today (former_upload_row u x)
unfolding pair_lengths pair_bytes
upload-row u x e = rw e

object-rows : (m : Map Bytes Object) → Every (λ p x. x.pairs ≡ []) m → object_rows m ≡ map today (rows_of_objects m)
unfolding object_rows rows_of_objects
object-rows [] w = refl
object-rows (e ∷ m) w = ap₂ (λ (r : Row) (rs : List Row). r ∷ rs) (object-row e.0 e.1 w.0) (object-rows m w.1)

part-rows : (m : Map ℕ Part) → part_rows m ≡ map today (rows_of_parts m)
unfolding part_rows rows_of_parts
part-rows [] = refl
part-rows (e ∷ m) = rw (part-rows m)

map-append : (xs ys : List FormerRow) → map today (xs ++ ys) ≡ map today xs ++ map today ys
map-append [] ys = refl
map-append (x ∷ xs) ys = rw (map-append xs ys)

upload-rows : (m : Map ℕ Upload) → Every (λ u x. x.pairs ≡ []) m → upload_rows m ≡ map today (rows_of_uploads m)
unfolding upload_rows rows_of_uploads
upload-rows [] w = refl
upload-rows (e ∷ m) w =
    ap₂ (λ (r : Row) (rs : List Row). r ∷ rs) (upload-row e.0 e.1 w.0)
    (rw (part-rows e.1.parts, upload-rows m w.1) (sym (map-append (rows_of_parts e.1.parts) (rows_of_uploads m))))

rows-of : (s : State) → WithoutPairs s → rows_of s ≡ map today (former_rows_of s)
unfolding rows_of former_rows_of
rows-of s w = rw (object-rows s.O w.objects, upload-rows s.U w.uploads) (sym (map-append (rows_of_objects s.O) (rows_of_uploads s.U)))

rows-bytes : (rs : List FormerRow) → encode_rows (map today rs) ≡ former_rows_bytes rs
unfolding encode_rows former_rows_bytes
rows-bytes [] = refl
rows-bytes (r ∷ rs) = ap₂ (λ (x y : List ℕ). x ++ y) (bytes_same r) (rows-bytes rs)

rows-data : (rs : List FormerRow) → contents_of (map today rs) ≡ former_data rs
unfolding contents_of former_data
rows-data [] = refl
rows-data (r ∷ rs) = rw (rows-data rs)

header-bytes : (A : ℕ) (s : State) → encode_header A s ≡ former_header_bytes A s
unfolding header_bytes fields former_header_bytes
header-bytes A s = simp (append_assoc, append-nil)

-- a state without pairs is the same bytes in both layouts
module _ (t a : List ℕ) (s : State) where
  pub stands-before : WithoutPairs s → StandsOf former_tables_length t a s → FormerStands t a s
  stands-before w h =
      record {
        size = h.size;
        small = h.small;
        valid = h.valid;
        no_pairs = w;
        tables-free = h.tables-free;
        tables = rw (← (header-bytes (length a) s), ← (rows-bytes (former_rows_of s)), ← (rows-of s w)) h.tables;
        arena-free = h.arena-free;
        arena = rw (← (rows-data (former_rows_of s)), ← (rows-of s w)) h.arena;
      }

  pub stands-today : FormerStands t a s → StandsOf former_tables_length t a s
  stands-today h =
      record {
        size = h.size;
        small = h.small;
        valid = h.valid;
        tables-free = h.tables-free;
        tables = rw (header-bytes (length a) s, rows-of s h.no_pairs, rows-bytes (former_rows_of s)) h.tables;
        arena-free = h.arena-free;
        arena = rw (rows-of s h.no_pairs, rows-data (former_rows_of s)) h.arena;
      }

-- what was whole before E6 is the bytes of the state that it stood for
pub former-written : (t a : List ℕ) → AreBytes t → whole_before_e6 t a ≡ true → FormerStands t a (former_state t a)
former-written t a b w = stands-before t a (former_state t a) (former-without t a) (former-stands-same t a b w)
