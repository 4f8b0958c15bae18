-- The layout before E6, by computation: M7's bytes, written out as docs/LAYOUT.md has them, before and after the COMMIT. Assumes nothing.
use Rattle.std.specs.Prelude.{ℕ, ◌≡◌, refl, true, List, [], ◌∷◌, ◌++◌, length, replicate}
use Rattle.base_number.specs.Number.{le, from_le}
use Rattle.machine.specs.Names.{Bytes, path_ok, stored_path_ok, number_ok}
use Rattle.machine.specs.Etags.{joined}
use Rattle.machine.specs.State.{State}
use Rattle.mem_layout.specs.Rules.{all}
use Rattle.mem_former.specs.FormerRow.{former_row_bytes, former_row_at, former_inside, former_rows_at, tables_after, arena_after, former_good}
use Rattle.mem_former.specs.FormerMemory.{former_object_ok, former_upload_ok, former_part_ok, former_entry_ok, former_entry_next, former_objects_of, former_nest, former_opens, former_object_rows, former_upload_tables, former_upload_arena, former_upload_rows, former_state, former_header_ok, whole_by, whole_before_e6}
use Rattle.mem_former.specs.FormerStands.{rows_of_objects, rows_of_parts, rows_of_uploads, former_rows_of, former_header_bytes, former_rows_bytes}

-- the digests of "A" and "B", and that of these two, "B" first
abbrev digest_a : Bytes
digest_a = 127 ∷ 197 ∷ 98 ∷ 112 ∷ 231 ∷ 167 ∷ 15 ∷ 168 ∷ 26 ∷ 89 ∷ 53 ∷ 183 ∷ 46 ∷ 172 ∷ 190 ∷ 41 ∷ []

abbrev digest_b : Bytes
digest_b = 157 ∷ 94 ∷ 214 ∷ 120 ∷ 254 ∷ 87 ∷ 188 ∷ 202 ∷ 97 ∷ 1 ∷ 64 ∷ 149 ∷ 122 ∷ 250 ∷ 181 ∷ 113 ∷ []

abbrev digest_ba : Bytes
digest_ba = 224 ∷ 16 ∷ 17 ∷ 124 ∷ 150 ∷ 23 ∷ 85 ∷ 59 ∷ 240 ∷ 185 ∷ 85 ∷ 108 ∷ 15 ∷ 91 ∷ 84 ∷ 31 ∷ []

-- 127 bytes: A = 64, N = 2, one upload of "r" at 7, its parts 1 and 2
abbrev open_tables : List ℕ
open_tables =
    (64 ∷ 0 ∷ 0 ∷ 0 ∷ 2 ∷ 0 ∷ 0 ∷ 0 ∷ 0 ∷ 0 ∷ 0 ∷ 0 ∷ 0 ∷ 0 ∷ 1 ∷ 0 ∷ 2 ∷ 0 ∷ [])
    ++ (0 ∷ 0 ∷ 0 ∷ 0 ∷ 1 ∷ 0 ∷ 0 ∷ 0 ∷ 7 ∷ 0 ∷ 0 ∷ 0 ∷ 0 ∷ 0 ∷ 0 ∷ 0 ∷ 2 ∷ 1 ∷ 0 ∷ 0 ∷ [])
    ++ replicate 16 0
    ++ (114 ∷ [])
    ++ (1 ∷ 0 ∷ 0 ∷ 0 ∷ 1 ∷ 0 ∷ 0 ∷ 0 ∷ 0 ∷ 0 ∷ 0 ∷ 0 ∷ 0 ∷ 0 ∷ 0 ∷ 0 ∷ 3 ∷ 0 ∷ 0 ∷ 0 ∷ [])
    ++ digest_a
    ++ (1 ∷ 0 ∷ 0 ∷ 0 ∷ 2 ∷ 0 ∷ 0 ∷ 0 ∷ 0 ∷ 0 ∷ 0 ∷ 0 ∷ 0 ∷ 0 ∷ 0 ∷ 0 ∷ 3 ∷ 0 ∷ 0 ∷ 0 ∷ [])
    ++ digest_b

abbrev open_arena : List ℕ
open_arena = 65 ∷ 66 ∷ []

abbrev open_state : State
open_state =
    record {
      O = [];
      U = (
        1,
        record {
          path = 114 ∷ [];
          started = 7;
          pairs = [];
          parts = (1, record { content = 65 ∷ []; digest = digest_a }) ∷ (2, record { content = 66 ∷ []; digest = digest_b }) ∷ [];
        },
      ) ∷ [];
      N = 2;
    }

-- 55 bytes: the object "r" created at 7, joined of 2 parts
abbrev joined_tables : List ℕ
joined_tables =
    (64 ∷ 0 ∷ 0 ∷ 0 ∷ 2 ∷ 0 ∷ 0 ∷ 0 ∷ 0 ∷ 0 ∷ 0 ∷ 0 ∷ 1 ∷ 0 ∷ 0 ∷ 0 ∷ 0 ∷ 0 ∷ [])
    ++ (2 ∷ 0 ∷ 0 ∷ 0 ∷ 0 ∷ 0 ∷ 0 ∷ 0 ∷ 7 ∷ 0 ∷ 0 ∷ 0 ∷ 0 ∷ 0 ∷ 0 ∷ 0 ∷ 1 ∷ 1 ∷ 2 ∷ 0 ∷ [])
    ++ digest_ba
    ++ (114 ∷ [])

abbrev joined_arena : List ℕ
joined_arena = 66 ∷ 65 ∷ []

abbrev joined_state : State
joined_state = record { O = (114 ∷ [], record { content = joined_arena; created = 7; etag = joined digest_ba 2; pairs = [] }) ∷ []; U = []; N = 2 }

-- these are the bytes of the two states
pub open-written : former_header_bytes 64 open_state ++ former_rows_bytes (former_rows_of open_state) ≡ open_tables
unfolding former_header_bytes former_rows_bytes former_rows_of rows_of_objects rows_of_uploads rows_of_parts former_row_bytes le
open-written = refl

pub joined-written : former_header_bytes 64 joined_state ++ former_rows_bytes (former_rows_of joined_state) ≡ joined_tables
unfolding former_header_bytes former_rows_bytes former_rows_of rows_of_objects rows_of_uploads rows_of_parts former_row_bytes le
joined-written = refl

-- what the bytes stand for, whatever the free ones are
pub open-state : (free free' : List ℕ) → former_state (open_tables ++ free) (open_arena ++ free') ≡ open_state
unfolding former_state former_object_rows former_upload_tables former_upload_arena former_upload_rows former_objects_of former_nest former_row_at former_rows_at tables_after arena_after from_le
open-state free free' = refl

pub joined-state : (free free' : List ℕ) → former_state (joined_tables ++ free) (joined_arena ++ free') ≡ joined_state
unfolding former_state former_object_rows former_upload_tables former_upload_arena former_upload_rows former_objects_of former_nest former_row_at former_rows_at tables_after arena_after from_le
joined-state free free' = refl

-- they are whole in tables of 53,842 bytes and an arena of 64
pub open-whole : (free free' : List ℕ) → length free ≡ 53715 → length free' ≡ 62 → whole_before_e6 (open_tables ++ free) (open_arena ++ free') ≡ true
unfolding whole_before_e6 whole_by former_header_ok former_object_ok former_upload_ok former_part_ok former_entry_ok former_entry_next former_opens former_good former_inside former_upload_tables former_upload_arena former_upload_rows former_row_at former_rows_at tables_after arena_after from_le all stored_path_ok path_ok number_ok
open-whole free free' e e' = rw (e, e')

pub joined-whole : (free free' : List ℕ) → length free ≡ 53787 → length free' ≡ 62 → whole_before_e6 (joined_tables ++ free) (joined_arena ++ free') ≡ true
unfolding whole_before_e6 whole_by former_header_ok former_object_ok former_upload_ok former_part_ok former_entry_ok former_entry_next former_opens former_good former_inside former_upload_tables former_upload_arena former_upload_rows former_row_at former_rows_at tables_after arena_after from_le all stored_path_ok path_ok number_ok
joined-whole free free' e e' = rw (e, e')
