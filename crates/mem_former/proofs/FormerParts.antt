-- E7: "such a store is still whole": memory that was whole is whole, and stands for what it stood for. Assumes nothing.
use Prim.Native.Nat.{ℕ, ◌≤◌}
use mathlib.Core.Path.{◌≡◌, refl}
use mathlib.Core.Bool.{true}
use mathlib.Core.List.{List, ◌++◌}
use lib.ListN.{length}
use Rattle.base_number.specs.Number.{AreBytes}
use Rattle.machine.specs.Names.{stored_part_ok}
use Rattle.machine.specs.State.{State}
use Rattle.machine.specs.OlderParts.{Older}
use Rattle.machine.proofs.OlderParts.{older-valid}
use Rattle.mem_row.specs.Row.{encode_rows, contents_of}
use Rattle.mem_layout.specs.Header.{encode_header}
use Rattle.mem_layout.specs.Rules.{part_rule, entry_rule, entry_ok}
use Rattle.mem_layout.specs.Memory.{rows_of, tables_length, arena_most, uploads_good, whole_of, whole, state_of, Stands}
use Rattle.mem_layout.proofs.StandsLaws.{stands-whole, stands-state}
use Rattle.mem_former.specs.FormerMemory.{former_state, whole_before_e6}
use Rattle.mem_former.specs.FormerStands.{former_rows_of, former_header_bytes, former_rows_bytes, former_data, WithoutPairs, FormerStands}
use Rattle.mem_former.specs.FormerParts.{part_rule_before_e7, whole_before_e7}
use Rattle.mem_former.proofs.FormerBack.{written-whole, written-state}

-- what was whole before E7 is whole, and nothing else; what it stands for, `state_of`, asks no rule of part numbers
pub parts_whole : (t a : List ℕ) → whole t a ≡ whole_before_e7 t a
unfolding whole_of whole_before_e7 uploads_good entry_ok entry_rule part_rule part_rule_before_e7 stored_part_ok
parts_whole t a = refl

-- memory with the rows of an older store's state, as calls of before E7 wrote them, is whole and stands for that state
pub older-whole : {t a : List ℕ} {s : State} → Older (length a) s → length t ≡ tables_length → length a ≤ arena_most →
    (tables-free arena-free : List ℕ) → t ≡ encode_header (length a) s ++ (encode_rows (rows_of s) ++ tables-free) → a ≡ contents_of (rows_of s) ++ arena-free →
    (whole t a ≡ true) × (state_of t a ≡ s)
older-whole {t} {a} {s} o size small tables-free arena-free tables arena =
    let h : Stands t a s = record { size = size; small = small; valid = older-valid o; tables-free = tables-free; tables = tables; arena-free = arena-free; arena = arena } in
    (stands-whole t a s h, stands-state t a s h)

-- the same of the layout before E6, of a state without pairs
pub older-whole-before : {t a : List ℕ} {s : State} → Older (length a) s → WithoutPairs s → AreBytes t → length t ≡ 53842 → length a ≤ 1048576 →
    (tables-free arena-free : List ℕ) → t ≡ former_header_bytes (length a) s ++ (former_rows_bytes (former_rows_of s) ++ tables-free) → a ≡ former_data (former_rows_of s) ++ arena-free →
    (whole_before_e6 t a ≡ true) × (former_state t a ≡ s)
older-whole-before {t} {a} {s} o w b size small tables-free arena-free tables arena =
    let h : FormerStands t a s = record { size = size; small = small; valid = older-valid o; no_pairs = w; tables-free = tables-free; tables = tables; arena-free = arena-free; arena = arena } in
    (written-whole t a s b h, written-state t a s b h)
