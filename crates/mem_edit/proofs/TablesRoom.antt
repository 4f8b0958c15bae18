-- The rows of a valid state fit the tables. Assumes nothing.
use Prim.Native.Nat.{ℕ, ◌+◌, ◌*◌, ◌≤◌}
use mathlib.Core.Path.{ap}
use mathlib.Core.List.{[], ◌∷◌, ◌++◌}
use native.Mathlib.Omega.{arith}
use lib.ListN.{length, length-append}
use Rattle.machine.specs.Map.{Map, Every, total}
use Rattle.machine.specs.Names.{Bytes}
use Rattle.machine.specs.State.{Object, Part, Upload, State, parts_in}
use Rattle.machine.specs.Valid.{ObjectOk, UploadOk, Valid}
use Rattle.machine.proofs.PairLaws.{kept-few}
use Rattle.mem_row.specs.Row.{encode_row, encode_rows, head_length, longest_row, EncodableAll}
use Rattle.mem_row.proofs.RowLaws.{length-row, encode-append, encodable-left, encodable-right}
use Rattle.mem_layout.specs.Header.{header_length}
use Rattle.mem_layout.specs.Memory.{object_row, object_rows, upload_row, part_row, part_rows, upload_rows, rows_of, arena_most, tables_length}
use Rattle.mem_layout.proofs.TestLaws.{stored-path-length}
use Rattle.mem_layout.proofs.StandsLaws.{rows-encodable}

objects-most : (m : Map Bytes Object) → EncodableAll (object_rows m) → Every ObjectOk m → length (encode_rows (object_rows m)) ≤ longest_row * length m
unfolding object_rows encode_rows
objects-most [] f v = omega arith
objects-most (e ∷ m) f v =
    let q = (stored-path-length e.0 v.0.path).below in
    let n = kept-few e.1.pairs v.0.pairs in
    omega (arith, length-append (encode_row (object_row e.0 e.1)) (encode_rows (object_rows m)), length-row _ f.0, objects-most m f.1 v.1)

parts-most : (ps : Map ℕ Part) → EncodableAll (part_rows ps) → length (encode_rows (part_rows ps)) ≤ head_length * length ps
unfolding part_rows encode_rows
parts-most [] f = omega arith
parts-most (e ∷ ps) f =
    omega (arith, length-append (encode_row (part_row e.0 e.1)) (encode_rows (part_rows ps)), length-row _ f.0, parts-most ps f.1)

uploads-most : (N : ℕ) (us : Map ℕ Upload) → EncodableAll (upload_rows us) → Every (UploadOk N) us
    → length (encode_rows (upload_rows us)) ≤ longest_row * length us + head_length * total parts_in us
unfolding upload_rows encode_rows
uploads-most N [] f v = omega arith
uploads-most N (e ∷ us) f v =
    let q = (stored-path-length e.1.path v.0.path).below in
    let n = kept-few e.1.pairs v.0.pairs in
    let ps = part_rows e.1.parts in
    omega (
      arith,
      length-append (encode_row (upload_row e.0 e.1)) (encode_rows (ps ++ upload_rows us)),
      length-row _ f.0,
      ap length (encode-append ps (upload_rows us)),
      length-append (encode_rows ps) (encode_rows (upload_rows us)),
      parts-most e.1.parts (encodable-left ps (upload_rows us) f.1),
      uploads-most N us (encodable-right ps (upload_rows us) f.1) v.1,
    )

pub tables-fit : (A : ℕ) (s : State) → A ≤ arena_most → Valid A s → header_length + length (encode_rows (rows_of s)) ≤ tables_length
unfolding rows_of
tables-fit A s l v =
    let f = rows-encodable A s l v in
    let o = v.paths in
    let u = v.opens in
    let p = v.parts in
    omega (
      arith,
      ap length (encode-append (object_rows s.O) (upload_rows s.U)),
      length-append (encode_rows (object_rows s.O)) (encode_rows (upload_rows s.U)),
      objects-most s.O (encodable-left (object_rows s.O) (upload_rows s.U) f) v.object,
      uploads-most s.N s.U (encodable-right (object_rows s.O) (upload_rows s.U) f) v.upload,
    )
