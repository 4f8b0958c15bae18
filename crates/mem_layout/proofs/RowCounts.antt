-- How many rows a state has, and how many bytes they hold. Assumes nothing.
use Prim.Native.Nat.{ℕ, ◌+◌}
use mathlib.Core.Path.{◌≡◌, refl, ap, ◌∙◌}
use mathlib.Core.List.{List, [], ◌∷◌, ◌++◌}
use native.Mathlib.Omega.{arith}
use lib.ListN.{length, length-append}
use Rattle.machine.specs.Map.{Map, total}
use Rattle.machine.specs.State.{Object, Part, Upload, State, object_length, part_length, upload_length, parts_in, held}
use Rattle.pairs_stored.specs.Stored.{pair_bytes}
use Rattle.pairs_stored.proofs.StoredLaws.{length-bytes}
use Rattle.mem_row.specs.Row.{contents_of}
use Rattle.mem_row.proofs.RowLaws.{contents-append}
use Rattle.mem_layout.specs.Memory.{object_rows, part_rows, upload_rows, rows_of}
use Rattle.mem_layout.proofs.ObjectLaws.{length-object-rows}
use Rattle.mem_layout.proofs.UploadLaws.{length-upload-rows}

-- an object's block: its pairs, then its data
pub length-block : (x : Object) → length (pair_bytes x.pairs ++ x.content) ≡ object_length x
length-block x = length-append (pair_bytes x.pairs) x.content ∙ ap (λ (n : ℕ). n + length x.content) (length-bytes x.pairs)

pub length-object-contents : (m : Map (List ℕ) Object) → length (contents_of (object_rows m)) ≡ total object_length m
unfolding object_rows contents_of
length-object-contents [] = refl
length-object-contents (e ∷ m) =
    omega (arith, length-append (pair_bytes e.1.pairs ++ e.1.content) (contents_of (object_rows m)), length-block e.1, length-object-contents m)

pub length-part-contents : (ps : Map ℕ Part) → length (contents_of (part_rows ps)) ≡ total part_length ps
unfolding part_rows contents_of
length-part-contents [] = refl
length-part-contents (e ∷ ps) = omega (arith, length-append e.1.content (contents_of (part_rows ps)), length-part-contents ps)

pub length-upload-contents : (us : Map ℕ Upload) → length (contents_of (upload_rows us)) ≡ total upload_length us
unfolding upload_rows contents_of
length-upload-contents [] = refl
length-upload-contents (e ∷ us) =
    omega (
      arith,
      length-append (pair_bytes e.1.pairs) (contents_of (part_rows e.1.parts ++ upload_rows us)),
      length-bytes e.1.pairs,
      ap length (contents-append (part_rows e.1.parts) (upload_rows us)),
      length-append (contents_of (part_rows e.1.parts)) (contents_of (upload_rows us)),
      length-part-contents e.1.parts,
      length-upload-contents us,
    )

pub length-contents : (s : State) → length (contents_of (rows_of s)) ≡ held s
unfolding rows_of held
length-contents s =
    omega (
      arith,
      ap length (contents-append (object_rows s.O) (upload_rows s.U)),
      length-append (contents_of (object_rows s.O)) (contents_of (upload_rows s.U)),
      length-object-contents s.O,
      length-upload-contents s.U,
    )

pub length-rows : (s : State) → length (rows_of s) ≡ length s.O + (length s.U + total parts_in s.U)
unfolding rows_of
length-rows s = omega (arith, length-append (object_rows s.O) (upload_rows s.U), length-object-rows s.O, length-upload-rows s.U)
