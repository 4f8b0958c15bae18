-- `call_uploads::measuring::put_note` meets its contract: two bytes, and two more after them. Assumes nothing.
use Prim.Native.Nat.{◌+◌, ◌*◌}
use mathlib.Core.Path.{refl}
use native.Mathlib.Omega.{arith}
use Rattle.base_number.specs.Number.{le}
use Rattle.base_number.proofs.NumberLaws.{length-le}
use Rattle.call_uploads.proofs.RecordBytes.{next_field}
use Rattle.call_uploads.proofs.measuring.put_note.Goals as goal

pub returns : goal.returns
returns c =
    let a = c.args in
    next_field a.notes.now _ _ (le 2 a.at) (le 2 a.parts) (4 * a.k) 2 2 (4 * a.k + 2) (length-le 2 a.at) (let p = c.requires.0 in omega arith) refl c.put_u16.ensures c.put_u16-2.ensures
