-- The blocks of two objects stand apart. Assumes nothing.
use Prim.Native.Nat.{◌+◌, ◌≤◌}
use mathlib.Core.Path.{◌≡◌, refl}
use mathlib.Core.Logic.{◌⊎◌, ⊎_map}
use mathlib.Core.List.{[]}
use mathlib.Core.Option.{Option, none, some}
use native.Mathlib.Omega.{arith}
use lib.ListN.{length, take, length-append}
use Rattle.base_order.specs.Order.{by_bytes}
use Rattle.base_order.proofs.OrderLaws.{bytes}
use Rattle.machine.specs.Map.{lookup, place, total, owed}
use Rattle.machine.specs.Names.{Bytes}
use Rattle.machine.specs.State.{Object, State, object_length}
use Rattle.machine.proofs.MapSums.{total-apart}
use Rattle.mem_row.specs.Row.{contents_of}
use Rattle.mem_layout.specs.Memory.{object_row}
use Rattle.mem_layout.proofs.RowCounts.{length-block, length-object-contents}
use Rattle.mem_find.specs.Places.{before_object}
use Rattle.mem_edit.proofs.OldRows.{row_if}
use Rattle.mem_edit.proofs.Changes.{old_rows}

-- how many bytes the objects before a path hold, and the one at it, if it is there
before-hold : (s : State) (p : Bytes) → length (contents_of (before_object s p)) ≡ total object_length (take (place by_bytes p s.O) s.O)
unfolding before_object
before-hold s p = length-object-contents (take (place by_bytes p s.O) s.O)

one_holds : (p : Bytes) (o : Option Object) → length (contents_of (row_if (object_row p) o)) ≡ owed object_length o
unfolding row_if contents_of
one_holds p none = refl
one_holds p (some x) = omega (arith, length-append (object_row p x).content [], length-block x)

-- the block of the object at p ends before the place of q, or begins after the block of the object there, if there is one
pub blocks-apart : (s : State) (p q : Bytes) (x : Object) → lookup by_bytes p s.O ≡ some x → (p ≡ q → ⊥)
    → (length (contents_of (before_object s p)) + object_length x ≤ length (contents_of (before_object s q)))
    ⊎ (length (contents_of (before_object s q)) + length (contents_of (old_rows s q)) ≤ length (contents_of (before_object s p)))
blocks-apart s p q x f other =
    let ps = before-hold s p in
    let qs = before-hold s q in
    let old = one_holds q (lookup by_bytes q s.O) in
    ⊎_map (λ z. omega arith) (λ z. omega arith) (total-apart bytes object_length p q x s.O f other)
