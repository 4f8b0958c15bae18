-- `mem_join::upload_bounds` meets its contract. Assumes nothing.
use Prim.Native.Nat.{ℕ, ◌+◌, ◌*◌, ◌≤◌}
use mathlib.Core.Path.{◌≡◌}
use mathlib.Core.List.{List}
use mathlib.Core.Option.{some}
use native.Mathlib.Omega.{arith}
use lib.ListN.{length}
use Rattle.machine.specs.Map.{by_number, lookup}
use Rattle.machine.specs.State.{Upload, State}
use Rattle.mem_row.specs.Row.{head_length}
use Rattle.mem_layout.specs.Rules.{parts_most}
use Rattle.mem_layout.specs.Memory.{state_of, Stands}
use Rattle.mem_layout.proofs.WholeLaws.{whole-stands}
use Rattle.mem_find.specs.declared.PassedParts.{PassedParts}
use Rattle.mem_find.specs.declared.RowPlace.{RowPlace}
use Rattle.mem_find.specs.Places.{upload_row_of, passed_parts}
use Rattle.mem_find.proofs.Found.{is-some}
use Rattle.mem_join.proofs.UploadBounds.{row-begins, count_small, rows-within, block_within, base-within, bounds-are}
use Rattle.mem_join.proofs.upload_bounds.Goals as goal

pub read_head-h-requires : goal.read_head-h-requires
read_head-h-requires c =
    let t : List ℕ = c.args.tables.now in
    let a : List ℕ = c.args.arena.now in
    let s : State = state_of t a in
    let stands : Stands t a s = whole-stands t a (λ j. (c.shared_slice_known-1.given j).fits) c.requires.0.0 in
    let u : ℕ = c.requires.0.1.0 in
    let here : RowPlace = c.args.here in
    let here-is : here ≡ upload_row_of s u = c.requires.0.1.1 in
    let x : Upload = (is-some (lookup by_number u s.U) c.requires.0.1.2).0 in
    let found : lookup by_number u s.U ≡ some x = (is-some (lookup by_number u s.U) c.requires.0.1.2).1 in
    omega (arith, row-begins (t) (a) (s) (stands) (u) (x) (found) (here) (here-is))

pub overflow_add-data : goal.overflow_add-data
overflow_add-data c =
    let t : List ℕ = c.args.tables.now in
    let a : List ℕ = c.args.arena.now in
    let s : State = state_of t a in
    let stands : Stands t a s = whole-stands t a (λ j. (c.shared_slice_known-1.given j).fits) c.requires.0.0 in
    let u : ℕ = c.requires.0.1.0 in
    let here : RowPlace = c.args.here in
    let parts : PassedParts = c.args.parts in
    let here-is : here ≡ upload_row_of s u = c.requires.0.1.1 in
    let x : Upload = (is-some (lookup by_number u s.U) c.requires.0.1.2).0 in
    let found : lookup by_number u s.U ≡ some x = (is-some (lookup by_number u s.U) c.requires.0.1.2).1 in
    let parts_are : parts ≡ passed_parts s u x = c.requires.1 u x here-is found in
    let inside : (here).base + c.read_head-h.result.size ≤ length (a) = block_within (t) (a) (s) (stands) (u) (x) (found) (here) (here-is) (parts) (parts_are) _ c.read_head-h.ensures in
    omega (arith, inside)

pub overflow_mul-result : goal.overflow_mul-result
overflow_mul-result c =
    let t : List ℕ = c.args.tables.now in
    let a : List ℕ = c.args.arena.now in
    let s : State = state_of t a in
    let stands : Stands t a s = whole-stands t a (λ j. (c.shared_slice_known-1.given j).fits) c.requires.0.0 in
    let u : ℕ = c.requires.0.1.0 in
    let here : RowPlace = c.args.here in
    let parts : PassedParts = c.args.parts in
    let here-is : here ≡ upload_row_of s u = c.requires.0.1.1 in
    let x : Upload = (is-some (lookup by_number u s.U) c.requires.0.1.2).0 in
    let found : lookup by_number u s.U ≡ some x = (is-some (lookup by_number u s.U) c.requires.0.1.2).1 in
    let parts_are : parts ≡ passed_parts s u x = c.requires.1 u x here-is found in
    let few : (parts).count ≤ parts_most = count_small (t) (a) (s) (stands) (u) (x) (found) (here) (here-is) (parts) (parts_are) _ c.read_head-h.ensures in
    omega (arith, few)

pub overflow_sub-result : goal.overflow_sub-result
overflow_sub-result c =
    let t : List ℕ = c.args.tables.now in
    let a : List ℕ = c.args.arena.now in
    let s : State = state_of t a in
    let stands : Stands t a s = whole-stands t a (λ j. (c.shared_slice_known-1.given j).fits) c.requires.0.0 in
    let u : ℕ = c.requires.0.1.0 in
    let here : RowPlace = c.args.here in
    let parts : PassedParts = c.args.parts in
    let here-is : here ≡ upload_row_of s u = c.requires.0.1.1 in
    let x : Upload = (is-some (lookup by_number u s.U) c.requires.0.1.2).0 in
    let found : lookup by_number u s.U ≡ some x = (is-some (lookup by_number u s.U) c.requires.0.1.2).1 in
    let parts_are : parts ≡ passed_parts s u x = c.requires.1 u x here-is found in
    let rows : head_length * (parts).count ≤ (parts).next.at = rows-within (t) (a) (s) (stands) (u) (x) (found) (here) (here-is) (parts) (parts_are) _ c.read_head-h.ensures in
    omega (arith, rows)

pub overflow_sub-result-2 : goal.overflow_sub-result-2
overflow_sub-result-2 c =
    let t : List ℕ = c.args.tables.now in
    let a : List ℕ = c.args.arena.now in
    let s : State = state_of t a in
    let stands : Stands t a s = whole-stands t a (λ j. (c.shared_slice_known-1.given j).fits) c.requires.0.0 in
    let u : ℕ = c.requires.0.1.0 in
    let here : RowPlace = c.args.here in
    let parts : PassedParts = c.args.parts in
    let here-is : here ≡ upload_row_of s u = c.requires.0.1.1 in
    let x : Upload = (is-some (lookup by_number u s.U) c.requires.0.1.2).0 in
    let found : lookup by_number u s.U ≡ some x = (is-some (lookup by_number u s.U) c.requires.0.1.2).1 in
    let parts_are : parts ≡ passed_parts s u x = c.requires.1 u x here-is found in
    let bytes : (here).base ≤ (parts).next.base = base-within (t) (a) (s) (stands) (u) (x) (found) (here) (here-is) (parts) (parts_are) _ c.read_head-h.ensures in
    omega (arith, bytes)

pub returns : goal.returns
returns c =
    let t : List ℕ = c.args.tables.now in
    let a : List ℕ = c.args.arena.now in
    let s : State = state_of t a in
    let stands : Stands t a s = whole-stands t a (λ j. (c.shared_slice_known-1.given j).fits) c.requires.0.0 in
    let here : RowPlace = c.args.here in
    let parts : PassedParts = c.args.parts in
    λ v y q f. bounds-are (t) (a) (s) (stands) v y f (here) q (parts) (c.requires.1 v y q f) _ c.read_head-h.ensures c.args.end c.requires.2
