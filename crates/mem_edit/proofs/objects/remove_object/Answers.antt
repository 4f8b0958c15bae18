-- `mem_edit::objects::remove_object` meets its contract: one row and its data are cut out. Assumes nothing.
use Prim.Native.Nat.{ℕ}
use mathlib.Core.Path.{◌≡◌, ap}
use mathlib.Core.Bool.{true}
use mathlib.Core.List.{List}
use native.Mathlib.Omega.{arith}
use Rattle.base_number.specs.Number.{AreBytes}
use Rattle.base_order.specs.Order.{by_bytes}
use Rattle.machine.specs.Map.{is_some, lookup}
use Rattle.mem_layout.specs.declared.Header.{Header}
use Rattle.mem_layout.specs.Memory.{state_of}
use Rattle.mem_find.specs.Places.{object_place}
use Rattle.mem_find.proofs.Found.{place_found}
use Rattle.mem_edit.proofs.ObjectEdits.{header-inside, remove-head, some-object, remove-rows, remove-data, remove-stands}
use Rattle.mem_edit.proofs.objects.remove_object.Goals as goal

pub read_header-header-requires : goal.read_header-header-requires
read_header-header-requires c =
    let t : List ℕ = c.args.tables.now in
    let a : List ℕ = c.args.arena.now in
    let known : AreBytes t = λ j. (c.slice_known-1.given j).fits in
    header-inside (t) (a) (known) c.requires.0.0

pub read_head-h-requires : goal.read_head-h-requires
read_head-h-requires c =
    let t : List ℕ = c.args.tables.now in
    let a : List ℕ = c.args.arena.now in
    let known : AreBytes t = λ j. (c.slice_known-1.given j).fits in
    let path : List ℕ = c.requires.0.1.0 in
    let there : (p : List ℕ) → c.args.place ≡ object_place (state_of t a) p → is_some (lookup by_bytes p (state_of t a).O) ≡ true = λ p is. place_found (state_of t a) p c.args.place true is c.requires.1 in
    let z = remove-head (t) (a) (known) c.requires.0.0 (path) c.args.place c.requires.0.1.1 c.args.end c.requires.2 (there (path) c.requires.0.1.1) in
    omega arith

pub overflow_sub-after : goal.overflow_sub-after
overflow_sub-after c =
    let t : List ℕ = c.args.tables.now in
    let a : List ℕ = c.args.arena.now in
    let known : AreBytes t = λ j. (c.slice_known-1.given j).fits in
    let path : List ℕ = c.requires.0.1.0 in
    let there : (p : List ℕ) → c.args.place ≡ object_place (state_of t a) p → is_some (lookup by_bytes p (state_of t a).O) ≡ true = λ p is. place_found (state_of t a) p c.args.place true is c.requires.1 in
    let h = c.read_header-header.ensures in
    let n = some-object (t) (a) (known) c.requires.0.0 (path) c.args.place c.requires.0.1.1 c.args.end c.requires.2 (there (path) c.requires.0.1.1) in
    omega (arith, ap (λ (x : Header). x.objects) h)

pub remove_rows-requires : goal.remove_rows-requires
remove_rows-requires c =
    let t : List ℕ = c.args.tables.now in
    let a : List ℕ = c.args.arena.now in
    let known : AreBytes t = λ j. (c.slice_known-1.given j).fits in
    let path : List ℕ = c.requires.0.1.0 in
    let there : (p : List ℕ) → c.args.place ≡ object_place (state_of t a) p → is_some (lookup by_bytes p (state_of t a).O) ≡ true = λ p is. place_found (state_of t a) p c.args.place true is c.requires.1 in
    let h = c.read_head-h in
    let r = remove-rows (t) (a) (known) c.requires.0.0 (path) c.args.place c.requires.0.1.1 c.args.end c.requires.2 (there (path) c.requires.0.1.1) h.result h.ensures in
    let w = c.span-n.ensures in
    (r.0, omega (arith, r.1), r.2)

pub remove-requires : goal.remove-requires
remove-requires c =
    let t : List ℕ = c.args.tables.now in
    let a : List ℕ = c.args.arena.now in
    let known : AreBytes t = λ j. (c.slice_known-1.given j).fits in
    let path : List ℕ = c.requires.0.1.0 in
    let there : (p : List ℕ) → c.args.place ≡ object_place (state_of t a) p → is_some (lookup by_bytes p (state_of t a).O) ≡ true = λ p is. place_found (state_of t a) p c.args.place true is c.requires.1 in
    let h = c.read_head-h in
    remove-data (t) (a) (known) c.requires.0.0 (path) c.args.place c.requires.0.1.1 c.args.end c.requires.2 (there (path) c.requires.0.1.1) h.result h.ensures

pub returns : goal.returns
returns c p is =
    let t : List ℕ = c.args.tables.now in
    let a : List ℕ = c.args.arena.now in
    let known : AreBytes t = λ j. (c.slice_known-1.given j).fits in
    let there : (p : List ℕ) → c.args.place ≡ object_place (state_of t a) p → is_some (lookup by_bytes p (state_of t a).O) ≡ true = λ p is. place_found (state_of t a) p c.args.place true is c.requires.1 in
    let header = c.read_header-header in
    let h = c.read_head-h in
    let n = c.span-n in
    let rows = c.remove_rows in
    let block = c.remove in
    remove-stands (t) (a) (known) c.requires.0.0 p c.args.place is c.args.end c.requires.2 (there p is) h.result h.ensures
    n.result header.result rows.new.tables block.new.b n.ensures header.ensures rows.ensures block.ensures rows.auto.tables block.auto.b
