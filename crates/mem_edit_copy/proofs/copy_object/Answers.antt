-- `mem_edit_copy::copy_object` meets its contract: the row is written anew, or row and block stand in the place of the old ones. Assumes nothing.
use Prim.Native.Nat.{ℕ, ◌≤◌}
use mathlib.Core.Path.{◌≡◌, sym, ap, ◌∙◌}
use mathlib.Core.List.{List}
use native.Mathlib.Omega.{arith}
use lib.ListN.{length, take, drop}
use lib.Seq.{length-take-le}
use Rattle.base_number.specs.Number.{AreBytes}
use Rattle.base_order.proofs.OrderLaws.{same_true}
use Rattle.mem_row.specs.Row.{lengths_at}
use Rattle.mem_find.specs.declared.Lookup.{Lookup}
use Rattle.mem_edit.proofs.ObjectPuts.{old-inside, old_row}
use Rattle.mem_edit_copy.proofs.Source.{ObjectThere, object-there, front-inside, row_inside, lengths-few}
use Rattle.mem_edit_copy.proofs.Restamping.{same-path}
use Rattle.mem_edit_copy.proofs.Copying.{Copying, copying, front-written}
use Rattle.mem_edit_copy.proofs.copy_object.Goals as goal

pub restamp-requires : goal.restamp-requires
restamp-requires c =
    let t : List ℕ = c.args.tables.now in
    let a : List ℕ = c.args.arena.now in
    let p : List ℕ = c.args.source.now in
    let from : Lookup = c.args.from in
    let known : AreBytes t = λ j. (c.slice_known-1.given j).fits in
    let there : ObjectThere t a p from = object-there t a p known c.requires.0.is_whole c.requires.0.there from c.requires.1.source-place in
    front-inside (t) (a) (p) (from) (there)

pub returns-then-equal : goal.returns-then-equal
returns-then-equal c =
    let t : List ℕ = c.args.tables.now in
    let a : List ℕ = c.args.arena.now in
    let p : List ℕ = c.args.source.now in
    let q : List ℕ = c.args.destination.now in
    let from : Lookup = c.args.from in
    let known : AreBytes t = λ j. (c.slice_known-1.given j).fits in
    let there : ObjectThere t a p from = object-there t a p known c.requires.0.is_whole c.requires.0.there from c.requires.1.source-place in
    let r = c.restamp in
    same-path (t) (a) (p) (q) c.args.stamp c.args.digest (from) c.requires.0 (there)
    (same_true (p) (q) (sym c.equal.ensures ∙ c.if-equal.true)) r.new.tables r.ensures r.auto.tables

pub old_row-old-requires : goal.old_row-old-requires
old_row-old-requires c e =
    let t : List ℕ = c.args.tables.now in
    let a : List ℕ = c.args.arena.now in
    let q : List ℕ = c.args.destination.now in
    let known : AreBytes t = λ j. (c.slice_known-1.given j).fits in
    old-inside (t) (a) (known) c.requires.0.is_whole (q) c.args.place c.requires.1.destination-place.0 e

pub read_head-h-requires : goal.read_head-h-requires
read_head-h-requires c =
    let t : List ℕ = c.args.tables.now in
    let a : List ℕ = c.args.arena.now in
    let p : List ℕ = c.args.source.now in
    let from : Lookup = c.args.from in
    let known : AreBytes t = λ j. (c.slice_known-1.given j).fits in
    let there : ObjectThere t a p from = object-there t a p known c.requires.0.is_whole c.requires.0.there from c.requires.1.source-place in
    let z = front-inside (t) (a) (p) (from) (there) in
    omega arith

pub lengths-kept-requires : goal.lengths-kept-requires
lengths-kept-requires c =
    let t : List ℕ = c.args.tables.now in
    let a : List ℕ = c.args.arena.now in
    let p : List ℕ = c.args.source.now in
    let from : Lookup = c.args.from in
    let known : AreBytes t = λ j. (c.slice_known-1.given j).fits in
    let there : ObjectThere t a p from = object-there t a p known c.requires.0.is_whole c.requires.0.there from c.requires.1.source-place in
    row_inside (t) (a) (p) (from) (there)

pub copy_at-requires : goal.copy_at-requires
copy_at-requires c =
    let t : List ℕ = c.args.tables.now in
    let a : List ℕ = c.args.arena.now in
    let p : List ℕ = c.args.source.now in
    let from : Lookup = c.args.from in
    let known : AreBytes t = λ j. (c.slice_known-1.given j).fits in
    let there : ObjectThere t a p from = object-there t a p known c.requires.0.is_whole c.requires.0.there from c.requires.1.source-place in
    let few : length c.lengths-kept.result.now ≤ 16 = let f = lengths-few (t) (a) (p) (from) (there) in
    omega (arith, ap length c.lengths-kept.ensures) in
    omega (arith, few)

pub splice_within-requires : goal.splice_within-requires
splice_within-requires c =
    let t : List ℕ = c.args.tables.now in
    let a : List ℕ = c.args.arena.now in
    let p : List ℕ = c.args.source.now in
    let q : List ℕ = c.args.destination.now in
    let from : Lookup = c.args.from in
    let known : AreBytes t = λ j. (c.slice_known-1.given j).fits in
    let copies : Copying (t) (a) (p) (q) c.args.stamp c.args.digest (from) c.args.place c.args.end c.old_row-old.result c.read_head-h.result = let o = c.old_row-old in
    copying (t) (a) (p) (q) (known) c.args.stamp c.args.digest c.requires.0 (sym c.equal.ensures ∙ c.if-equal.false)
    (from) c.args.place c.args.end c.requires.1 o.result (o.ensures ∙ old_row (t) (a) (known) c.requires.0.is_whole (q) c.args.place c.requires.1.destination-place.0)
    c.read_head-h.result c.read_head-h.ensures in
    (copies).block_room

pub slice_bounds-lengths-end : goal.slice_bounds-lengths-end
slice_bounds-lengths-end c =
    let t : List ℕ = c.args.tables.now in
    let a : List ℕ = c.args.arena.now in
    let p : List ℕ = c.args.source.now in
    let from : Lookup = c.args.from in
    let known : AreBytes t = λ j. (c.slice_known-1.given j).fits in
    let there : ObjectThere t a p from = object-there t a p known c.requires.0.is_whole c.requires.0.there from c.requires.1.source-place in
    let few : length c.lengths-kept.result.now ≤ 16 = let f = lengths-few (t) (a) (p) (from) (there) in
    omega (arith, ap length c.lengths-kept.ensures) in
    omega (arith, few)

pub slice_bounds-put_row-end : goal.slice_bounds-put_row-end
slice_bounds-put_row-end c =
    let t : List ℕ = c.args.tables.now in
    let a : List ℕ = c.args.arena.now in
    let p : List ℕ = c.args.source.now in
    let from : Lookup = c.args.from in
    let known : AreBytes t = λ j. (c.slice_known-1.given j).fits in
    let there : ObjectThere t a p from = object-there t a p known c.requires.0.is_whole c.requires.0.there from c.requires.1.source-place in
    let few : length c.lengths-kept.result.now ≤ 16 = let f = lengths-few (t) (a) (p) (from) (there) in
    omega (arith, ap length c.lengths-kept.ensures) in
    sym (length-take-le (length c.lengths-kept.result.now) c.copy_at.new.dst (omega (arith, few, c.copy_at.auto.dst)))

pub put_row-requires : goal.put_row-requires
put_row-requires c =
    let t : List ℕ = c.args.tables.now in
    let a : List ℕ = c.args.arena.now in
    let p : List ℕ = c.args.source.now in
    let q : List ℕ = c.args.destination.now in
    let from : Lookup = c.args.from in
    let known : AreBytes t = λ j. (c.slice_known-1.given j).fits in
    let copies : Copying (t) (a) (p) (q) c.args.stamp c.args.digest (from) c.args.place c.args.end c.old_row-old.result c.read_head-h.result = let o = c.old_row-old in
    copying (t) (a) (p) (q) (known) c.args.stamp c.args.digest c.requires.0 (sym c.equal.ensures ∙ c.if-equal.false)
    (from) c.args.place c.args.end c.requires.1 o.result (o.ensures ∙ old_row (t) (a) (known) c.requires.0.is_whole (q) c.args.place c.requires.1.destination-place.0)
    c.read_head-h.result c.read_head-h.ensures in
    let lengths-are : take (length c.lengths-kept.result.now) c.copy_at.new.dst ≡ lengths_at (drop (from).at (t)) = front-written _ c.copy_at.new.dst c.lengths-kept.result.now c.copy_at.ensures ∙ c.lengths-kept.ensures in
    (copies).row_room _ (lengths-are)

pub returns : goal.returns
returns c =
    let t : List ℕ = c.args.tables.now in
    let a : List ℕ = c.args.arena.now in
    let p : List ℕ = c.args.source.now in
    let q : List ℕ = c.args.destination.now in
    let from : Lookup = c.args.from in
    let known : AreBytes t = λ j. (c.slice_known-1.given j).fits in
    let copies : Copying (t) (a) (p) (q) c.args.stamp c.args.digest (from) c.args.place c.args.end c.old_row-old.result c.read_head-h.result = let o = c.old_row-old in
    copying (t) (a) (p) (q) (known) c.args.stamp c.args.digest c.requires.0 (sym c.equal.ensures ∙ c.if-equal.false)
    (from) c.args.place c.args.end c.requires.1 o.result (o.ensures ∙ old_row (t) (a) (known) c.requires.0.is_whole (q) c.args.place c.requires.1.destination-place.0)
    c.read_head-h.result c.read_head-h.ensures in
    let lengths-are : take (length c.lengths-kept.result.now) c.copy_at.new.dst ≡ lengths_at (drop (from).at (t)) = front-written _ c.copy_at.new.dst c.lengths-kept.result.now c.copy_at.ensures ∙ c.lengths-kept.ensures in
    let row = c.put_row in
    let block = c.splice_within in
    (copies).stands _ (lengths-are) row.new.tables block.new.b row.ensures block.ensures row.auto.tables block.auto.b
