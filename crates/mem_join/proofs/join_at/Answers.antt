-- `mem_join::join_at` meets its contract: the lengths of the upload's pairs wait in a local array. Assumes nothing.
use Prim.Native.Nat.{ℕ, ◌+◌, ◌≤◌}
use mathlib.Core.Path.{◌≡◌, sym, ap, ◌∙◌}
use mathlib.Core.List.{List}
use native.Mathlib.Omega.{arith}
use lib.ListN.{length, take}
use lib.Seq.{take_at, length-take-le}
use Rattle.machine.specs.State.{State}
use Rattle.pairs_stored.specs.Stored.{pair_lengths}
use Rattle.mem_layout.specs.Memory.{state_of, Stands}
use Rattle.mem_layout.proofs.WholeLaws.{whole-stands}
use Rattle.mem_row.specs.Row.{encode_rows}
use Rattle.mem_layout.specs.Header.{header_length}
use Rattle.mem_find.specs.Places.{before_upload}
use Rattle.machine.specs.PartLists.{part_list}
use Rattle.mem_join.specs.declared.Bounds.{Bounds}
use Rattle.mem_join.specs.Joined.{Listed, JoinableAt, JoinableWith}
use Rattle.mem_join.proofs.PathRead.{row_inside, lengths-there, lengths-few}
use Rattle.mem_join.proofs.UploadBounds.{bounds-at}
use Rattle.mem_join.proofs.join_at.Goals as goal

pub lengths-stored-requires : goal.lengths-stored-requires
lengths-stored-requires c =
    let t : List ℕ = c.args.tables.now in
    let a : List ℕ = c.args.arena.now in
    let s : State = state_of t a in
    let u : ℕ = c.args.upload in
    let b : Bounds = c.args.b in
    let stands : Stands t a s = whole-stands t a (λ j. (c.slice_known-1.given j).fits) c.requires.joinable.is_whole in
    let at-is : b.at ≡ header_length + length (encode_rows (before_upload s u)) = let j = c.requires.joinable in
    let k = j.listed in
    bounds-at s u k.upload b (j.placed k.upload k.found).0 in
    let k = c.requires.joinable.listed in row_inside (t) (a) (s) (stands) (u) k.upload k.found (b).at (at-is)

pub copy_at-requires : goal.copy_at-requires
copy_at-requires c =
    let t : List ℕ = c.args.tables.now in
    let a : List ℕ = c.args.arena.now in
    let s : State = state_of t a in
    let u : ℕ = c.args.upload in
    let b : Bounds = c.args.b in
    let list : List ℕ = c.args.list.now in
    let stands : Stands t a s = whole-stands t a (λ j. (c.slice_known-1.given j).fits) c.requires.joinable.is_whole in
    let at-is : b.at ≡ header_length + length (encode_rows (before_upload s u)) = let j = c.requires.joinable in
    let k = j.listed in
    bounds-at s u k.upload b (j.placed k.upload k.found).0 in
    let n : ℕ = length c.lengths-stored.result.now in
    let are : (k : Listed (s) (u) (part_list (list))) → c.lengths-stored.result.now ≡ pair_lengths k.upload.pairs = λ k. c.lengths-stored.ensures ∙ lengths-there (t) (a) (s) (stands) (u) k.upload k.found (b).at (at-is) in
    let few : n ≤ 16 = let k = c.requires.joinable.listed in
    omega (arith, ap length (are k), lengths-few (t) (a) (s) (stands) (u) k.upload k.found (b).at (at-is)) in
    omega (arith, few)

pub slice_bounds-lengths-end : goal.slice_bounds-lengths-end
slice_bounds-lengths-end c =
    let t : List ℕ = c.args.tables.now in
    let a : List ℕ = c.args.arena.now in
    let s : State = state_of t a in
    let u : ℕ = c.args.upload in
    let b : Bounds = c.args.b in
    let list : List ℕ = c.args.list.now in
    let stands : Stands t a s = whole-stands t a (λ j. (c.slice_known-1.given j).fits) c.requires.joinable.is_whole in
    let at-is : b.at ≡ header_length + length (encode_rows (before_upload s u)) = let j = c.requires.joinable in
    let k = j.listed in
    bounds-at s u k.upload b (j.placed k.upload k.found).0 in
    let n : ℕ = length c.lengths-stored.result.now in
    let are : (k : Listed (s) (u) (part_list (list))) → c.lengths-stored.result.now ≡ pair_lengths k.upload.pairs = λ k. c.lengths-stored.ensures ∙ lengths-there (t) (a) (s) (stands) (u) k.upload k.found (b).at (at-is) in
    let few : n ≤ 16 = let k = c.requires.joinable.listed in
    omega (arith, ap length (are k), lengths-few (t) (a) (s) (stands) (u) k.upload k.found (b).at (at-is)) in
    let short : n ≤ length c.copy_at.new.dst = omega (arith, few, c.copy_at.auto.dst) in
    omega (arith, short)

pub slice_bounds-join_with-end : goal.slice_bounds-join_with-end
slice_bounds-join_with-end c =
    let t : List ℕ = c.args.tables.now in
    let a : List ℕ = c.args.arena.now in
    let s : State = state_of t a in
    let u : ℕ = c.args.upload in
    let b : Bounds = c.args.b in
    let list : List ℕ = c.args.list.now in
    let stands : Stands t a s = whole-stands t a (λ j. (c.slice_known-1.given j).fits) c.requires.joinable.is_whole in
    let at-is : b.at ≡ header_length + length (encode_rows (before_upload s u)) = let j = c.requires.joinable in
    let k = j.listed in
    bounds-at s u k.upload b (j.placed k.upload k.found).0 in
    let n : ℕ = length c.lengths-stored.result.now in
    let are : (k : Listed (s) (u) (part_list (list))) → c.lengths-stored.result.now ≡ pair_lengths k.upload.pairs = λ k. c.lengths-stored.ensures ∙ lengths-there (t) (a) (s) (stands) (u) k.upload k.found (b).at (at-is) in
    let few : n ≤ 16 = let k = c.requires.joinable.listed in
    omega (arith, ap length (are k), lengths-few (t) (a) (s) (stands) (u) k.upload k.found (b).at (at-is)) in
    let short : n ≤ length c.copy_at.new.dst = omega (arith, few, c.copy_at.auto.dst) in
    sym (length-take-le (n) c.copy_at.new.dst (short))

pub join_with-requires : goal.join_with-requires
join_with-requires c =
    let t : List ℕ = c.args.tables.now in
    let a : List ℕ = c.args.arena.now in
    let s : State = state_of t a in
    let u : ℕ = c.args.upload in
    let b : Bounds = c.args.b in
    let list : List ℕ = c.args.list.now in
    let stands : Stands t a s = whole-stands t a (λ j. (c.slice_known-1.given j).fits) c.requires.joinable.is_whole in
    let at-is : b.at ≡ header_length + length (encode_rows (before_upload s u)) = let j = c.requires.joinable in
    let k = j.listed in
    bounds-at s u k.upload b (j.placed k.upload k.found).0 in
    let n : ℕ = length c.lengths-stored.result.now in
    let are : (k : Listed (s) (u) (part_list (list))) → c.lengths-stored.result.now ≡ pair_lengths k.upload.pairs = λ k. c.lengths-stored.ensures ∙ lengths-there (t) (a) (s) (stands) (u) k.upload k.found (b).at (at-is) in
    let copied : take (n) c.copy_at.new.dst ≡ c.lengths-stored.result.now = ap (take (n)) c.copy_at.ensures ∙ take_at c.lengths-stored.result.now _ (n) (λ i. n) in
    let with-lengths : (j : JoinableAt (t) (a) (u) (b) c.args.place (list) c.args.ascends c.args.path.now c.args.stamp)
    → JoinableWith (t) (a) (u) (b) c.args.place (list) c.args.ascends c.args.path.now (take (n) c.copy_at.new.dst) c.args.stamp = λ j. record { at_path = j; lengths-are = copied ∙ are j.joinable.listed } in
    with-lengths c.requires

pub returns : goal.returns
returns c =
    let t : List ℕ = c.args.tables.now in
    let a : List ℕ = c.args.arena.now in
    let s : State = state_of t a in
    let u : ℕ = c.args.upload in
    let b : Bounds = c.args.b in
    let list : List ℕ = c.args.list.now in
    let stands : Stands t a s = whole-stands t a (λ j. (c.slice_known-1.given j).fits) c.requires.joinable.is_whole in
    let at-is : b.at ≡ header_length + length (encode_rows (before_upload s u)) = let j = c.requires.joinable in
    let k = j.listed in
    bounds-at s u k.upload b (j.placed k.upload k.found).0 in
    let n : ℕ = length c.lengths-stored.result.now in
    let are : (k : Listed (s) (u) (part_list (list))) → c.lengths-stored.result.now ≡ pair_lengths k.upload.pairs = λ k. c.lengths-stored.ensures ∙ lengths-there (t) (a) (s) (stands) (u) k.upload k.found (b).at (at-is) in
    let copied : take (n) c.copy_at.new.dst ≡ c.lengths-stored.result.now = ap (take (n)) c.copy_at.ensures ∙ take_at c.lengths-stored.result.now _ (n) (λ i. n) in
    let with-lengths : (j : JoinableAt (t) (a) (u) (b) c.args.place (list) c.args.ascends c.args.path.now c.args.stamp)
    → JoinableWith (t) (a) (u) (b) c.args.place (list) c.args.ascends c.args.path.now (take (n) c.copy_at.new.dst) c.args.stamp = λ j. record { at_path = j; lengths-are = copied ∙ are j.joinable.listed } in
    λ j. c.join_with.ensures (with-lengths j)
