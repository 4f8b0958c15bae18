-- `mem_join::join` meets its contract: the path waits in a local array. Assumes nothing.
use Prim.Native.Nat.{ℕ, ◌+◌, ◌-◌, ◌≤◌}
use mathlib.Core.Path.{◌≡◌, sym}
use mathlib.Core.List.{List}
use native.Mathlib.Omega.{arith}
use lib.ListN.{length, take, drop, length-take}
use lib.Seq.{length-take-le}
use Rattle.machine.specs.State.{State}
use Rattle.mem_row.specs.Row.{encode_rows, head_length, span}
use Rattle.mem_layout.specs.Header.{header_length}
use Rattle.mem_layout.specs.Memory.{state_of, Stands}
use Rattle.mem_layout.proofs.WholeLaws.{whole-stands}
use Rattle.mem_find.specs.Places.{before_upload}
use Rattle.machine.specs.PartLists.{part_list}
use Rattle.mem_join.specs.declared.Bounds.{Bounds}
use Rattle.mem_join.specs.Joined.{Listed, Joinable, JoinableAt}
use Rattle.mem_join.proofs.PathRead.{head-inside, path_inside, path-small, stamp-read, path-there, path-copied}
use Rattle.mem_join.proofs.UploadBounds.{bounds-at}
use Rattle.mem_join.proofs.join.Goals as goal

pub read_head-h-requires : goal.read_head-h-requires
read_head-h-requires c =
    let t : List ℕ = c.args.tables.now in
    let a : List ℕ = c.args.arena.now in
    let s : State = state_of t a in
    let u : ℕ = c.args.upload in
    let b : Bounds = c.args.b in
    let k : Listed s u (part_list c.args.list.now) = c.requires.listed in
    let stands : Stands t a s = whole-stands t a (λ j. (c.slice_known-1.given j).fits) c.requires.is_whole in
    let at-is : b.at ≡ header_length + length (encode_rows (before_upload s u)) = bounds-at s u k.upload b (c.requires.placed k.upload k.found).0 in
    omega (arith, head-inside (t) (a) (s) (stands) (u) (k).upload (k).found (b).at (at-is))

pub overflow_add-from : goal.overflow_add-from
overflow_add-from c =
    let t : List ℕ = c.args.tables.now in
    let a : List ℕ = c.args.arena.now in
    let s : State = state_of t a in
    let u : ℕ = c.args.upload in
    let b : Bounds = c.args.b in
    let k : Listed s u (part_list c.args.list.now) = c.requires.listed in
    let stands : Stands t a s = whole-stands t a (λ j. (c.slice_known-1.given j).fits) c.requires.is_whole in
    let at-is : b.at ≡ header_length + length (encode_rows (before_upload s u)) = bounds-at s u k.upload b (c.requires.placed k.upload k.found).0 in
    let inside : (b).at + span c.read_head-h.result ≤ length (t) = path_inside (t) (a) (s) (stands) (u) (k).upload (k).found (b).at (at-is) c.read_head-h.result c.read_head-h.ensures in
    omega (arith, inside)

pub overflow_add-to : goal.overflow_add-to
overflow_add-to c =
    let t : List ℕ = c.args.tables.now in
    let a : List ℕ = c.args.arena.now in
    let s : State = state_of t a in
    let u : ℕ = c.args.upload in
    let b : Bounds = c.args.b in
    let k : Listed s u (part_list c.args.list.now) = c.requires.listed in
    let stands : Stands t a s = whole-stands t a (λ j. (c.slice_known-1.given j).fits) c.requires.is_whole in
    let at-is : b.at ≡ header_length + length (encode_rows (before_upload s u)) = bounds-at s u k.upload b (c.requires.placed k.upload k.found).0 in
    let inside : (b).at + span c.read_head-h.result ≤ length (t) = path_inside (t) (a) (s) (stands) (u) (k).upload (k).found (b).at (at-is) c.read_head-h.result c.read_head-h.ensures in
    omega (arith, inside)

pub slice_bounds-copy_at-end-2 : goal.slice_bounds-copy_at-end-2
slice_bounds-copy_at-end-2 c =
    let t : List ℕ = c.args.tables.now in
    let a : List ℕ = c.args.arena.now in
    let s : State = state_of t a in
    let u : ℕ = c.args.upload in
    let b : Bounds = c.args.b in
    let k : Listed s u (part_list c.args.list.now) = c.requires.listed in
    let stands : Stands t a s = whole-stands t a (λ j. (c.slice_known-1.given j).fits) c.requires.is_whole in
    let at-is : b.at ≡ header_length + length (encode_rows (before_upload s u)) = bounds-at s u k.upload b (c.requires.placed k.upload k.found).0 in
    let inside : (b).at + span c.read_head-h.result ≤ length (t) = path_inside (t) (a) (s) (stands) (u) (k).upload (k).found (b).at (at-is) c.read_head-h.result c.read_head-h.ensures in
    omega (arith, inside)

pub copy_at-requires : goal.copy_at-requires
copy_at-requires c =
    let t : List ℕ = c.args.tables.now in
    let a : List ℕ = c.args.arena.now in
    let s : State = state_of t a in
    let u : ℕ = c.args.upload in
    let b : Bounds = c.args.b in
    let k : Listed s u (part_list c.args.list.now) = c.requires.listed in
    let stands : Stands t a s = whole-stands t a (λ j. (c.slice_known-1.given j).fits) c.requires.is_whole in
    let at-is : b.at ≡ header_length + length (encode_rows (before_upload s u)) = bounds-at s u k.upload b (c.requires.placed k.upload k.found).0 in
    let small : c.read_head-h.result.pathlen ≤ 128 = path-small (t) (a) (s) (stands) (u) (k).upload (k).found (b).at (at-is) c.read_head-h.result c.read_head-h.ensures in
    let from = (b).at + head_length in
    omega (arith, small, length-take (from + c.read_head-h.result.pathlen - from) (drop from (t)))

pub slice_bounds-path-end : goal.slice_bounds-path-end
slice_bounds-path-end c =
    let t : List ℕ = c.args.tables.now in
    let a : List ℕ = c.args.arena.now in
    let s : State = state_of t a in
    let u : ℕ = c.args.upload in
    let b : Bounds = c.args.b in
    let k : Listed s u (part_list c.args.list.now) = c.requires.listed in
    let stands : Stands t a s = whole-stands t a (λ j. (c.slice_known-1.given j).fits) c.requires.is_whole in
    let at-is : b.at ≡ header_length + length (encode_rows (before_upload s u)) = bounds-at s u k.upload b (c.requires.placed k.upload k.found).0 in
    let small : c.read_head-h.result.pathlen ≤ 128 = path-small (t) (a) (s) (stands) (u) (k).upload (k).found (b).at (at-is) c.read_head-h.result c.read_head-h.ensures in
    let n : ℕ = c.read_head-h.result.pathlen in
    let short : n ≤ length c.copy_at.new.dst = omega (arith, small, c.copy_at.auto.dst) in
    omega (arith, short)

pub slice_bounds-join_at-end : goal.slice_bounds-join_at-end
slice_bounds-join_at-end c =
    let t : List ℕ = c.args.tables.now in
    let a : List ℕ = c.args.arena.now in
    let s : State = state_of t a in
    let u : ℕ = c.args.upload in
    let b : Bounds = c.args.b in
    let k : Listed s u (part_list c.args.list.now) = c.requires.listed in
    let stands : Stands t a s = whole-stands t a (λ j. (c.slice_known-1.given j).fits) c.requires.is_whole in
    let at-is : b.at ≡ header_length + length (encode_rows (before_upload s u)) = bounds-at s u k.upload b (c.requires.placed k.upload k.found).0 in
    let small : c.read_head-h.result.pathlen ≤ 128 = path-small (t) (a) (s) (stands) (u) (k).upload (k).found (b).at (at-is) c.read_head-h.result c.read_head-h.ensures in
    let n : ℕ = c.read_head-h.result.pathlen in
    let short : n ≤ length c.copy_at.new.dst = omega (arith, small, c.copy_at.auto.dst) in
    sym (length-take-le (n) c.copy_at.new.dst (short))

pub join_at-requires : goal.join_at-requires
join_at-requires c =
    let t : List ℕ = c.args.tables.now in
    let a : List ℕ = c.args.arena.now in
    let s : State = state_of t a in
    let u : ℕ = c.args.upload in
    let b : Bounds = c.args.b in
    let k : Listed s u (part_list c.args.list.now) = c.requires.listed in
    let stands : Stands t a s = whole-stands t a (λ j. (c.slice_known-1.given j).fits) c.requires.is_whole in
    let at-is : b.at ≡ header_length + length (encode_rows (before_upload s u)) = bounds-at s u k.upload b (c.requires.placed k.upload k.found).0 in
    let n : ℕ = c.read_head-h.result.pathlen in
    let at_path : (j : Joinable (t) (a) (u) (b) c.args.place c.args.list.now c.args.ascends)
    → JoinableAt (t) (a) (u) (b) c.args.place c.args.list.now c.args.ascends (take n c.copy_at.new.dst) c.read_head-h.result.stamp = λ j. let l = j.listed in
    let there = path-there (t) (a) (s) (stands) (u) l.upload l.found (b).at (at-is) c.read_head-h.result c.read_head-h.ensures in
    record {
      joinable = j;
      path-is = path-copied (t) (a) (s) (stands) (u) l.upload l.found (b).at (at-is) c.read_head-h.result c.read_head-h.ensures _ _ _ there c.copy_at.ensures;
      stamp-is = stamp-read (t) (a) (s) (stands) (u) l.upload l.found (b).at (at-is) c.read_head-h.result c.read_head-h.ensures;
    } in
    at_path c.requires

pub returns : goal.returns
returns c =
    let t : List ℕ = c.args.tables.now in
    let a : List ℕ = c.args.arena.now in
    let s : State = state_of t a in
    let u : ℕ = c.args.upload in
    let b : Bounds = c.args.b in
    let k : Listed s u (part_list c.args.list.now) = c.requires.listed in
    let stands : Stands t a s = whole-stands t a (λ j. (c.slice_known-1.given j).fits) c.requires.is_whole in
    let at-is : b.at ≡ header_length + length (encode_rows (before_upload s u)) = bounds-at s u k.upload b (c.requires.placed k.upload k.found).0 in
    let n : ℕ = c.read_head-h.result.pathlen in
    let at_path : (j : Joinable (t) (a) (u) (b) c.args.place c.args.list.now c.args.ascends)
    → JoinableAt (t) (a) (u) (b) c.args.place c.args.list.now c.args.ascends (take n c.copy_at.new.dst) c.read_head-h.result.stamp = λ j. let l = j.listed in
    let there = path-there (t) (a) (s) (stands) (u) l.upload l.found (b).at (at-is) c.read_head-h.result c.read_head-h.ensures in
    record {
      joinable = j;
      path-is = path-copied (t) (a) (s) (stands) (u) l.upload l.found (b).at (at-is) c.read_head-h.result c.read_head-h.ensures _ _ _ there c.copy_at.ensures;
      stamp-is = stamp-read (t) (a) (s) (stands) (u) l.upload l.found (b).at (at-is) c.read_head-h.result c.read_head-h.ensures;
    } in
    λ j. c.join_at.ensures (at_path j)
