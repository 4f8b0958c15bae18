-- The room for the object at an upload's path, and the place of the path. Assumes nothing.
use Prim.Native.Nat.{ℕ, ◌+◌, ◌-◌, ◌≤◌, ◌<◌}
use mathlib.Core.Path.{◌≡◌, sym, ap, ◌∙◌}
use mathlib.Core.Bool.{Bool, true, false, cond}
use mathlib.Core.List.{List}
use mathlib.Core.Option.{none, some}
use native.Mathlib.Omega.{arith}
use borrow.Author.Tests.{le-leb, lt-leb}
use lib.Dec.{leb}
use lib.ListN.{length, take, drop}
use Rattle.base_number.specs.Number.{AreBytes}
use Rattle.base_order.specs.Order.{by_bytes}
use Rattle.base_order.proofs.OrderLaws.{bytes}
use Rattle.machine.specs.Map.{by_number, lookup, insert}
use Rattle.machine.specs.Names.{Bytes}
use Rattle.machine.specs.State.{Object, Upload, State, counted, with_object, without_upload}
use Rattle.machine.specs.Valid.{Valid}
use Rattle.machine.proofs.MapSums.{length-insert}
use Rattle.machine.proofs.Counts.{commit-counted}
use Rattle.mem_row.specs.declared.Head.{Head}
use Rattle.mem_row.specs.Row.{encode_rows, head_at, head_length}
use Rattle.mem_layout.specs.Header.{header_length}
use Rattle.mem_layout.specs.Memory.{whole, state_of, Stands}
use Rattle.mem_layout.proofs.WholeLaws.{whole-stands}
use Rattle.mem_find.specs.declared.Lookup.{Lookup}
use Rattle.mem_find.specs.declared.RowPlace.{RowPlace}
use Rattle.mem_find.specs.Places.{before_upload, upload_row_of, object_place}
use Rattle.mem_find.proofs.Found.{is-some, is_none, place_found}
use Rattle.mem_join.proofs.PathRead.{path-there}
use Rattle.mem_join.proofs.UploadBounds.{row-at}

-- table full, or 0
abbrev room_of : State → (u : ℕ) → Bytes → Object → ℕ
room_of s u p y = cond (counted (without_upload (with_object s p y) u)) 0 4

-- COMMIT can pass the count of objects alone: at a path that has none, beside 256
module _ (A : ℕ) (s : State) (v : Valid A s) (u : ℕ) (p : Bytes) (y : Object) where
  abbrev n : ℕ
  n = length (insert by_bytes p y s.O)

  judged : (b : Bool) → leb n 256 ≡ b → cond b 0 4 ≡ room_of s u p y
  judged b e = sym (ap (λ (z : Bool). cond z 0 4) (commit-counted A s v u p y ∙ e))

  judged-old : (x : Object) → lookup by_bytes p s.O ≡ some x → 0 ≡ room_of s u p y
  judged-old x f = let w = v.paths in judged true (le-leb n 256 (omega (arith, rw f at (length-insert bytes p y s.O))))

  judged-new : lookup by_bytes p s.O ≡ none → length s.O < 256 → 0 ≡ room_of s u p y
  judged-new f few = judged true (le-leb n 256 (omega (arith, rw f at (length-insert bytes p y s.O))))

  judged-full : lookup by_bytes p s.O ≡ none → 256 ≤ length s.O → 4 ≡ room_of s u p y
  judged-full f full = judged false (lt-leb n 256 (omega (arith, rw f at (length-insert bytes p y s.O))))

-- what `commit_room` reads off whole memory
module _ (t a : List ℕ) (b : AreBytes t) (w : whole t a ≡ true) (u : ℕ) (here : RowPlace) (here-is : here ≡ upload_row_of (state_of t a) u) where
  abbrev s : State
  s = state_of t a

  abbrev h : Stands t a s
  h = whole-stands t a b w

  at-is : here.at ≡ header_length + length (encode_rows (before_upload s u))
  at-is = row-at s u here here-is

  module _ (head : Head) (read : head ≡ head_at (drop here.at t)) (place : Lookup)
      (place_is : place ≡ object_place s (take (here.at + head_length + head.pathlen - (here.at + head_length)) (drop (here.at + head_length) t)))
      (x : Upload) (f : lookup by_number u s.U ≡ some x) where
    pub path-place : place ≡ object_place s x.path
    path-place = place_is ∙ ap (object_place s) (path-there t a s h u x f here.at at-is head read)

    -- there is an object
    pub room-old : place.found ≡ true → (y : Object) → 0 ≡ room_of s u x.path y
    room-old e y =
        let o = is-some _ (place_found s x.path place true path-place e) in
        judged-old (length a) s h.valid u x.path y o.0 o.1

    -- there is none
    module _ (e : place.found ≡ false) (objects : ℕ) (objects-are : objects ≡ length s.O) where
      absent : lookup by_bytes x.path s.O ≡ none
      absent = is_none _ (place_found s x.path place false path-place e)

      pub room-new : objects < 256 → (y : Object) → 0 ≡ room_of s u x.path y
      room-new few y = judged-new (length a) s h.valid u x.path y absent (omega (arith, objects-are))

      pub room-full : 256 ≤ objects → (y : Object) → 4 ≡ room_of s u x.path y
      room-full full y = judged-full (length a) s h.valid u x.path y absent (omega (arith, objects-are))
