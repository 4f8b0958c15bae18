-- What `object_judge` reads is what the checks of an object put at a path ask. Assumes nothing.
use Prim.Native.Nat.{ℕ, ◌+◌, ◌-◌, ◌≤◌, ◌<◌}
use mathlib.Core.Path.{◌≡◌, sym, ap, ◌∙◌}
use mathlib.Core.Bool.{true, false, cond}
use mathlib.Core.List.{List}
use mathlib.Core.Option.{none, some}
use native.Mathlib.Omega.{arith}
use lib.Dec.{leb}
use lib.ListN.{length, drop}
use Rattle.base_number.specs.Number.{AreBytes}
use Rattle.base_order.specs.Order.{by_bytes}
use Rattle.machine.specs.Map.{Map, is_some, lookup}
use Rattle.machine.specs.Names.{Bytes}
use Rattle.machine.specs.Pairs.{pairs_held}
use Rattle.machine.specs.State.{Object, State, object_length, held}
use Rattle.machine.specs.Steps.{put_at}
use Rattle.mem_row.specs.declared.Head.{Head}
use Rattle.mem_row.specs.Row.{encode_rows, head_at, numbers_length}
use Rattle.mem_layout.specs.Header.{header_length}
use Rattle.mem_layout.specs.Memory.{object_row, whole, state_of, Stands}
use Rattle.mem_layout.proofs.RowCounts.{length-block, length-contents}
use Rattle.mem_layout.proofs.WholeLaws.{whole-stands}
use Rattle.mem_find.specs.declared.RowPlace.{RowPlace}
use Rattle.mem_find.specs.declared.Lookup.{Lookup}
use Rattle.mem_find.specs.Known.{rows_in}
use Rattle.mem_find.specs.Places.{place_after, before_object, after_object, object_place}
use Rattle.mem_find.proofs.Splits.{object-found}
use Rattle.mem_find.proofs.RowsAt.{row-at}
use Rattle.mem_find.proofs.Found.{is-some, is_none, place_found}
use Rattle.call_contract.specs.Made.{result_of}
use Rattle.call_room.proofs.PutAt.{object-share, room-old, room-new, room-none}

module _ (t a : List ℕ) (b : AreBytes t) (w : whole t a ≡ true) (end : RowPlace) (end-is : end ≡ place_after (rows_in t a))
    (p : List ℕ) (place : Lookup) (place_is : place ≡ object_place (state_of t a) p) where
  abbrev s : State
  s = state_of t a

  abbrev bytes : ℕ
  bytes = end.base

  bytes-are : bytes ≡ held s
  bytes-are = ap (λ (x : RowPlace). x.base) end-is ∙ length-contents s

  stands : Stands t a s
  stands = whole-stands t a b w

  pub held-inside : bytes ≤ length a
  held-inside = let r = stands.valid.room in omega (arith, bytes-are)

  -- in place of the object that was found
  module _ (e : place.found ≡ true) where
    there : is_some (lookup by_bytes p s.O) ≡ true
    there = place_found s p place true place_is e

    x : Object
    x = (is-some (lookup by_bytes p s.O) there).0

    found : lookup by_bytes p s.O ≡ some x
    unfolding x
    found = (is-some (lookup by_bytes p s.O) there).1

    at-is : place.at ≡ header_length + length (encode_rows (before_object s p))
    unfolding object_place
    at-is = ap (λ (y : Lookup). y.at) place_is

    pub head-inside : place.at + numbers_length ≤ length t
    head-inside = let i = (row-at t a s stands (before_object s p) (object_row p x) (after_object s p) (object-found s p x found)).inside in omega (arith, at-is)

    module _ (head : Head) (head-is : head ≡ head_at (drop place.at t)) where
      size_is : head.size ≡ object_length x
      size_is =
          ap (λ (h : Head). h.size)
          (head-is ∙ ap (λ (n : ℕ). head_at (drop n t)) at-is ∙ (row-at t a s stands (before_object s p) (object_row p x) (after_object s p) (object-found s p x found)).head)
          ∙ length-block x

      pub old-inside : head.size ≤ bytes
      old-inside = omega (arith, size_is, bytes-are, object-share s p x found)

      pub judged-old : (r n : ℕ) → r ≡ cond (leb (bytes - head.size + n) (length a)) 0 5
          → (stamp : ℕ) (content : List ℕ) (m : Map Bytes Bytes) → pairs_held m + length content ≡ n → r ≡ result_of (put_at (length a) s stamp p content m)
      judged-old r n is stamp content m l =
          let q : bytes - head.size + n ≡ held s - object_length x + (pairs_held m + length content) = omega (arith, size_is, bytes-are) in
          rw (is, q) (sym (room-old (length a) s stamp p content m stands.valid x found))

  -- at a path that has none
  module _ (e : place.found ≡ false) (objects : ℕ) (objects-are : objects ≡ length (state_of t a).O) where
    absent : lookup by_bytes p s.O ≡ none
    absent = is_none _ (place_found s p place false place_is e)

    pub judged-full : 256 ≤ objects → (stamp : ℕ) (content : List ℕ) (m : Map Bytes Bytes) → 4 ≡ result_of (put_at (length a) s stamp p content m)
    judged-full l stamp content m = sym (room-none (length a) s stamp p content m stands.valid absent (omega (arith, objects-are)))

    pub judged-new : objects < 256 → (r n : ℕ) → r ≡ cond (leb (bytes + n) (length a)) 0 5
        → (stamp : ℕ) (content : List ℕ) (m : Map Bytes Bytes) → pairs_held m + length content ≡ n → r ≡ result_of (put_at (length a) s stamp p content m)
    judged-new few r n is stamp content m l =
        let q : bytes + n ≡ held s + (pairs_held m + length content) = omega (arith, bytes-are) in
        rw (is, q) (sym (room-new (length a) s stamp p content m stands.valid absent (omega (arith, objects-are))))
