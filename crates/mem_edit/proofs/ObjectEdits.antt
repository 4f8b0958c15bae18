-- An object taken out: what the steps require, and what memory then stands for. Assumes nothing.
use Prim.Native.Nat.{ℕ, ◌+◌, ◌-◌, ◌≤◌}
use mathlib.Core.Path.{◌≡◌, ap, ◌∙◌}
use mathlib.Core.Bool.{true}
use mathlib.Core.List.{List, []}
use mathlib.Core.Option.{some}
use native.Mathlib.Omega.{arith}
use lib.ListN.{length, drop}
use Rattle.base_number.specs.Number.{AreBytes}
use Rattle.base_order.specs.Order.{by_bytes}
use Rattle.base_order.proofs.OrderLaws.{bytes}
use Rattle.base_buffer.specs.Buffer.{spliced}
use Rattle.machine.specs.Map.{is_some, lookup}
use Rattle.machine.specs.State.{Object, State, without_object}
use Rattle.machine.proofs.MapSums.{length-remove}
use Rattle.machine.proofs.KeepsValid.{without-object-valid}
use Rattle.mem_row.specs.declared.Head.{Head}
use Rattle.mem_row.specs.Row.{encode_rows, contents_of, head_at, head_length, span}
use Rattle.mem_layout.specs.declared.Header.{Header}
use Rattle.mem_layout.specs.Memory.{rows_of, object_row, whole, state_of, Stands}
use Rattle.mem_layout.proofs.WholeLaws.{whole-stands}
use Rattle.mem_layout.proofs.StandsLaws.{header-back}
use Rattle.mem_find.specs.declared.RowPlace.{RowPlace}
use Rattle.mem_layout.specs.Header.{header_of, headed, header_at, header_length}
use Rattle.mem_find.specs.declared.Lookup.{Lookup}
use Rattle.mem_find.specs.Places.{place_after, before_object, after_object, object_place}
use Rattle.mem_find.proofs.Splits.{object-found}
use Rattle.mem_find.proofs.Found.{is-some}
use Rattle.mem_edit.specs.Objects.{with_objects}
use Rattle.mem_edit.proofs.Changes.{without-object-rows}
use Rattle.mem_edit.proofs.OneRow as row

module _ (t a : List ℕ) (b : AreBytes t) (w : whole t a ≡ true) where
  abbrev s : State
  s = state_of t a

  abbrev stands : Stands t a s
  stands = whole-stands t a b w

  pub header-inside : header_length ≤ length t
  header-inside = let z = stands.size in omega arith

  pub header_is : header_at t ≡ header_of (length a) s
  header_is = header-back t a s stands

  module _ (p : List ℕ) (place : Lookup) (place_is : place ≡ object_place s p) (end : RowPlace) (end_is : end ≡ place_after (rows_of s)) where
    pub at-is : place.at ≡ header_length + length (encode_rows (before_object s p))
    unfolding object_place
    at-is = ap (λ (x : Lookup). x.at) place_is

    pub base-is : place.base ≡ length (contents_of (before_object s p))
    unfolding object_place
    base-is = ap (λ (x : Lookup). x.base) place_is

    pub used-is : end.at ≡ header_length + length (encode_rows (rows_of s))
    used-is = ap (λ (x : RowPlace). x.at) end_is

    pub held-is : end.base ≡ length (contents_of (rows_of s))
    held-is = ap (λ (x : RowPlace). x.base) end_is

    -- taken out
    module _ (there : is_some (lookup by_bytes p s.O) ≡ true) where
      abbrev x : Object
      x = (is-some (lookup by_bytes p s.O) there).0

      found : lookup by_bytes p s.O ≡ some x
      found = (is-some (lookup by_bytes p s.O) there).1

      pub remove-head : place.at + head_length ≤ length t
      remove-head = row.head-inside t a s stands (before_object s p) (object_row p x) (after_object s p) place.at place.base end.at end.base at-is base-is used-is held-is (object-found s p x found)

      pub some-object : 1 ≤ (header_at t).objects
      some-object =
          let n = ap (λ (h : Header). h.objects) header_is in
          omega (arith, rw found at (length-remove bytes p s.O))

      module _ (head : Head) (head-is : head ≡ head_at (drop place.at t)) where
        pub remove-rows : (header_length ≤ place.at) × (place.at + span head ≤ end.at) × (end.at ≤ length t)
        remove-rows = row.rows_inside t a s stands (before_object s p) (object_row p x) (after_object s p) place.at place.base end.at end.base at-is base-is used-is held-is (object-found s p x found) head head-is

        pub remove-data : (place.base + head.size ≤ end.base) × (end.base ≤ length a)
        remove-data = row.data-inside t a s stands (before_object s p) (object_row p x) (after_object s p) place.at place.base end.at end.base at-is base-is used-is held-is (object-found s p x found) head head-is

        pub remove-stands : (n : ℕ) (header : Header) (t' a' : List ℕ) → n ≡ span head → header ≡ header_at t
            → t' ≡ headed (spliced t place.at n end.at []) (with_objects header (header.objects - 1))
            → a' ≡ spliced a place.base head.size end.base [] → length t' ≡ length t → length a' ≡ length a → Stands t' a' (without_object s p)
        remove-stands n header t' a' n-is read e e' l l' =
            let one : length s.O - 1 ≡ length (without_object s p).O = omega (arith, rw found at (length-remove bytes p s.O)) in
            let was : header ≡ header_of (length a) s = read ∙ header_is in
            let after_is : with_objects header (header.objects - 1) ≡ header_of (length a) (without_object s p) = rw (was, one) in
            row.removed-stands t a s stands (before_object s p) (object_row p x) (after_object s p) place.at place.base end.at end.base at-is base-is used-is held-is (object-found s p x found) head head-is
            (without_object s p) (without-object-valid (length a) s p stands.valid) (without-object-rows s p x found) t' a' _ after_is
            (e ∙ ap (λ (k : ℕ). headed (spliced t place.at k end.at []) (with_objects header (header.objects - 1))) n-is) e' l l'
