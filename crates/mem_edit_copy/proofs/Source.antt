-- The object at a path, as memory has it: its row, its block, and the lengths of its pairs. Assumes nothing.
use Prim.Native.Nat.{ℕ, ◌+◌, ◌≤◌}
use mathlib.Core.Path.{◌≡◌, sym, ap, ap₂, ◌∙◌}
use mathlib.Core.Bool.{true}
use mathlib.Core.List.{List, ◌++◌}
use mathlib.Core.Option.{some}
use native.Mathlib.Omega.{arith}
use lib.ListN.{length, take, drop, length-append}
use Rattle.base_number.specs.Number.{AreBytes}
use Rattle.base_order.specs.Order.{by_bytes}
use Rattle.base_order.proofs.OrderLaws.{bytes}
use Rattle.machine.specs.Map.{Map, is_some, lookup}
use Rattle.machine.specs.Names.{Bytes}
use Rattle.machine.specs.Pairs.{kept_ok}
use Rattle.machine.specs.State.{Object, State}
use Rattle.machine.specs.Valid.{ObjectOk}
use Rattle.machine.proofs.MapLaws.{every-lookup}
use Rattle.machine.proofs.PairLaws.{kept-few}
use Rattle.pairs_stored.specs.Stored.{pair_lengths, pair_bytes}
use Rattle.pairs_stored.proofs.StoredLaws.{length-bytes, length-lengths}
use Rattle.mem_row.specs.declared.Head.{Head}
use Rattle.mem_row.specs.Row.{encode_rows, contents_of, head_at, head_length, lengths_at, span_at}
use Rattle.mem_layout.specs.Header.{header_length}
use Rattle.mem_layout.specs.Memory.{object_row, whole, state_of, Stands}
use Rattle.mem_layout.proofs.WholeLaws.{whole-stands}
use Rattle.mem_find.specs.declared.Lookup.{Lookup}
use Rattle.mem_find.specs.Places.{before_object, after_object, object_place}
use Rattle.mem_find.proofs.Splits.{object-found}
use Rattle.mem_find.proofs.RowsAt.{At, row-at}
use Rattle.mem_find.proofs.PairSizes.{row-span, row-lengths}
use Rattle.mem_find.proofs.Found.{is-some}
use Rattle.mem_edit_copy.specs.Copy.{content_in, pairs_in, content_at, kept_at, block_length}

-- the object at p, where its row and its block stand
pub record ObjectThere (t a p : List ℕ) (place : Lookup) : Type 0 where
  pub stands : Stands t a (state_of t a)
  pub object : Object
  pub found : lookup by_bytes p (state_of t a).O ≡ some object
  pub content : content_at (state_of t a) p ≡ object.content
  pub pairs : kept_at (state_of t a) p ≡ object.pairs
  pub here : At t a (state_of t a) stands (before_object (state_of t a) p) (object_row p object) (after_object (state_of t a) p)
  pub at : place.at ≡ header_length + length (encode_rows (before_object (state_of t a) p))
  pub base : place.base ≡ length (contents_of (before_object (state_of t a) p))

pub object-there : (t a p : List ℕ) → AreBytes t → whole t a ≡ true → is_some (lookup by_bytes p (state_of t a).O) ≡ true → (place : Lookup) → place ≡ object_place (state_of t a) p → ObjectThere t a p place
unfolding object_place content_at kept_at
object-there t a p b w there place place_is =
    let s = state_of t a in
    let h = whole-stands t a b w in
    let x = is-some (lookup by_bytes p s.O) there in
    record {
      stands = h;
      object = x.0;
      found = x.1;
      content = ap content_in x.1;
      pairs = ap pairs_in x.1;
      here = row-at t a s h (before_object s p) (object_row p x.0) (after_object s p) (object-found s p x.0 x.1);
      at = ap (λ (z : Lookup). z.at) place_is;
      base = ap (λ (z : Lookup). z.base) place_is;
    }

module _ (t a p : List ℕ) (place : Lookup) (o : ObjectThere t a p place) where
  abbrev s : State
  s = state_of t a

  -- the row is inside the tables
  pub front-inside : place.at + head_length ≤ length t
  front-inside = omega (arith, o.at, o.here.inside)

  pub row_inside : place.at + span_at (drop place.at t) ≤ length t
  row_inside = row-span t a s o.stands (before_object s p) (object_row p o.object) (after_object s p) o.here place.at o.at

  -- the lengths in it
  pub lengths-there : lengths_at (drop place.at t) ≡ pair_lengths (kept_at s p)
  lengths-there = row-lengths t a s o.stands (before_object s p) (object_row p o.object) (after_object s p) o.here place.at o.at ∙ ap pair_lengths (sym o.pairs)

  kept : kept_ok (kept_at s p) ≡ true
  kept = ap kept_ok o.pairs ∙ (every-lookup bytes ObjectOk p o.object s.O o.stands.valid.object o.found).pairs

  pub lengths-few : length (lengths_at (drop place.at t)) ≤ 16
  lengths-few = omega (arith, ap length lengths-there, length-lengths (kept_at s p), kept-few (kept_at s p) kept)

  module _ (head : Head) (head-is : head ≡ head_at (drop place.at t)) where
    read : head.size ≡ length (object_row p o.object).content
    read = ap (λ (z : Head). z.size) (head-is ∙ ap (λ (i : ℕ). head_at (drop i t)) o.at ∙ o.here.head)

    pub size_is : head.size ≡ block_length s p
    size_is =
        read
        ∙ ap₂ (λ (m : Map Bytes Bytes) (d : List ℕ). length (pair_bytes m ++ d)) (sym o.pairs) (sym o.content)
        ∙ length-append (pair_bytes (kept_at s p)) (content_at s p)
        ∙ ap (λ (n : ℕ). n + length (content_at s p)) (length-bytes (kept_at s p))

    -- the block is inside the arena
    pub block_inside : place.base + head.size ≤ length a
    block_inside = omega (arith, o.base, read, o.here.arena-inside)

    pub block-there : take head.size (drop place.base a) ≡ pair_bytes (kept_at s p) ++ content_at s p
    block-there =
        ap₂ (λ (n i : ℕ). take n (drop i a)) read o.base
        ∙ o.here.content
        ∙ ap₂ (λ (m : Map Bytes Bytes) (d : List ℕ). pair_bytes m ++ d) (sym o.pairs) (sym o.content)
