-- An object copied to another path: what the steps require, and what memory then stands for. Assumes nothing.
use Prim.Native.Nat.{ℕ, ◌+◌, ◌≤◌}
use mathlib.Core.Path.{◌≡◌, refl, sym, ap, ◌∙◌}
use mathlib.Core.Logic.{◌⊎◌, ⊎_map}
use mathlib.Core.Bool.{false, true≢false}
use mathlib.Core.List.{List}
use native.Mathlib.Omega.{arith}
use lib.ListN.{length, take, drop}
use lib.Seq.{take_at}
use Rattle.base_number.specs.Number.{AreBytes, written}
use Rattle.base_md5.specs.declared.words.Digest.{Digest}
use Rattle.base_buffer.specs.Buffer.{spliced}
use Rattle.base_order.specs.Order.{same}
use Rattle.base_order.proofs.OrderLaws.{same_self}
use Rattle.machine.specs.Map.{Map}
use Rattle.machine.specs.Names.{Bytes}
use Rattle.machine.specs.Pairs.{pairs_held}
use Rattle.machine.specs.State.{State, object_length}
use Rattle.mem_row.specs.declared.Head.{Head}
use Rattle.mem_row.specs.Row.{head_at, lengths_at}
use Rattle.mem_layout.specs.Rules.{plain_kind}
use Rattle.mem_layout.specs.Memory.{state_of, Stands}
use Rattle.mem_find.specs.declared.Lookup.{Lookup}
use Rattle.mem_find.specs.declared.RowPlace.{RowPlace}
use Rattle.mem_edit.specs.declared.rows.OldRow.{OldRow}
use Rattle.mem_edit.specs.Objects.{row_put, RowPuttable}
use Rattle.mem_edit.proofs.OldRows.{sizes_of}
use Rattle.mem_edit.proofs.Changes.{old_rows}
use Rattle.mem_edit.proofs.ObjectEdits.{base-is, remove-data}
use Rattle.mem_edit.proofs.ObjectPuts.{Putting, putting}
use Rattle.mem_edit_copy.specs.Copy.{content_at, kept_at, copied, Copiable, CopyPlaced}
use Rattle.mem_edit_copy.proofs.Apart.{blocks-apart}
use Rattle.mem_edit_copy.proofs.Source.{ObjectThere, object-there, lengths-there, size_is, block-there}

-- bytes written to the front of a list are its front
pub front-written : (l l' s : List ℕ) → l' ≡ written l 0 s → take (length s) l' ≡ s
front-written l l' s e = ap (take (length s)) e ∙ take_at s (drop (0 + length s) l) (length s) refl

-- what a copy to another path asks for, and what memory then stands for; old is what stands there, and head that of the source's row
pub record Copying (t a p q : List ℕ) (stamp : ℕ) (digest : Digest) (from place : Lookup) (end : RowPlace) (old : OldRow) (head : Head) : Type 0 where
  pub block_room : (place.base + old.size ≤ end.base) × (end.base ≤ length a) × (end.base + head.size ≤ length a + old.size) × (from.base + head.size ≤ end.base)
      × ((from.base + head.size ≤ place.base) ⊎ (place.base + old.size ≤ from.base))
  pub row_room : (lengths : List ℕ) → lengths ≡ lengths_at (drop from.at t) → RowPuttable t place.at old end.at stamp plain_kind 0 q lengths head.size
  pub stands : (lengths : List ℕ) → lengths ≡ lengths_at (drop from.at t) → (t' a' : List ℕ)
      → t' ≡ row_put t place.at old end.at stamp plain_kind 0 digest q lengths head.size
      → a' ≡ spliced a place.base old.size end.base (take head.size (drop from.base a))
      → length t' ≡ length t → length a' ≡ length a → Stands t' a' (copied stamp digest p q (state_of t a))

module _ (t a p q : List ℕ) (b : AreBytes t) (stamp : ℕ) (digest : Digest) (pre : Copiable t a stamp digest p q) (other : same p q ≡ false)
    (from place : Lookup) (end : RowPlace) (placed : CopyPlaced t a p q from place end) (old : OldRow) (old-is : old ≡ sizes_of (old_rows (state_of t a) q))
    (head : Head) (head-is : head ≡ head_at (drop from.at t)) where
  abbrev s : State
  s = state_of t a

  abbrev m : Map Bytes Bytes
  m = kept_at s p

  there : ObjectThere t a p from
  there = object-there t a p b pre.is_whole pre.there from placed.source-place

  size : head.size ≡ pairs_held m + length (content_at s p)
  size = size_is t a p from there head head-is

  puts : Putting t a q place end old stamp plain_kind 0 digest (content_at s p) m
  puts = putting t a b pre.is_whole q place end placed.destination-place stamp plain_kind 0 digest (content_at s p) m (omega arith) (omega arith) pre.valid old old-is

  differ : p ≡ q → ⊥
  differ e = true≢false (sym (same_self q) ∙ ap (λ (l : List ℕ). same l q) (sym e) ∙ other)

  -- the source's block and the one that gives way
  apart : (from.base + head.size ≤ place.base) ⊎ (place.base + old.size ≤ from.base)
  apart =
      let held : head.size ≡ object_length there.object = size ∙ rw (there.content, there.pairs) in
      let here = base-is t a b pre.is_whole q place placed.destination-place.0 end placed.destination-place.1 in
      let gone = ap (λ (o : OldRow). o.size) old-is in
      let source = there.base in
      ⊎_map (λ z. omega arith) (λ z. omega arith) (blocks-apart s p q there.object there.found differ)

  pub copying : Copying t a p q stamp digest from place end old head
  copying =
      record {
        block_room =
            let r = puts.block_room in
            let i = remove-data t a b pre.is_whole p from placed.source-place end placed.destination-place.1 pre.there head head-is in
            (r.0, r.1, omega (arith, size), i.0, apart);
        row_room = λ ls ls-are. puts.row_room ls head.size (ls-are ∙ lengths-there t a p from there) size;
        stands =
            λ ls ls-are t' a' e e'. puts.stands ls head.size (ls-are ∙ lengths-there t a p from there) size t' a' e
            (e' ∙ ap (spliced a place.base old.size end.base) (block-there t a p from there head head-is));
      }
