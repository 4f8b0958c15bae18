-- The object joined from an upload's parts, put in the place of the old one once the upload is taken out: what that step
-- asks, and what memory then stands for. Assumes nothing.
use Prim.Native.Nat.{ℕ, ◌+◌, ◌≤◌}
use mathlib.Core.Path.{◌≡◌, refl, sym, ap, ap₂, ◌∙◌, subst}
use mathlib.Core.Bool.{Bool, true}
use mathlib.Core.List.{List, ◌++◌}
use native.Mathlib.Omega.{arith}
use lib.ListN.{length, take, drop, length-take, length-drop}
use Rattle.base_order.proofs.OrderLaws.{numbers}
use Rattle.machine.specs.Names.{Bytes}
use Rattle.machine.specs.State.{Object, State, held, with_object, without_upload}
use Rattle.machine.specs.Steps.{contents, joined_object}
use Rattle.machine.specs.Pairs.{kept_ok}
use Rattle.machine.specs.Etags.{joined}
use Rattle.machine.specs.Valid.{UploadOk, Valid}
use Rattle.machine.proofs.ListFits.{fit_length}
use Rattle.machine.proofs.MapLaws.{every-lookup}
use Rattle.mem_layout.specs.Memory.{rows_of, state_of, Stands}
use Rattle.mem_layout.proofs.StandsLaws.{stands-state, stands-whole}
use Rattle.pairs_stored.specs.Stored.{pair_bytes, sum_of, pairs_at, block_ok}
use Rattle.pairs_stored.proofs.StoredLaws.{stored-decode}
use Rattle.pairs_stored.proofs.Blocks.{data-back, kept_block}
use Rattle.mem_find.specs.declared.Lookup.{Lookup}
use Rattle.mem_find.specs.Places.{place_after, before_object, object_place}
use Rattle.mem_find.specs.Known.{ObjectPlaced}
use Rattle.mem_edit.specs.Objects.{block_after_held, object_after_held, Movable}
use Rattle.machine.specs.PartLists.{part_list}
use Rattle.mem_join.specs.declared.Bounds.{Bounds}
use Rattle.mem_join.specs.declared.Taken.{Taken}
use Rattle.mem_join.specs.Joined.{Listed, joined_state, JoinableWith, TakenOut}
use Rattle.mem_join.proofs.UploadBounds.{few-parts}

-- taking an upload out moves no object
place_kept : (s : State) (u : ℕ) (p : Bytes) → object_place s p ≡ object_place (without_upload s u) p
unfolding object_place before_object
place_kept s u p = refl

module _ (t a : List ℕ) (u : ℕ) (b : Bounds) (place : Lookup) (list : Bytes) (ascends : Bool) (p ls : Bytes) (stamp : ℕ) (j : JoinableWith t a u b place list ascends p ls stamp) where
  abbrev s : State
  s = state_of t a

  abbrev s₁ : State
  s₁ = without_upload s u

  abbrev k : Listed s u (part_list list)
  k = j.at_path.joinable.listed

  -- the upload is out
  module _ (h : Stands t a s) (t₁ a₁ : List ℕ) (r : Taken) (g : TakenOut t a u list k t₁ a₁ r) where
    abbrev y : Object
    y = joined_object k.upload k.listed

    abbrev y₁ : Object
    y₁ = object_after_held t₁ a₁ stamp 1 r.count r.digest ls r.size

    same : state_of t₁ a₁ ≡ s₁
    same = stands-state t₁ a₁ s₁ g.stands

    block-is : block_after_held t₁ a₁ r.size ≡ pair_bytes k.upload.pairs ++ contents k.listed
    block-is = ap (λ (z : State). take r.size (drop (held z) a₁)) same ∙ g.content

    object-is : y₁ ≡ y
    object-is =
        let m = k.upload.pairs in
        let c : drop (sum_of ls) (block_after_held t₁ a₁ r.size) ≡ contents k.listed = ap₂ (λ (l z : Bytes). drop (sum_of l) z) j.lengths-are block-is ∙ data-back m (contents k.listed) in
        let q : pairs_at ls (block_after_held t₁ a₁ r.size) ≡ m = ap₂ pairs_at j.lengths-are block-is ∙ stored-decode m (contents k.listed) in
        λ i. record { content = c i; created = j.at_path.stamp-is i; etag = joined (g.digest-is i) (g.count-is i); pairs = q i }

    kept : kept_ok k.upload.pairs ≡ true
    kept = (every-lookup numbers (UploadOk s.N) u k.upload s.U h.valid.upload k.found).pairs

    pub state-is : with_object (state_of t₁ a₁) p y₁ ≡ joined_state s u (part_list list) k
    state-is = λ i. with_object (same i) (j.at_path.path-is i) (object-is i)

    pub moved-place : ObjectPlaced t₁ a₁ p place r.end
    moved-place = (
      (j.at_path.joinable.placed k.upload k.found).1 ∙ place_kept s u k.upload.path ∙ ap₂ object_place (sym same) (sym j.at_path.path-is),
      g.end_is ∙ ap (λ (z : State). place_after (rows_of z)) (sym same),
    )

    pub movable : length a₁ ≡ length a → Movable t₁ a₁ stamp 1 r.count r.digest p ls r.size
    movable l =
        let v = g.stands.valid.room in
        record {
          is_whole = stands-whole t₁ a₁ s₁ g.stands;
          room = subst (λ (z : State). held z + r.size ≤ length a₁) (sym same)
              (omega (arith, ap length g.content, g.size_is, length-take r.size (drop (held s₁) a₁), length-drop (held s₁) a₁));
          stored = ap₂ block_ok j.lengths-are block-is ∙ kept_block k.upload.pairs (contents k.listed) kept;
          kind-most = omega arith;
          count_most = omega (arith, g.count-is, fit_length (part_list list) k.upload.parts k.listed k.fits, few-parts t a s h u k.upload k.found);
          valid = subst (λ (A : ℕ). Valid A (with_object (state_of t₁ a₁) p y₁)) (sym l)
              (subst (λ (z : State). Valid (length a) z) (sym state-is) j.at_path.joinable.valid);
        }
