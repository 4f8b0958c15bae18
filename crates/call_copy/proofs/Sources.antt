-- COPY: the source, its refusals in checking order, and what it leaves. Assumes nothing.
use Prim.Native.Nat.{ℕ, ◌+◌, ◌-◌, ◌≤◌}
use mathlib.Core.Path.{◌≡◌, refl, sym, ap, ap₂, ◌∙◌, subst}
use mathlib.Core.Bool.{true, false, ◌&&◌}
use mathlib.Core.List.{List, ◌++◌, append_assoc}
use mathlib.Core.Option.{some}
use native.Mathlib.Omega.{arith}
use lib.ListN.{length, take, drop, take-append-drop}
use lib.Seq.{take_at, drop-drop}
use Rattle.base_number.specs.Number.{AreBytes}
use Rattle.base_md5.specs.declared.words.Digest.{Digest}
use Rattle.base_md5.specs.Md5.{md5}
use Rattle.base_order.specs.Order.{by_bytes}
use Rattle.machine.specs.Map.{Map, is_some, lookup}
use Rattle.machine.specs.Names.{Bytes, stamp_ok, request_path_ok, new_path_ok}
use Rattle.machine.specs.Pairs.{pairs_held}
use Rattle.machine.specs.State.{Object, State, with_object}
use Rattle.machine.specs.Calls.{COPY, nothing, no_buffers, accept, badRequest, notFound}
use Rattle.machine.specs.Steps.{plain_object, put_at, act, after}
use Rattle.machine.specs.Valid.{Valid}
use Rattle.machine.proofs.KeepsValid.{next-valid}
use Rattle.pairs_stored.specs.Stored.{pair_bytes, sum_of}
use Rattle.pairs_stored.proofs.StoredLaws.{sum-lengths, drop-pairs}
use Rattle.mem_row.specs.declared.Head.{Head}
use Rattle.mem_row.specs.Row.{head_at, lengths_at}
use Rattle.mem_layout.specs.Memory.{whole, state_of, Stands, arena_most}
use Rattle.mem_layout.proofs.WholeLaws.{whole-stands}
use Rattle.mem_find.specs.declared.Lookup.{Lookup}
use Rattle.mem_find.specs.Places.{object_place}
use Rattle.mem_find.proofs.Found.{is_none, place_found}
use Rattle.mem_edit_copy.specs.Copy.{content_in, pairs_in, content_at, kept_at, copied, Copiable}
use Rattle.mem_edit_copy.proofs.Source.{ObjectThere, object-there, lengths-there, size_is, block_inside, block-there}
use Rattle.call_room.specs.Judged.{PutResult}
use Rattle.mem_edit.proofs.PlainObjects.{plain-is}
use Rattle.call_room.proofs.PutAt.{put-at-accepted}
use Rattle.call_contract.specs.Made.{Memory, memory, state_in, outcome, result_of}
use Rattle.call_contract.proofs.Judging.{result-pass, result-stop, passed, result-found, result-missing, was-found}
use Rattle.call_copy.specs.Source.{source_outcome}

-- the object that a lookup found
pub source-there : (t a p : List ℕ) (place : Lookup) → AreBytes t → whole t a ≡ true → place ≡ object_place (state_of t a) p → place.found ≡ true → ObjectThere t a p place
source-there t a p place b w is e = object-there t a p b w (place_found (state_of t a) p place true is e) place is

-- the source, by the head that is read of its row
module _ (t a p : List ℕ) (place : Lookup) (o : ObjectThere t a p place) (head : Head) (head-is : head ≡ head_at (drop place.at t)) where
  abbrev s : State
  s = state_of t a

  pub block-small : place.base + head.size ≤ arena_most
  block-small = let l = o.stands.small in omega (arith, block_inside t a p place o head head-is)

  -- its data stand in its block after the n bytes of its pairs
  module _ (n : ℕ) (n-is : n ≡ sum_of (lengths_at (drop place.at t))) where
    held-is : n ≡ pairs_held (kept_at s p)
    held-is = n-is ∙ ap sum_of (lengths-there t a p place o) ∙ sum-lengths (kept_at s p)

    pub pairs-within : n ≤ head.size
    pairs-within = omega (arith, held-is, size_is t a p place o head head-is)

    pub data-read : take (place.base + head.size - (place.base + n)) (drop (place.base + n) a) ≡ content_at s p
    data-read =
        let m = kept_at s p in
        let d = content_at s p in
        let rest = drop head.size (drop place.base a) in
        let l : place.base + head.size - (place.base + n) ≡ length d = omega (arith, held-is, size_is t a p place o head head-is) in
        let cut : drop place.base a ≡ pair_bytes m ++ (d ++ rest) =
        sym (take-append-drop head.size (drop place.base a)) ∙ ap (λ (b : List ℕ). b ++ rest) (block-there t a p place o head head-is) ∙ append_assoc (pair_bytes m) d rest in
        let past : drop (place.base + n) a ≡ d ++ rest = sym (drop-drop n place.base a) ∙ ap₂ drop held-is cut ∙ drop-pairs m (d ++ rest) in
        ap₂ take l past ∙ take_at d rest (length d) refl

  pub judged-source : (r stamp : ℕ) (q : List ℕ) → PutResult t a q head.size r → r ≡ result_of (source_outcome (length a) s stamp p q)
  unfolding source_outcome
  judged-source r stamp q e =
      let x = o.object in
      e stamp (content_at s p) (kept_at s p) (sym (size_is t a p place o head head-is))
      ∙ ap₂ (λ (d : Bytes) (m : Map Bytes Bytes). result_of (put_at (length a) s stamp q d m)) o.content o.pairs
      ∙ sym (result-found (lookup by_bytes p s.O) notFound (λ (y : Object). put_at (length a) s stamp q y.content y.pairs) x o.found)

pub judged-missing : (A : ℕ) (s : State) (stamp : ℕ) (p q : List ℕ) → is_some (lookup by_bytes p s.O) ≡ false → 3 ≡ result_of (source_outcome A s stamp p q)
unfolding source_outcome
judged-missing A s stamp p q e = sym (result-missing (lookup by_bytes p s.O) notFound (λ (y : Object). put_at A s stamp q y.content y.pairs) (is_none _ e))

-- COPY over the memory m
module _ (m : Memory) (t : ℕ) (p q : Bytes) where
  abbrev A : ℕ
  A = length m.arena

  pub copy-bad : (stamp_ok t && request_path_ok p && new_path_ok q) ≡ false → 2 ≡ result_of (outcome (COPY t p q) m)
  unfolding outcome act source_outcome
  copy-bad e = sym (result-stop (stamp_ok t && request_path_ok p && new_path_ok q) badRequest (source_outcome A (state_in m) t p q) e)

  pub copy-judged : stamp_ok t ≡ true → request_path_ok p ≡ true → new_path_ok q ≡ true → (r : ℕ) → r ≡ result_of (source_outcome A (state_in m) t p q) → r ≡ result_of (outcome (COPY t p q) m)
  unfolding outcome act source_outcome
  copy-judged e f g r is = is ∙ sym (result-pass (stamp_ok t && request_path_ok p && new_path_ok q) badRequest (source_outcome A (state_in m) t p q) (rw (e, f, g)))

  -- result 0
  module _ (zero-result : result_of (outcome (COPY t p q) m) ≡ 0) where
    first : (stamp_ok t && request_path_ok p && new_path_ok q ≡ true) × (outcome (COPY t p q) m ≡ source_outcome A (state_in m) t p q)
    unfolding outcome act source_outcome
    first = passed (stamp_ok t && request_path_ok p && new_path_ok q) badRequest (source_outcome A (state_in m) t p q) zero-result

    second : (x : Object) × (lookup by_bytes p (state_in m).O ≡ some x) × (source_outcome A (state_in m) t p q ≡ put_at A (state_in m) t q x.content x.pairs)
    unfolding source_outcome
    second = was-found (lookup by_bytes p (state_in m).O) notFound (λ (y : Object). put_at A (state_in m) t q y.content y.pairs) (sym (ap result_of first.1) ∙ zero-result)

    pub copy-there : is_some (lookup by_bytes p (state_in m).O) ≡ true
    copy-there = ap is_some second.1

    content-is : second.0.content ≡ content_at (state_in m) p
    unfolding content_at
    content-is = sym (ap content_in second.1)

    pairs-are : second.0.pairs ≡ kept_at (state_in m) p
    unfolding kept_at
    pairs-are = sym (ap pairs_in second.1)

    -- the object that COPY makes
    abbrev made : Object
    made = plain_object t (content_at (state_in m) p) (kept_at (state_in m) p)

    pub copy-accepted : outcome (COPY t p q) m ≡ accept nothing no_buffers (with_object (state_in m) q made)
    copy-accepted =
        let z = sym (ap result_of (first.1 ∙ second.2)) ∙ zero-result in
        first.1 ∙ second.2 ∙ put-at-accepted A (state_in m) t q second.0.content second.0.pairs z
        ∙ ap₂ (λ (d : Bytes) (k : Map Bytes Bytes). accept nothing no_buffers (with_object (state_in m) q (plain_object t d k))) content-is pairs-are

    copy-valid : Valid A (state_in m) → Valid A (with_object (state_in m) q made)
    unfolding outcome
    copy-valid v = subst (Valid A) (ap (after (state_in m)) copy-accepted) (next-valid A (state_in m) (COPY t p q) v)

module _ (tables arena p q : List ℕ) (t : ℕ) (digest : Digest) (w : whole tables arena ≡ true) (zero-result : result_of (outcome (COPY t p q) (memory tables arena)) ≡ 0)
    (e : digest ≡ md5 (content_at (state_of tables arena) p)) where
  abbrev s₀ : State
  s₀ = state_of tables arena

  -- it is the one that the copy is
  copied_is : copied t digest p q s₀ ≡ with_object s₀ q (plain_object t (content_at s₀ p) (kept_at s₀ p))
  copied_is = ap (with_object s₀ q) (plain-is t (content_at s₀ p) (kept_at s₀ p) digest e)

  pub copy-ready : AreBytes tables → Copiable tables arena t digest p q
  copy-ready b =
      record {
        is_whole = w;
        there = copy-there (memory tables arena) t p q zero-result;
        valid = subst (Valid (length arena)) (sym copied_is) (copy-valid (memory tables arena) t p q zero-result (whole-stands tables arena b w).valid);
      }

  pub copy-stands : (t' a' : List ℕ) → Stands t' a' (copied t digest p q s₀) → Stands t' a' (with_object s₀ q (plain_object t (content_at s₀ p) (kept_at s₀ p)))
  copy-stands t' a' h = subst (Stands t' a') copied_is h
