-- The rules of rows before E6, and what rows stand for: as today's without pairs. Assumes nothing.
use Prim.Native.Nat.{ℕ, ◌<◌}
use native.Mathlib.Omega.{arith}
use mathlib.Core.Path.{◌≡◌, refl}
use mathlib.Core.Bool.{Bool, true, false, ◌&&◌, cond}
use mathlib.Core.List.{List, [], ◌∷◌, ◌++◌, map}
use borrow.Author.Tests.{eqb-true, leb-true}
use lib.Dec.{eqb, leb, ltb}
use lib.ListN.{length}
use Rattle.base_order.specs.Order.{same}
use Rattle.machine.specs.Names.{stored_path_ok, stored_part_ok}
use Rattle.machine.specs.Pairs.{kept_ok}
use Rattle.pairs_stored.specs.Stored.{pairs_at, stored_ok, block_ok}
use Rattle.mem_row.specs.Row.{Row, head_of}
use Rattle.mem_layout.specs.declared.Mark.{Mark}
use Rattle.mem_layout.specs.Rules.{upload_kind, all, no_digest, pairs_rule, object_rule, object_ok, object_next, upload_rule, part_rule, entry_rule, entry_ok, mark_after, entry_next}
use Rattle.mem_layout.specs.Memory.{objects_of, nest, uploads_among}
use Rattle.mem_layout.proofs.TestLaws.{all_true}
use Rattle.mem_layout.proofs.PairRows.{pairs-most}
use Rattle.mem_layout.proofs.ObjectLaws.{object-pairs}
use Rattle.mem_former.specs.FormerRow.{FormerRow}
use Rattle.mem_former.specs.FormerMemory.{FormerMark, former_object_ok, former_object_next, former_upload_ok, former_part_ok, former_entry_ok, former_entry_next, former_objects_of, former_nest, former_opens}
use Rattle.mem_former.proofs.RowsSame.{today, SameRule}

-- Objects ----------------------------------------------------------------------------------------------------------------------

object-no-pair : (last : List ℕ) (r : Row) → object_ok 0 last r ≡ true → r.pairs ≡ 0
object-no-pair last r e = let n = pairs-most 0 r (object-pairs 0 last r e) in omega arith

object-kind : (last : List ℕ) (r : FormerRow) → former_object_ok stored_path_ok last r ≡ true → r.kind < 4
unfolding former_object_ok
object-kind last r e = let k = leb-true r.kind 1 (all_true _ e).1.1.0 in omega arith

object-same : (last : List ℕ) (r : FormerRow) → object_ok 0 last (today r) ≡ former_object_ok stored_path_ok last r
unfolding object_rule pairs_rule block_ok stored_ok kept_ok pairs_at former_object_ok all
object-same last r = refl

pub objects-rule : SameRule {S = List ℕ} (λ last. last) (object_ok 0) object_next (former_object_ok stored_path_ok) former_object_next
objects-rule = record { no-pair = object-no-pair; low-kind = object-kind; ok_same = object-same; next-same = λ last r. refl }

-- Uploads and parts ------------------------------------------------------------------------------------------------------------

-- a former mark as one of today's
abbrev pub mark : FormerMark → Mark
mark m = record { upload = m.upload; part = m.part }

entry-no-pair : (N : ℕ) (m : Mark) (r : Row) → entry_ok 0 N m r ≡ true → r.pairs ≡ 0
unfolding entry_ok entry_rule upload_rule part_rule
entry-no-pair N m r e = go (eqb r.kind upload_kind) e
  where
    go : (k : Bool) → cond k (upload_rule 0 N m (head_of r) r.digest r.path r.lengths r.content) (part_rule m (head_of r)) ≡ true → r.pairs ≡ 0
    go true e = let n = pairs-most 0 r (all_true _ e).1.1.1.1.1.1.0 in omega arith
    go false e = eqb-true _ _ (all_true _ e).1.1.1.1.0

entry-kind : (N : ℕ) (m : FormerMark) (r : FormerRow) → former_entry_ok stored_path_ok N m r ≡ true → r.kind < 4
unfolding former_entry_ok former_part_ok
entry-kind N m r e = go (eqb r.kind 2) refl e
  where
    go : (k : Bool) → eqb r.kind 2 ≡ k → cond k (former_upload_ok stored_path_ok N m r) (former_part_ok m r) ≡ true → r.kind < 4
    go true k e = omega (arith, eqb-true r.kind 2 k)
    go false k e = omega (arith, eqb-true r.kind 3 (all_true _ e).0)

-- a test may stand last
swapped : (a b c : Bool) → a && (b && c) ≡ b && (a && c)
swapped true b c = refl
swapped false true c = refl
swapped false false c = refl

all-last : (b : Bool) (bs : List Bool) → all (bs ++ b ∷ []) ≡ all (b ∷ bs)
unfolding all
all-last b [] = refl
all-last b (c ∷ bs) = rw (all-last b bs) (swapped c b (all bs))

upload-same : (N : ℕ) (m : FormerMark) (r : FormerRow) → upload_rule 0 N (mark m) (head_of (today r)) r.digest r.path [] r.content ≡ former_upload_ok stored_path_ok N m r
unfolding upload_rule pairs_rule block_ok stored_ok kept_ok pairs_at former_upload_ok all
upload-same N m r =
    all-last (eqb (length r.content) 0)
    (eqb r.count 0
    ∷ leb 1 r.stamp
    ∷ ltb m.upload r.number
    ∷ ltb r.number N
    ∷ stored_path_ok r.path
    ∷ same r.digest no_digest
    ∷ [])

entry-same : (N : ℕ) (m : FormerMark) (r : FormerRow) → entry_ok 0 N (mark m) (today r) ≡ former_entry_ok stored_path_ok N m r
unfolding entry_ok entry_rule part_rule stored_part_ok former_entry_ok former_part_ok all
entry-same N m r = rw (upload-same N m r)

entry_next_lem : (m : FormerMark) (r : FormerRow) → entry_next (mark m) (today r) ≡ mark (former_entry_next m r)
unfolding mark_after former_entry_next
entry_next_lem m r = go (eqb r.kind 2)
  where
    go : (k : Bool) → cond k (record { upload = r.number; part = 0 }) (record { upload = m.upload; part = r.number })
        ≡ mark (cond k (record { upload = r.number; part = 0 }) (record { upload = m.upload; part = r.number }))
    go true = refl
    go false = refl

pub entries-rule : (N : ℕ) → SameRule mark (entry_ok 0 N) entry_next (former_entry_ok stored_path_ok N) former_entry_next
entries-rule N = record { no-pair = entry-no-pair N; low-kind = entry-kind N; ok_same = entry-same N; next-same = entry_next_lem }

-- What rows stand for ----------------------------------------------------------------------------------------------------------

pub objects-same : (rs : List FormerRow) → objects_of (map today rs) ≡ former_objects_of rs
unfolding objects_of former_objects_of pairs_at
objects-same [] = refl
objects-same (r ∷ rs) = rw (objects-same rs)

pub waiting-same : (rs : List FormerRow) → (nest (map today rs)).waiting ≡ (former_nest rs).waiting
unfolding nest former_nest
waiting-same [] = refl
waiting-same (r ∷ rs) = go (eqb r.kind 2) refl (waiting-same rs)
  where
    go : (k : Bool) → eqb r.kind 2 ≡ k → (nest (map today rs)).waiting ≡ (former_nest rs).waiting
        → (nest (map today (r ∷ rs))).waiting ≡ (former_nest (r ∷ rs)).waiting
    go true e w = rw e
    go false e w = rw (e, w)

pub uploads-same : (rs : List FormerRow) → (nest (map today rs)).uploads ≡ (former_nest rs).uploads
unfolding nest former_nest pairs_at
uploads-same [] = refl
uploads-same (r ∷ rs) = go (eqb r.kind 2) refl (uploads-same rs)
  where
    go : (k : Bool) → eqb r.kind 2 ≡ k → (nest (map today rs)).uploads ≡ (former_nest rs).uploads
        → (nest (map today (r ∷ rs))).uploads ≡ (former_nest (r ∷ rs)).uploads
    go true e u = rw (e, u, waiting-same rs)
    go false e u = rw (e, u)

pub opens-same : (rs : List FormerRow) → uploads_among (map today rs) ≡ former_opens rs
unfolding uploads_among former_opens
opens-same [] = refl
opens-same (r ∷ rs) = rw (opens-same rs)
