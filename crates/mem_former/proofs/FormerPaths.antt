-- E2: "stores from before are still whole": memory that was whole before E2 was whole before E6, and stood for the same state. Assumes nothing.
use Prim.Native.Nat.{ℕ, zero, suc, ◌+◌}
use mathlib.Core.Path.{◌≡◌, refl, ◌∙◌}
use mathlib.Core.Bool.{Bool, true, false, cond}
use mathlib.Core.List.{List, []}
use lib.Dec.{eqb}
use Rattle.base_number.specs.Number.{AreBytes}
use Rattle.machine.specs.Names.{Bytes, former_path_ok, stored_path_ok}
use Rattle.machine.proofs.Rules.{former-ok}
use Rattle.mem_row.proofs.RowLaws.{and_left, and_right, and_both}
use Rattle.mem_layout.specs.Memory.{former_whole}
use Rattle.mem_layout.proofs.TestLaws.{all_true, true-all}
use Rattle.mem_former.specs.FormerRow.{FormerRow, former_row_at, former_past_row, former_past_data, former_inside, former_good}
use Rattle.mem_former.specs.FormerMemory.{FormerMark, former_object_ok, former_object_next, former_upload_ok, former_part_ok, former_entry_ok, former_entry_next, former_start, former_next, former_objects, former_uploads, former_parts, former_rows, former_upload_tables, former_upload_arena, former_state, whole_by, whole_before_e6, whole_before_e2}
use Rattle.mem_former.specs.FormerStands.{FormerStands}
use Rattle.mem_former.proofs.FormerWhole.{former-whole-same}
use Rattle.mem_former.proofs.FormerStands.{former-written}

-- a looser rule of rows passes what a stricter one passes
good_more : (S : Type 0) (ok ok' : S → FormerRow → Bool) (next : S → FormerRow → S) → ((σ : S) (r : FormerRow) → ok σ r ≡ true → ok' σ r ≡ true)
    → (n : ℕ) (σ : S) (t a : List ℕ) → former_good S ok next n σ t a ≡ true → former_good S ok' next n σ t a ≡ true
unfolding former_good
good_more S ok ok' next h zero σ t a g = refl
good_more S ok ok' next h (suc n) σ t a g =
    let r = former_row_at t a in
    let rest = and_right (former_inside t a) _ g in
    and_both (former_inside t a) _ (and_left (former_inside t a) _ g)
    (and_both (ok' σ r) _ (h σ r (and_left (ok σ r) _ rest))
    (good_more S ok ok' next h n (next σ r) (former_past_row t) (former_past_data t a) (and_right (ok σ r) _ rest)))

module _ (was is : Bytes → Bool) (more : (p : Bytes) → was p ≡ true → is p ≡ true) where
  object-more : (last : List ℕ) (r : FormerRow) → former_object_ok was last r ≡ true → former_object_ok is last r ≡ true
  unfolding former_object_ok
  object-more last r e =
      let w = all_true _ e in
      true-all _ (w.0, (w.1.0, (w.1.1.0, (w.1.1.1.0, (more r.path w.1.1.1.1.0, w.1.1.1.1.1)))))

  upload-more : (N : ℕ) (m : FormerMark) (r : FormerRow) → former_upload_ok was N m r ≡ true → former_upload_ok is N m r ≡ true
  unfolding former_upload_ok
  upload-more N m r e =
      let w = all_true _ e in
      true-all _ (w.0, (w.1.0, (w.1.1.0, (w.1.1.1.0, (w.1.1.1.1.0, (more r.path w.1.1.1.1.1.0, w.1.1.1.1.1.1))))))

  entry_more : (N : ℕ) (m : FormerMark) (r : FormerRow) → former_entry_ok was N m r ≡ true → former_entry_ok is N m r ≡ true
  unfolding former_entry_ok
  entry_more N m r e = go (eqb r.kind 2) e
    where
      go : (k : Bool) → cond k (former_upload_ok was N m r) (former_part_ok m r) ≡ true → cond k (former_upload_ok is N m r) (former_part_ok m r) ≡ true
      go true e = upload-more N m r e
      go false e = e

  whole-more : (t a : List ℕ) → whole_by was t a ≡ true → whole_by is t a ≡ true
  unfolding whole_by
  whole-more t a e =
      let w = all_true _ e in
      let k = former_uploads t + former_parts t in
      true-all _ (
        w.0,
        (
          good_more (List ℕ) (former_object_ok was) (former_object_ok is) former_object_next object-more (former_objects t) [] (former_rows t) a w.1.0,
          (
            good_more FormerMark (former_entry_ok was (former_next t)) (former_entry_ok is (former_next t)) former_entry_next (entry_more (former_next t)) k former_start (former_upload_tables t a) (former_upload_arena t a) w.1.1.0,
            w.1.1.1,
          ),
        ),
      )

-- what was whole before E2 was whole before E6
pub whole-later : (t a : List ℕ) → whole_before_e2 t a ≡ true → whole_before_e6 t a ≡ true
unfolding whole_before_e2 whole_before_e6 stored_path_ok
whole-later t a e = whole-more former_path_ok stored_path_ok former-ok t a e

-- so carry_over takes it
pub former-whole : (t a : List ℕ) → whole_before_e2 t a ≡ true → former_whole t a ≡ true
former-whole t a e = former-whole-same t a ∙ whole-later t a e

-- and what it stood for, in which no rule of paths has a part, is a state of the present machine
pub former-stands : (t a : List ℕ) → AreBytes t → whole_before_e2 t a ≡ true → FormerStands t a (former_state t a)
former-stands t a bytes e = former-written t a bytes (whole-later t a e)
