-- Memory that was whole before E2 is whole by the former layout, and stands for the same state; what was whole before E7 is whole. Assumes nothing.
use Prim.Native.Nat.{ℕ, zero, suc, ◌+◌, ◌*◌}
use native.Mathlib.Omega.{arith}
use mathlib.Core.Path.{◌≡◌, refl, ◌∙◌}
use mathlib.Core.Bool.{Bool, true, false, ◌&&◌, cond}
use mathlib.Core.List.{List, []}
use borrow.Author.Tests.{lt-leb, ne_eqb}
use lib.Dec.{leb, eqb}
use lib.ListN.{length, take, drop}
use Rattle.base_number.specs.Number.{AreBytes}
use Rattle.machine.specs.Names.{Bytes, former_path_ok, stored_path_ok, stored_part_ok}
use Rattle.machine.specs.Pairs.{kept_ok}
use Rattle.machine.proofs.Rules.{former-ok}
use Rattle.pairs_stored.specs.Stored.{sum_of, pairs_at, stored_ok, block_ok}
use Rattle.mem_row.specs.declared.Head.{Head}
use Rattle.mem_row.specs.Row.{Row, head_length, head_of, head_at, lengths_at, row_at, span_at, inside, good}
use Rattle.mem_row.proofs.RowLaws.{and_left, and_right, and_both}
use Rattle.mem_layout.specs.declared.Mark.{Mark}
use Rattle.mem_layout.specs.Header.{header_length, header_at}
use Rattle.mem_layout.specs.Rules.{upload_kind, all, pairs_rule, part_rule, object_rule, object_ok, upload_rule, entry_rule, object_next, entry_ok, entry_next, start}
use Rattle.mem_layout.specs.Memory.{objects_good, uploads_good, upload_tables, upload_arena, former_tables_length, whole_of, state_of, StandsOf}
use Rattle.mem_layout.specs.Memory as memory
use Rattle.mem_layout.proofs.TestLaws.{all_true, true-all}
use Rattle.mem_layout.proofs.WholeLaws.{whole_of-stands}
use Rattle.mem_former.specs.Former.{former_part_rule, former_parts_whole, object_rule_by, upload_rule_by, entry_rule_by, object_ok_by, entry_ok_by, whole_by, former_whole}

-- a row without pairs keeps their rule, whatever its block is
no-pairs : (n : ℕ) (t c : List ℕ) → leb n 0 && block_ok (take (2 * n) t) c ≡ eqb n 0
unfolding block_ok stored_ok kept_ok pairs_at
no-pairs zero t c = refl
no-pairs (suc n) t c = rw (lt-leb (suc n) 0 (omega arith), ne_eqb (suc n) 0 (λ e. omega arith))

-- and that of an upload is empty
no-block : (n : ℕ) (t c : List ℕ) (size : ℕ) → (leb n 0 && block_ok (take (2 * n) t) c) && (eqb size (sum_of (take (2 * n) t)) && true) ≡ eqb n 0 && (eqb size 0 && true)
unfolding block_ok stored_ok kept_ok pairs_at
no-block zero t c size = refl
no-block (suc n) t c size = rw (lt-leb (suc n) 0 (omega arith), ne_eqb (suc n) 0 (λ e. omega arith))

module _ (t a : List ℕ) where
  -- what stands after the path of the row at the front of t
  abbrev rest : List ℕ
  rest = drop (head_length + (head_at t).pathlen) t

  object-is : (last : List ℕ) → object_ok 0 last (row_at t a) ≡ object_ok_by stored_path_ok last (row_at t a)
  unfolding object_rule object_rule_by pairs_rule row_at lengths_at
  object-is last = rw (no-pairs (head_at t).pairs rest (take (head_at t).size a))

  entry-is : (N : ℕ) (m : Mark) → entry_ok 0 N m (row_at t a) ≡ entry_ok_by stored_path_ok N m (row_at t a)
  unfolding entry_ok entry_rule entry_rule_by upload_rule upload_rule_by pairs_rule part_rule former_part_rule stored_part_ok all row_at lengths_at
  entry-is N m = rw (no-block (head_at t).pairs rest (take (head_at t).size a) (length (take (head_at t).size a)))

-- two rules of rows that agree on rows of memory
good-same : (S : Type 0) (ok ok' : S → Row → Bool) (next : S → Row → S) → ((σ : S) (t a : List ℕ) → ok σ (row_at t a) ≡ ok' σ (row_at t a))
    → (n : ℕ) (σ : S) (t a : List ℕ) → good S ok next n σ t a ≡ good S ok' next n σ t a
unfolding good
good-same S ok ok' next h zero σ t a = refl
good-same S ok ok' next h (suc n) σ t a =
    rw (h σ t a, good-same S ok ok' next h n (next σ (row_at t a)) (drop (span_at t) t) (drop (head_at t).size a))

-- the test of the former layout is this one, by the present rule
pub whole-is : (t a : List ℕ) → memory.former_whole t a ≡ whole_by stored_path_ok t a
unfolding whole_of whole_by objects_good uploads_good
whole-is t a =
    rw (
      good-same (List ℕ) (object_ok 0) (object_ok_by stored_path_ok) object_next (λ σ t a. object-is t a σ) (header_at t).objects [] (drop header_length t) a,
      good-same Mark (entry_ok 0 (header_at t).next) (entry_ok_by stored_path_ok (header_at t).next) entry_next (λ σ u b. entry-is u b (header_at t).next σ) ((header_at t).uploads + (header_at t).parts) start (upload_tables t a) (upload_arena t a),
    )

-- a looser rule of rows passes what a stricter one passes
good-more : (S : Type 0) (ok ok' : S → Row → Bool) (next : S → Row → S) → ((σ : S) (r : Row) → ok σ r ≡ true → ok' σ r ≡ true) → (n : ℕ) (σ : S) (t a : List ℕ) → good S ok next n σ t a ≡ true → good S ok' next n σ t a ≡ true
unfolding good
good-more S ok ok' next h zero σ t a g = refl
good-more S ok ok' next h (suc n) σ t a g =
    let rest = and_right (inside t a) _ g in
    and_both (inside t a) _ (and_left (inside t a) _ g)
    (and_both (ok' σ (row_at t a)) _ (h σ (row_at t a) (and_left (ok σ (row_at t a)) _ rest))
    (good-more S ok ok' next h n (next σ (row_at t a)) (drop (span_at t) t) (drop (head_at t).size a) (and_right (ok σ (row_at t a)) _ rest)))

module _ (was is : Bytes → Bool) (more : (p : Bytes) → was p ≡ true → is p ≡ true) where
  object-more : (last : List ℕ) (r : Row) → object_ok_by was last r ≡ true → object_ok_by is last r ≡ true
  unfolding object_rule_by
  object-more last r e =
      let w = all_true _ e in
      true-all _ (w.0, (w.1.0, (w.1.1.0, (w.1.1.1.0, (more r.path w.1.1.1.1.0, w.1.1.1.1.1)))))

  upload-more : (N : ℕ) (m : Mark) (h : Head) (digest path : List ℕ) → upload_rule_by was N m h digest path ≡ true → upload_rule_by is N m h digest path ≡ true
  unfolding upload_rule_by
  upload-more N m h digest path e =
      let w = all_true _ e in
      true-all _ (w.0, (w.1.0, (w.1.1.0, (w.1.1.1.0, (more path w.1.1.1.1.0, w.1.1.1.1.1)))))

  entry-more : (N : ℕ) (m : Mark) (r : Row) → entry_ok_by was N m r ≡ true → entry_ok_by is N m r ≡ true
  unfolding entry_rule_by
  entry-more N m r e = go (eqb (head_of r).kind upload_kind) e
    where
      go : (k : Bool) → cond k (upload_rule_by was N m (head_of r) r.digest r.path) (former_part_rule m (head_of r)) ≡ true
          → cond k (upload_rule_by is N m (head_of r) r.digest r.path) (former_part_rule m (head_of r)) ≡ true
      go true e = upload-more N m (head_of r) r.digest r.path e
      go false e = e

  whole-more : (t a : List ℕ) → whole_by was t a ≡ true → whole_by is t a ≡ true
  unfolding whole_by
  whole-more t a e =
      let w = all_true _ e in
      true-all _ (
        w.0,
        (
          good-more (List ℕ) (object_ok_by was) (object_ok_by is) object_next object-more (header_at t).objects [] (drop header_length t) a w.1.0,
          (
            good-more Mark (entry_ok_by was (header_at t).next) (entry_ok_by is (header_at t).next) entry_next (entry-more (header_at t).next) ((header_at t).uploads + (header_at t).parts) start (upload_tables t a) (upload_arena t a) w.1.1.0,
            w.1.1.1,
          ),
        ),
      )

-- E2: "stores from before are still whole"
pub former-whole : (t a : List ℕ) → former_whole t a ≡ true → memory.former_whole t a ≡ true
unfolding former_whole stored_path_ok
former-whole t a e = whole-is t a ∙ whole-more former_path_ok stored_path_ok former-ok t a e

-- and what such memory stands for, in which no rule of paths has a part, is a state of the present machine
pub former-stands : (t a : List ℕ) → AreBytes t → former_whole t a ≡ true → StandsOf former_tables_length t a (state_of t a)
former-stands t a bytes e = whole_of-stands former_tables_length 0 (omega arith) t a bytes (former-whole t a e)

-- what was whole before E7 is whole, and nothing else, in both layouts; what it stands for, `state_of`, asks no rule of part numbers
pub parts-whole : (T most : ℕ) (t a : List ℕ) → whole_of T most t a ≡ former_parts_whole T most t a
unfolding whole_of former_parts_whole uploads_good entry_ok entry_rule part_rule former_part_rule stored_part_ok
parts-whole T most t a = refl
