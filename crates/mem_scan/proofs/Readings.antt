-- What is read of an upload and of a part, on plain lists. Assumes nothing.
use Prim.Native.Nat.{ℕ, zero, suc, ◌+◌, ◌*◌, ◌^◌, ◌≤◌}
use mathlib.Core.Path.{◌≡◌, refl, sym, ap, ◌∙◌}
use mathlib.Core.Bool.{Bool, true, false}
use mathlib.Core.List.{List}
use native.Mathlib.Omega.{arith}
use borrow.Author.Tests.{eqb-true, eqb-false}
use lib.Dec.{leb, eqb, lit<}
use lib.ListN.{length, take, drop, replicate}
use lib.Seq.{take_all}
use Rattle.base_number.specs.Number.{from_le, AreBytes}
use Rattle.base_number.proofs.NumberLaws.{from_le-same}
use Rattle.base_number.proofs.Halves.{get-halves}
use Rattle.base_order.specs.Order.{same}
use Rattle.base_order.proofs.OrderLaws.{same_self, same_false}
use Rattle.machine.proofs.Options.{both}
use Rattle.pairs_stored.specs.Stored.{block_ok}
use Rattle.pairs_stored.proofs.Blocks.{block}
use Rattle.mem_row.specs.declared.Head.{Head}
use Rattle.mem_row.specs.Row.{head_at, head_length}
use Rattle.mem_layout.specs.declared.Mark.{Mark}
use Rattle.mem_layout.specs.Rules.{no_digest, part_kind, pairs_rule, part_rule}
use Rattle.mem_layout.proofs.TestLaws.{all_true}
use Rattle.mem_scan_rows.specs.Scan.{reading_of}
use Rattle.mem_scan_rows.proofs.Readings.{row_fits}
use Rattle.std.specs.Prelude.{Option, Some, None}

-- sixteen bytes are 0 where the two numbers in them are
bytes-zeros : (n : ℕ) → AreBytes (replicate n 0)
bytes-zeros zero i = lit< tt
bytes-zeros (suc n) zero = lit< tt
bytes-zeros (suc n) (suc i) = bytes-zeros n i

module _ (d : List ℕ) (lo hi : ℕ) (b : AreBytes d) (n : length d ≡ 16) (l : lo ≡ from_le (take 8 d)) (h : hi ≡ from_le (take 8 (drop 8 d))) where
  value : lo + 256 ^ 8 * hi ≡ from_le d
  value = get-halves d 0 8 lo hi (omega arith) l h ∙ ap from_le (take_all 16 d (omega arith))

  all-zero : lo ≡ 0 → hi ≡ 0 → same d no_digest ≡ true
  unfolding from_le
  all-zero p q =
      let z : from_le d ≡ from_le no_digest = sym value ∙ rw (p, q) in
      rw (from_le-same d no_digest b (bytes-zeros 16) n z) (same_self no_digest)

  pub not-zero : (lo + 256 ^ 8 * hi ≡ 0 → ⊥) → same d no_digest ≡ false
  unfolding from_le
  not-zero n = same_false d no_digest (λ e. n (value ∙ ap from_le e))

  pub zero_rest : lo ≡ 0 → eqb hi 0 ≡ same d no_digest
  zero_rest p = pick (eqb hi 0) refl
    where
      pick : (x : Bool) → eqb hi 0 ≡ x → x ≡ same d no_digest
      pick true e = sym (all-zero p (eqb-true hi 0 e))
      pick false e = sym (not-zero (λ z. eqb-false hi 0 e (omega arith)))

-- a part's row is its head alone
module _ (m : Mark) (h : Head) (e : part_rule m h ≡ true) where
  pub part-is : (h.kind ≡ part_kind) × (h.pathlen ≡ 0) × (h.pairs ≡ 0)
  unfolding part_rule
  part-is =
      let k = all_true _ e in
      (eqb-true _ _ k.0, eqb-true _ _ k.1.1.1.0, eqb-true _ _ k.1.1.1.1.0)

  pub part-fits : (t : List ℕ) (at : ℕ) (a : List ℕ) (base : ℕ) → h ≡ head_at (drop at t) → at + head_length ≤ length t → base + h.size ≤ length a
      → (k : Head) → Some h ≡ Some k → (reading_of (drop at t) (drop base a) ≡ Some k) × (part_rule m k ≡ true)
  part-fits t at a base q l n k f =
      (row_fits t at a base h q (omega (arith, part-is)) (omega arith) ∙ f, cc)
