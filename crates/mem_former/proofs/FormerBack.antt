-- What was written before E6 was whole, and stood for the state that was written. Assumes nothing.
use Prim.Native.Nat.{ℕ, zero, suc, ◌+◌}
use mathlib.Core.Path.{◌≡◌, refl, sym, ap, ◌∙◌, subst}
use mathlib.Core.Bool.{Bool, true, false}
use mathlib.Core.List.{List, [], ◌∷◌}
use lib.Dec.{eqb}
use lib.ListN.{length, drop}
use Rattle.base_number.specs.Number.{AreBytes}
use Rattle.base_number.proofs.NumberLaws.{bytes_drop}
use Rattle.machine.specs.Map.{Every}
use Rattle.machine.specs.Pairs.{pairs_most}
use Rattle.machine.specs.State.{State}
use Rattle.mem_row.specs.declared.Head.{Head}
use Rattle.mem_row.specs.Row.{Row, head_of, head_at, span_at, row_at, inside, rows_at, past_rows, good, Encodable}
use Rattle.mem_row.proofs.RowLaws.{and_both, true-inside, encodable-at, here-inside, here-ok, rest-good}
use Rattle.mem_layout.specs.declared.Mark.{Mark}
use Rattle.mem_layout.specs.Header.{header_length, header_at}
use Rattle.mem_layout.specs.Rules.{upload_kind, pairs_rule, object_rule, object_ok, object_next, upload_rule, entry_rule, entry_ok, entry_next, start}
use Rattle.mem_layout.specs.Memory.{pairs_of, objects_of, nest, object_rows_at, upload_tables, upload_rows_at, state_of, objects_good, uploads_good, former_tables_length, whole_of}
use Rattle.mem_layout.proofs.TestLaws.{all_true, true-all}
use Rattle.mem_layout.proofs.PairRows.{paired}
use Rattle.mem_layout.proofs.ObjectLaws.{object-pairs}
use Rattle.mem_layout.proofs.StandsLaws.{stands-whole, stands-state}
use Rattle.mem_former.specs.FormerMemory.{former_state, whole_before_e6}
use Rattle.mem_former.specs.FormerStands.{WithoutPairs, FormerStands}
use Rattle.mem_former.proofs.FormerWhole.{former-whole-same, former-state-same}
use Rattle.mem_former.proofs.FormerStands.{stands-today}

-- Rows of a state without pairs keep the rule that takes none ---------------------------------------------------------------------

-- a row whose pairs are none counts none
counts-none : (r : Row) → Encodable r → pairs_rule pairs_most (head_of r) r.lengths r.content ≡ true → pairs_of r ≡ [] → r.pairs ≡ 0
counts-none r f e w = sym (paired pairs_most r f e).count ∙ ap length w

same-rule : (h : Head) (lengths content : List ℕ) → h.pairs ≡ 0 → pairs_rule pairs_most h lengths content ≡ pairs_rule 0 h lengths content
unfolding pairs_rule
same-rule h lengths content e = rw e

object-none : (last : List ℕ) (r : Row) (rs : List Row) → Encodable r → Every (λ p x. x.pairs ≡ []) (objects_of (r ∷ rs))
    → object_ok pairs_most last r ≡ true → object_ok 0 last r ≡ true
unfolding objects_of object_rule
object-none last r rs f w e =
    rw (← (same-rule (head_of r) r.lengths r.content (counts-none r f (object-pairs pairs_most last r e) w.0))) e

object-rest : (r : Row) (rs : List Row) → Every (λ p x. x.pairs ≡ []) (objects_of (r ∷ rs)) → Every (λ p x. x.pairs ≡ []) (objects_of rs)
unfolding objects_of
object-rest r rs w = w.1

entry-none : (N : ℕ) (m : Mark) (r : Row) (rs : List Row) → Encodable r → Every (λ u x. x.pairs ≡ []) (nest (r ∷ rs)).uploads
    → entry_ok pairs_most N m r ≡ true → entry_ok 0 N m r ≡ true
unfolding nest entry_ok entry_rule upload_rule
entry-none N m r rs f w e = go (eqb r.kind upload_kind) refl
  where
    go : (k : Bool) → eqb r.kind upload_kind ≡ k → entry_ok 0 N m r ≡ true
    go true k =
        let v = rw k at w in
        let u = rw k at e in
        rw (k, ← (same-rule (head_of r) r.lengths r.content (counts-none r f (all_true _ u).1.1.1.1.1.1.0 v.0))) u
    go false k = rw k (rw k at e)

entry-rest : (r : Row) (rs : List Row) → Every (λ u x. x.pairs ≡ []) (nest (r ∷ rs)).uploads → Every (λ u x. x.pairs ≡ []) (nest rs).uploads
unfolding nest
entry-rest r rs w = go (eqb r.kind upload_kind) refl
  where
    go : (k : Bool) → eqb r.kind upload_kind ≡ k → Every (λ u x. x.pairs ≡ []) (nest rs).uploads
    go true k = (rw k at w).1
    go false k = rw k at w

module _ (S : Type 0) (ok none : S → Row → Bool) (next : S → Row → S) (Without : List Row → Type 0)
    (here : (σ : S) (r : Row) (rs : List Row) → Encodable r → Without (r ∷ rs) → ok σ r ≡ true → none σ r ≡ true)
    (rest : (r : Row) (rs : List Row) → Without (r ∷ rs) → Without rs) where
  rows_none : (n : ℕ) (σ : S) (t a : List ℕ) → AreBytes t → Without (rows_at n t a) → good S ok next n σ t a ≡ true → good S none next n σ t a ≡ true
  unfolding rows_at good
  rows_none zero σ t a b w g = refl
  rows_none (suc n) σ t a b w g =
      let i = here-inside S ok next n σ t a g in
      let r = row_at t a in
      let t₂ = drop (span_at t) t in
      let a₂ = drop (head_at t).size a in
      and_both (inside t a) _ (true-inside t a i)
      (and_both (none σ r) _ (here σ r (rows_at n t₂ a₂) (encodable-at t a b i) w (here-ok S ok next n σ t a g))
      (rows_none n (next σ r) t₂ a₂ (bytes_drop (span_at t) t b) (rest r (rows_at n t₂ a₂) w) (rest-good S ok next n σ t a g)))

bytes_past : (n : ℕ) (t : List ℕ) → AreBytes t → AreBytes (past_rows n t)
unfolding past_rows
bytes_past zero t b = b
bytes_past (suc n) t b = bytes_past n (drop (span_at t) t) (bytes_drop (span_at t) t b)

whole-none : (T : ℕ) (t a : List ℕ) → AreBytes t → WithoutPairs (state_of t a) → whole_of T pairs_most t a ≡ true → whole_of T 0 t a ≡ true
unfolding whole_of objects_good uploads_good state_of object_rows_at upload_rows_at upload_tables
whole-none T t a b w e =
    let g = all_true _ e in
    let t₁ = drop header_length t in
    let N = (header_at t).next in
    let b₁ = bytes_drop header_length t b in
    true-all _ (
      g.0,
      (
        rows_none (List ℕ) (object_ok pairs_most) (object_ok 0) object_next (λ rs. Every (λ p x. x.pairs ≡ []) (objects_of rs)) object-none object-rest (header_at t).objects [] t₁ a b₁ w.objects g.1.0,
        (
          rows_none Mark (entry_ok pairs_most N) (entry_ok 0 N) entry_next (λ rs. Every (λ u x. x.pairs ≡ []) (nest rs).uploads) (entry-none N) entry-rest ((header_at t).uploads + (header_at t).parts) start _ _ (bytes_past (header_at t).objects t₁ b₁) w.uploads g.1.1.0,
          g.1.1.1,
        ),
      ),
    )

-- So ----------------------------------------------------------------------------------------------------------------------------------

module _ (t a : List ℕ) (s : State) (b : AreBytes t) (h : FormerStands t a s) where
  state-is : state_of t a ≡ s
  state-is = stands-state t a s (stands-today t a s h)

  -- the bytes of a state without pairs were whole
  pub written-whole : whole_before_e6 t a ≡ true
  written-whole =
      sym (former-whole-same t a)
      ∙ whole-none former_tables_length t a b (subst WithoutPairs (sym state-is) h.no_pairs) (stands-whole t a s (stands-today t a s h))

  -- and stood for that state
  pub written-state : former_state t a ≡ s
  written-state = sym (former-state-same t a written-whole) ∙ state-is
