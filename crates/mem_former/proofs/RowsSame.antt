-- Rows by the reader before E6 and by today's: the same, by a rule that takes no kind above 3. Assumes nothing.
use Prim.Native.Nat.{ℕ, zero, suc, ◌+◌, ◌%◌, ◌/◌, ◌<◌}
use native.Mathlib.Nat.{add-zero}
use native.Mathlib.Omega.{arith}
use mathlib.Core.Path.{◌≡◌, refl, sym, ap, ◌∙◌}
use mathlib.Core.Bool.{Bool, true, false, and-false}
use mathlib.Core.List.{List, [], map, append_assoc, append-nil}
use lib.Seq.{drop-drop}
use Rattle.mem_row.specs.Fields.{fields, numbers_at}
use Rattle.mem_row.specs.Row.{Row, head_at, digest_at, path_at, lengths_at, span_at, row_bytes, encode_row, row_at, inside, rows_at, past_rows, past_data, good}
use Rattle.mem_row.proofs.RowLaws.{and_left, and_right}
use Rattle.mem_former.specs.FormerRow.{FormerRow, number_at, former_row_bytes, former_row_at, former_past_row, former_past_data, former_inside, former_rows_at, tables_after, arena_after, former_good}

-- a former row as one of today's: it has no pairs
abbrev pub today : FormerRow → Row
today r =
    record {
      number = r.number;
      stamp = r.stamp;
      kind = r.kind;
      count = r.count;
      digest = r.digest;
      path = r.path;
      pairs = 0;
      lengths = [];
      content = r.content;
    }

-- it has the same bytes
pub bytes_same : (r : FormerRow) → encode_row (today r) ≡ former_row_bytes r
unfolding row_bytes fields former_row_bytes
bytes_same r = simp (append_assoc, append-nil, add-zero)

-- One row --------------------------------------------------------------------------------------------------------------------

module _ (t : List ℕ) where
  size_same : (head_at t).size ≡ number_at 0 4 t
  unfolding head_at numbers_at
  size_same = refl

  number_same : (head_at t).number ≡ number_at 4 4 t
  unfolding head_at numbers_at
  number_same = refl

  stamp-same : (head_at t).stamp ≡ number_at 8 8 t
  unfolding head_at numbers_at
  stamp-same = simp drop-drop

  kind-is : (head_at t).kind ≡ number_at 16 1 t % 4
  unfolding head_at numbers_at
  kind-is = simp drop-drop

  pairs-are : (head_at t).pairs ≡ number_at 16 1 t / 4
  unfolding head_at numbers_at
  pairs-are = simp drop-drop

  path-length-same : (head_at t).pathlen ≡ number_at 17 1 t
  unfolding head_at numbers_at
  path-length-same = rw (drop-drop 4 4 t, drop-drop 8 8 t, drop-drop 1 16 t)

  count_same : (head_at t).count ≡ number_at 18 2 t
  unfolding head_at numbers_at
  count_same = rw (drop-drop 4 4 t, drop-drop 8 8 t, drop-drop 1 16 t, drop-drop 1 17 t)

  module _ (small : number_at 16 1 t < 4) where
    kind-same : (head_at t).kind ≡ number_at 16 1 t
    kind-same = omega (arith, kind-is)

    no_pairs : (head_at t).pairs ≡ 0
    no_pairs = omega (arith, pairs-are)

    span_same : span_at t ≡ 36 + number_at 17 1 t
    unfolding span_at
    span_same = omega (arith, path-length-same, no_pairs)

    row_same : (a : List ℕ) → row_at t a ≡ today (former_row_at t a)
    unfolding row_at former_row_at digest_at path_at lengths_at
    row_same a = rw (size_same, number_same, stamp-same, kind-same, no_pairs, path-length-same, count_same)

    inside-same : (a : List ℕ) → inside t a ≡ former_inside t a
    unfolding inside former_inside
    inside-same a = rw (span_same, size_same)

-- Rows by a rule --------------------------------------------------------------------------------------------------------------

-- two tests, each of which passes what the other passes
equal-tests : (a b : Bool) → (a ≡ true → b ≡ true) → (b ≡ true → a ≡ true) → a ≡ b
equal-tests true b f g = sym (f refl)
equal-tests false true f g = g refl
equal-tests false false f g = refl

-- a rule of today and a former one: today's takes no pairs, the former no kind above 3, and on rows without pairs they are the same; `state` is a former state of the rule as today's
pub record SameRule {S was-S : Type 0} (state : was-S → S) (ok : S → Row → Bool) (next : S → Row → S) (was : was-S → FormerRow → Bool) (was-next : was-S → FormerRow → was-S) : Type 0 where
  pub no-pair : (σ : S) (r : Row) → ok σ r ≡ true → r.pairs ≡ 0
  pub low-kind : (σ : was-S) (r : FormerRow) → was σ r ≡ true → r.kind < 4
  pub ok_same : (σ : was-S) (r : FormerRow) → ok (state σ) (today r) ≡ was σ r
  pub next-same : (σ : was-S) (r : FormerRow) → next (state σ) (today r) ≡ state (was-next σ r)

module _ {S was-S : Type 0} {state : was-S → S} {ok : S → Row → Bool} {next : S → Row → S} {was : was-S → FormerRow → Bool} {was-next : was-S → FormerRow → was-S} (both : SameRule state ok next was was-next) where
  small-kind : (σ : was-S) (t a : List ℕ) → was σ (former_row_at t a) ≡ true → number_at 16 1 t < 4
  unfolding former_row_at
  small-kind σ t a e = both.low-kind σ (former_row_at t a) e

  small-pairs : (σ : S) (t a : List ℕ) → ok σ (row_at t a) ≡ true → number_at 16 1 t < 4
  unfolding row_at
  small-pairs σ t a e = let n = both.no-pair σ (row_at t a) e in omega (arith, pairs-are t)

  here-same : (σ : was-S) (t a : List ℕ) → number_at 16 1 t < 4 → ok (state σ) (row_at t a) ≡ was σ (former_row_at t a)
  here-same σ t a small = ap (ok (state σ)) (row_same t small a) ∙ both.ok_same σ (former_row_at t a)

  rules : (σ : was-S) (t a : List ℕ) → ok (state σ) (row_at t a) ≡ was σ (former_row_at t a)
  rules σ t a =
      equal-tests _ _ (λ e. sym (here-same σ t a (small-pairs (state σ) t a e)) ∙ e) (λ e. here-same σ t a (small-kind σ t a e) ∙ e)

  pub good-same : (n : ℕ) (σ : was-S) (t a : List ℕ) → good S ok next n (state σ) t a ≡ former_good was-S was was-next n σ t a
  unfolding good former_good
  good-same zero σ t a = refl
  good-same (suc n) σ t a = go (was σ (former_row_at t a)) refl (good-same n (was-next σ (former_row_at t a)) (former_past_row t) (former_past_data t a))
    where
      go : (b : Bool) → was σ (former_row_at t a) ≡ b
          → good S ok next n (state (was-next σ (former_row_at t a))) (former_past_row t) (former_past_data t a)
          ≡ former_good was-S was was-next n (was-next σ (former_row_at t a)) (former_past_row t) (former_past_data t a)
          → good S ok next (suc n) (state σ) t a ≡ former_good was-S was was-next (suc n) σ t a
      go false e rest = rw (rules σ t a, e) (and-false (inside t a) ∙ sym (and-false (former_inside t a)))
      go true e rest =
          let small = small-kind σ t a e in
          rw (rules σ t a, e, inside-same t small a, span_same t small, size_same t, row_same t small a, both.next-same σ (former_row_at t a), rest)

  module _ (n : ℕ) (σ : was-S) (t a : List ℕ) (g : former_good was-S was was-next (suc n) σ t a ≡ true) where
    here-small : number_at 16 1 t < 4
    unfolding former_good
    here-small = small-kind σ t a (and_left (was σ (former_row_at t a)) _ (and_right (former_inside t a) _ g))

    rest-good : former_good was-S was was-next n (was-next σ (former_row_at t a)) (former_past_row t) (former_past_data t a) ≡ true
    unfolding former_good
    rest-good = and_right (was σ (former_row_at t a)) _ (and_right (former_inside t a) _ g)

  pub rows_same : (n : ℕ) (σ : was-S) (t a : List ℕ) → former_good was-S was was-next n σ t a ≡ true → rows_at n t a ≡ map today (former_rows_at n t a)
  unfolding rows_at former_rows_at
  rows_same zero σ t a g = refl
  rows_same (suc n) σ t a g =
      let small = here-small n σ t a g in
      rw (row_same t small a, span_same t small, size_same t, rows_same n (was-next σ (former_row_at t a)) (former_past_row t) (former_past_data t a) (rest-good n σ t a g))

  pub tables-same : (n : ℕ) (σ : was-S) (t a : List ℕ) → former_good was-S was was-next n σ t a ≡ true → past_rows n t ≡ tables_after n t
  unfolding past_rows tables_after
  tables-same zero σ t a g = refl
  tables-same (suc n) σ t a g =
      rw (span_same t (here-small n σ t a g)) (tables-same n (was-next σ (former_row_at t a)) (former_past_row t) (former_past_data t a) (rest-good n σ t a g))

  pub arena-same : (n : ℕ) (σ : was-S) (t a : List ℕ) → former_good was-S was was-next n σ t a ≡ true → past_data n t a ≡ arena_after n t a
  unfolding past_data arena_after
  arena-same zero σ t a g = refl
  arena-same (suc n) σ t a g =
      rw (span_same t (here-small n σ t a g), size_same t)
      (arena-same n (was-next σ (former_row_at t a)) (former_past_row t) (former_past_data t a) (rest-good n σ t a g))
