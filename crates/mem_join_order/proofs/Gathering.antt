-- The digests of parts in listed order, gathered one by one. Assumes nothing.
use Prim.Native.Nat.{ℕ, ◌+◌, ◌*◌, ◌≤◌, ◌<◌}
use mathlib.Core.Path.{◌≡◌, refl, sym, ap, ap₂, ◌∙◌, subst}
use mathlib.Core.List.{List, [], ◌∷◌, ◌++◌, append_assoc, append-nil}
use native.Mathlib.Nat.{not-suc-le-zero}
use native.Mathlib.Omega.{arith}
use lib.ListN.{length, take, drop, length-append}
use lib.Seq.{drop_at, drop-drop, take_at, length-take-le}
use Rattle.machine.specs.State.{Part}
use Rattle.machine.specs.Steps.{digests}
use Rattle.mem_row.specs.Row.{Row, encode_row, encode_rows, digest_at, numbers_length, head_length, EncodableAll}
use Rattle.mem_row.proofs.RowLaws.{length-row, digest-back}
use Rattle.mem_layout.specs.Memory.{part_row}
use Rattle.mem_join_order.specs.Region.{listed_rows}
use Rattle.mem_join_order.specs.Digests.{OrderedAt}

uncons : {A : Type 0} (l : List A) → 0 < length l → (x : A) × (xs : List A) × (l ≡ x ∷ xs)
uncons [] h = absurd (not-suc-le-zero h)
uncons (x ∷ xs) h = (x, xs, refl)

-- the first row, and those after it
pub record FirstRow (t : List ℕ) (at count : ℕ) (k : OrderedAt t at count) : Type 0 where
  pub part : Part
  pub rest : List Part
  pub listed : k.listed ≡ part ∷ rest
  pub inside : at + head_length ≤ length t
  pub digest : take 16 (drop (at + numbers_length) t) ≡ part.digest
  pub width : length part.digest ≡ 16
  pub left : ℕ
  pub one_less : left + 1 ≡ count
  pub next : OrderedAt t (at + head_length) left
  pub next-listed : next.listed ≡ rest

module _ (t : List ℕ) (at count : ℕ) (k : OrderedAt t at count) (more : 0 < count) where
  abbrev numbers : (n : ℕ) × (ns : List ℕ) × (k.numbers ≡ n ∷ ns)
  numbers = uncons k.numbers (let l = k.numbered in omega arith)

  abbrev parts : (y : Part) × (ys : List Part) × (k.listed ≡ y ∷ ys)
  parts = uncons k.listed (let l = k.many in omega arith)

  abbrev row : Row
  row = part_row numbers.0 parts.0

  abbrev rows : List Row
  rows = listed_rows numbers.1 parts.1

  rows_are : listed_rows k.numbers k.listed ≡ row ∷ rows
  unfolding listed_rows
  rows_are = ap₂ listed_rows numbers.2 parts.2

  encodable : EncodableAll (row ∷ rows)
  encodable = subst EncodableAll rows_are k.encodable

  told : t ≡ k.before ++ (encode_row row ++ (encode_rows rows ++ k.after))
  unfolding encode_rows
  told =
      k.tables
      ∙ ap (λ (rs : List Row). k.before ++ (encode_rows rs ++ k.after)) rows_are
      ∙ ap (λ (l : List ℕ). k.before ++ l) (append_assoc (encode_row row) (encode_rows rows) k.after)

  here : drop at t ≡ encode_row row ++ (encode_rows rows ++ k.after)
  here = ap (drop at) told ∙ drop_at k.before (encode_row row ++ (encode_rows rows ++ k.after)) at k.starts

  read : take 16 (drop (at + numbers_length) t) ≡ parts.0.digest
  unfolding digest_at
  read = rw (← (drop-drop numbers_length at t)) (ap digest_at here ∙ digest-back row encodable.0 (encode_rows rows ++ k.after) [])

  pub first-row : FirstRow t at count k
  first-row =
      let rest = encode_rows rows ++ k.after in
      let span : length (encode_row row) ≡ head_length = length-row row encodable.0 in
      let s = k.starts in
      let m = k.many in
      let n = k.numbered in
      let many : length parts.1 + 1 ≡ count = omega (arith, ap length parts.2) in
      record {
        part = parts.0;
        rest = parts.1;
        listed = parts.2;
        inside = omega (arith, ap length told, length-append k.before (encode_row row ++ rest), length-append (encode_row row) rest);
        digest = read;
        width = encodable.0.digest;
        left = length parts.1;
        one_less = many;
        next = record {
          numbers = numbers.1;
          listed = parts.1;
          before = k.before ++ encode_row row;
          after = k.after;
          tables = told ∙ sym (append_assoc k.before (encode_row row) rest);
          starts = omega (arith, length-append k.before (encode_row row));
          numbered = omega (arith, ap length numbers.2);
          many = refl;
          encodable = encodable.1;
        };
        next-listed = refl;
      }

-- the digests of the first i parts stand at the front of `all`
pub record Gathered (t : List ℕ) (at count : ℕ) (k : OrderedAt t at count) (all : List ℕ) (i : ℕ) : Type 0 where
  pub place : ℕ
  pub place_is : place ≡ at + head_length * i
  pub left : ℕ
  pub left_is : left + i ≡ count
  pub rest : OrderedAt t place left
  pub same : take (16 * i) all ++ digests rest.listed ≡ digests k.listed

module _ (t : List ℕ) (at count : ℕ) (k : OrderedAt t at count) where
  pub gathered_none : (all : List ℕ) → Gathered t at count k all 0
  gathered_none all = record { place = at; place_is = omega arith; left = count; left_is = omega arith; rest = k; same = refl }

  pub gathered-all : (all : List ℕ) (i : ℕ) → Gathered t at count k all i → count ≤ i → take (16 * count) all ≡ digests k.listed
  gathered-all all i g h =
      let q = g.left_is in
      let m = g.rest.many in
      let e : i ≡ count = omega arith in
      let z : length g.rest.listed ≤ 0 = omega arith in
      let n = nothing g.rest.listed z in
      sym (ap (λ (ys : List Part). take (16 * i) all ++ digests ys) n ∙ append-nil (take (16 * i) all) ∙ ap (λ (j : ℕ). take (16 * j) all) e) ∙ g.same
    where
      nothing : (ys : List Part) → length ys ≤ 0 → ys ≡ []
      nothing [] h = refl
      nothing (y ∷ ys) h = absurd (not-suc-le-zero h)

  module _ (all : List ℕ) (i : ℕ) (g : Gathered t at count k all i) (more : i < count) where
    pub turn : FirstRow t g.place g.left g.rest
    turn = first-row t g.place g.left g.rest (let q = g.left_is in omega arith)

    pub row_inside : at + head_length * i + head_length ≤ length t
    row_inside = let l = turn.inside in let q = g.place_is in omega arith

    pub gathered_next : (all' src : List ℕ) → 16 * i ≤ length all → src ≡ take 16 (drop (at + head_length * i + numbers_length) t) → all' ≡ take (16 * i) all ++ src ++ drop (16 * i + length src) all
        → Gathered t at count k all' (i + 1)
    gathered_next all' src room is e =
        let r = turn in
        let got : src ≡ r.part.digest = is ∙ ap (λ (p : ℕ). take 16 (drop (p + numbers_length) t)) (sym g.place_is) ∙ r.digest in
        let front : length (take (16 * i) all) ≡ 16 * i = length-take-le (16 * i) all room in
        let both : length (take (16 * i) all ++ src) ≡ 16 * (i + 1) = omega (arith, length-append (take (16 * i) all) src, ap length got, r.width) in
        let q = g.place_is in
        let p = g.left_is in
        let o = r.one_less in
        let take-is : take (16 * (i + 1)) all' ≡ take (16 * i) all ++ src = ap (take (16 * (i + 1))) e ∙ take_at (take (16 * i) all ++ src) (drop (16 * i + length src) all) (16 * (i + 1)) both in
        record {
          place = g.place + head_length;
          place_is = omega arith;
          left = r.left;
          left_is = omega arith;
          rest = r.next;
          same =
              ap₂ (λ (l : List ℕ) (ys : List Part). l ++ digests ys) take-is r.next-listed
              ∙ append_assoc (take (16 * i) all) src (digests r.rest)
              ∙ ap (λ (l : List ℕ). take (16 * i) all ++ (l ++ digests r.rest)) got
              ∙ ap (λ (ys : List Part). take (16 * i) all ++ digests ys) (sym r.listed)
              ∙ g.same;
        }
