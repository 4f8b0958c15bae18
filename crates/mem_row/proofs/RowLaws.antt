-- The laws of rows: what is read was written so (sound), and what is written is read back (complete), for every rule. Assumes nothing.
use Prim.Native.Nat.{ℕ, zero, suc, ◌+◌, ◌*◌, ◌%◌, ◌/◌, ◌≤◌, ◌<◌}
use mathlib.Core.Path.{◌≡◌, refl, sym, ap, ap₂, ◌∙◌, subst}
use mathlib.Core.Bool.{Bool, true, false, ◌&&◌, false≢true}
use mathlib.Core.List.{List, [], ◌∷◌, ◌++◌, append_assoc}
use native.Mathlib.Omega.{arith}
use borrow.Author.Tests.{le-leb, leb-true}
use lib.Dec.{leb}
use lib.ListN.{length, take, drop, length-take, length-drop, length-append, take-append-drop}
use lib.Seq.{drop-drop, take_at, drop_at, length-take-le}
use Rattle.base_number.proofs.NumberLaws.{bytes_drop}
use Rattle.base_number.specs.Number.{AreBytes}
use Rattle.mem_row.specs.Fields.{fields, numbers_at, WithinWidths}
use Rattle.mem_row.proofs.FieldLaws.{length_fields, fields-numbers, numbers_fit, numbers-fields}
use Rattle.mem_row.specs.declared.Head.{Head}
use Rattle.mem_row.specs.Row.{Row, widths, numbers_of, numbers_length, head_length, span, row_bytes, encode_row, encode_rows, contents_of, head_from, head_at, digest_at, path_at, lengths_at, span_at, row_at, inside, head_of, rows_at, past_rows, past_data, good, Encodable, EncodableAll}

pub and_left : (a b : Bool) → (a && b) ≡ true → a ≡ true
and_left true b e = refl
and_left false b e = e

pub and_right : (a b : Bool) → (a && b) ≡ true → b ≡ true
and_right true b e = e
and_right false b e = absurd (false≢true e)

pub and_both : (a b : Bool) → a ≡ true → b ≡ true → (a && b) ≡ true
and_both a b e f = rw (e, f)

pub record Inside (t a : List ℕ) : Type 0 where
  pub head : head_length ≤ length t
  pub row : span_at t ≤ length t
  pub content : (head_at t).size ≤ length a

pub inside-true : (t a : List ℕ) → inside t a ≡ true → Inside t a
unfolding inside
inside-true t a e =
    let f = and_right (leb head_length (length t)) _ e in
    record {
      head = leb-true _ _ (and_left (leb head_length (length t)) _ e);
      row = leb-true _ _ (and_left (leb (span_at t) (length t)) _ f);
      content = leb-true _ _ (and_right (leb (span_at t) (length t)) _ f);
    }

pub true-inside : (t a : List ℕ) → Inside t a → inside t a ≡ true
unfolding inside
true-inside t a h = and_both _ _ (le-leb _ _ h.head) (and_both _ _ (le-leb _ _ h.row) (le-leb _ _ h.content))

-- Appended rows ----------------------------------------------------------------------------------------------------------

pub encode-append : (xs ys : List Row) → encode_rows (xs ++ ys) ≡ encode_rows xs ++ encode_rows ys
unfolding encode_rows
encode-append [] ys = refl
encode-append (x ∷ xs) ys = rw (encode-append xs ys) (sym (append_assoc (encode_row x) (encode_rows xs) (encode_rows ys)))

pub contents-append : (xs ys : List Row) → contents_of (xs ++ ys) ≡ contents_of xs ++ contents_of ys
unfolding contents_of
contents-append [] ys = refl
contents-append (x ∷ xs) ys = rw (contents-append xs ys) (sym (append_assoc x.content (contents_of xs) (contents_of ys)))

pub encodable-append : (xs ys : List Row) → EncodableAll xs → EncodableAll ys → EncodableAll (xs ++ ys)
encodable-append [] ys a b = b
encodable-append (x ∷ xs) ys a b = (a.0, encodable-append xs ys a.1 b)

pub encodable-left : (xs ys : List Row) → EncodableAll (xs ++ ys) → EncodableAll xs
encodable-left [] ys a = tt
encodable-left (x ∷ xs) ys a = (a.0, encodable-left xs ys a.1)

pub encodable-right : (xs ys : List Row) → EncodableAll (xs ++ ys) → EncodableAll ys
encodable-right [] ys a = a
encodable-right (x ∷ xs) ys a = encodable-right xs ys a.1

pub length-row : (r : Row) → Encodable r → length (encode_row r) ≡ span (head_of r)
unfolding row_bytes
length-row r f = simp (length-append, length_fields widths (numbers_of (head_of r)) f.fits, f.digest, f.lengths) (omega arith)

-- kind and pairs share one byte
low_bits : (k p : ℕ) → k < 4 → (k + 4 * p) % 4 ≡ k
low_bits k p h = omega arith

high_bits : (k p : ℕ) → k < 4 → (k + 4 * p) / 4 ≡ p
high_bits k p h = omega arith

all-bits : (n : ℕ) → n % 4 + 4 * (n / 4) ≡ n
all-bits n = omega arith

head-from : (h : Head) → h.kind < 4 → head_from (numbers_of h) ≡ h
head-from h l =
    λ i. record {
      size = h.size;
      number = h.number;
      stamp = h.stamp;
      kind = low_bits h.kind h.pairs l i;
      pairs = high_bits h.kind h.pairs l i;
      pathlen = h.pathlen;
      count = h.count;
    }

-- Sound ------------------------------------------------------------------------------------------------------------------

module _ (t a : List ℕ) (b : AreBytes t) (h : Inside t a) where
  length-path_at : length (path_at t) ≡ (head_at t).pathlen
  unfolding path_at span_at
  length-path_at = rw (length-take, length-drop) (omega (arith, h.row))

  length-lengths_at : length (lengths_at t) ≡ 2 * (head_at t).pairs
  unfolding lengths_at span_at
  length-lengths_at = rw (length-take, length-drop) (omega (arith, h.row))

  length-content : length (row_at t a).content ≡ (head_at t).size
  unfolding row_at
  length-content = length-take-le (head_at t).size a h.content

  pub numbers-at : numbers_of (head_of (row_at t a)) ≡ numbers_at widths t
  unfolding row_at head_at numbers_at
  numbers-at = rw (length-content, length-path_at, all-bits)

  pub head_at_lem : head_of (row_at t a) ≡ head_at t
  unfolding row_at
  head_at_lem =
      λ i. record {
        size = length-content i;
        number = (head_at t).number;
        stamp = (head_at t).stamp;
        kind = (head_at t).kind;
        pairs = (head_at t).pairs;
        pathlen = length-path_at i;
        count = (head_at t).count;
      }

  length-digest_at : length (row_at t a).digest ≡ 16
  unfolding row_at digest_at
  length-digest_at = length-take-le 16 (drop numbers_length t) (rw length-drop (omega (arith, h.head)))

  pub encodable-at : Encodable (row_at t a)
  unfolding row_at head_at
  encodable-at =
      record {
        fits = subst (WithinWidths widths) (sym numbers-at) (numbers_fit widths t b (omega (arith, h.head)));
        digest = length-digest_at;
        kind = omega arith;
        lengths = length-lengths_at;
      }

  past-path-at : (row_at t a).lengths ++ drop (span_at t) t ≡ drop (head_length + (head_at t).pathlen) t
  unfolding row_at lengths_at span_at
  past-path-at =
      rw (← (drop-drop (2 * (head_at t).pairs) (head_length + (head_at t).pathlen) t))
      (take-append-drop (2 * (head_at t).pairs) (drop (head_length + (head_at t).pathlen) t))

  past-digest-at : (row_at t a).path ++ ((row_at t a).lengths ++ drop (span_at t) t) ≡ drop head_length t
  unfolding row_at path_at
  past-digest-at = rw (past-path-at, ← (drop-drop (head_at t).pathlen head_length t)) (take-append-drop (head_at t).pathlen (drop head_length t))

  past-numbers-at : (row_at t a).digest ++ ((row_at t a).path ++ ((row_at t a).lengths ++ drop (span_at t) t)) ≡ drop numbers_length t
  unfolding row_at digest_at
  past-numbers-at = rw (past-digest-at, ← (drop-drop 16 numbers_length t)) (take-append-drop 16 (drop numbers_length t))

  pub row-sound : encode_row (row_at t a) ++ drop (span_at t) t ≡ t
  unfolding row_bytes
  row-sound =
      rw (numbers-at, append_assoc (fields widths (numbers_at widths t)), append_assoc (row_at t a).digest, append_assoc (row_at t a).path)
      (ap (λ (l : List ℕ). fields widths (numbers_at widths t) ++ l) past-numbers-at ∙ fields-numbers widths t b (omega (arith, h.head)))

  pub content-sound : (row_at t a).content ++ drop (head_at t).size a ≡ a
  unfolding row_at
  content-sound = take-append-drop (head_at t).size a

-- Complete ---------------------------------------------------------------------------------------------------------------

module _ (r : Row) (f : Encodable r) (rest rest' : List ℕ) where
  abbrev t : List ℕ
  t = encode_row r ++ rest

  abbrev a : List ℕ
  a = r.content ++ rest'

  abbrev past : List ℕ
  past = r.digest ++ (r.path ++ (r.lengths ++ rest))

  split : t ≡ fields widths (numbers_of (head_of r)) ++ past
  unfolding row_bytes
  split = simp append_assoc

  pub head-back : head_at t ≡ head_of r
  unfolding head_at
  head-back = ap head_from (ap (numbers_at widths) split ∙ numbers-fields widths (numbers_of (head_of r)) past f.fits) ∙ head-from (head_of r) f.kind

  past-numbers : drop numbers_length t ≡ past
  past-numbers = ap (drop numbers_length) split ∙ drop_at (fields widths (numbers_of (head_of r))) past numbers_length (length_fields widths (numbers_of (head_of r)) f.fits)

  past-digest : drop head_length t ≡ r.path ++ (r.lengths ++ rest)
  past-digest = sym (drop-drop 16 numbers_length t) ∙ ap (drop 16) past-numbers ∙ drop_at r.digest (r.path ++ (r.lengths ++ rest)) 16 f.digest

  past-path : drop (head_length + length r.path) t ≡ r.lengths ++ rest
  past-path = sym (drop-drop (length r.path) head_length t) ∙ ap (drop (length r.path)) past-digest ∙ drop_at r.path (r.lengths ++ rest) (length r.path) refl

  pub digest-back : digest_at t ≡ r.digest
  unfolding digest_at
  digest-back = ap (take 16) past-numbers ∙ take_at r.digest (r.path ++ (r.lengths ++ rest)) 16 f.digest

  pub path-back : path_at t ≡ r.path
  unfolding path_at
  path-back = rw (head-back, past-digest) (take_at r.path (r.lengths ++ rest) (length r.path) refl)

  pub lengths-back : lengths_at t ≡ r.lengths
  unfolding lengths_at
  lengths-back = rw (head-back, past-path) (take_at r.lengths rest (2 * r.pairs) f.lengths)

  pub span-back : span_at t ≡ span (head_of r)
  unfolding span_at
  span-back = rw head-back

  pub size_back : (head_at t).size ≡ length r.content
  size_back = rw head-back

  pub row_back : row_at t a ≡ r
  unfolding row_at
  row_back = rw (head-back, digest-back, path-back, lengths-back, take_at r.content rest' (length r.content) refl)

  pub rest_back : drop (span_at t) t ≡ rest
  rest_back =
      rw span-back
      (sym (drop-drop (2 * r.pairs) (head_length + length r.path) t) ∙ ap (drop (2 * r.pairs)) past-path ∙ drop_at r.lengths rest (2 * r.pairs) f.lengths)

  pub content-back : drop (head_at t).size a ≡ rest'
  content-back = rw size_back (drop_at r.content rest' (length r.content) refl)

  pub inside_back : Inside t a
  inside_back =
      let l : length t ≡ span (head_of r) + length rest = rw (length-append, length-row r f) in
      record {
        head = omega arith;
        row = rw span-back (omega arith);
        content = rw (size_back, length-append) (omega arith);
      }

-- Runs of rows -----------------------------------------------------------------------------------------------------------

module _ (S : Type 0) (ok : S → Row → Bool) (next : S → Row → S) where
  -- the rows keep the rule, each at the state that those before it leave
  abbrev pub Follows : S → List Row → Type 0
  Follows σ [] = Unit {0}
  Follows σ (r ∷ rs) = (ok σ r ≡ true) × Follows (next σ r) rs

  module _ (n : ℕ) (σ : S) (t a : List ℕ) (g : good S ok next (suc n) σ t a ≡ true) where
    pub here-inside : Inside t a
    unfolding good
    here-inside = inside-true t a (and_left (inside t a) _ g)

    pub here-ok : ok σ (row_at t a) ≡ true
    unfolding good
    here-ok = and_left (ok σ (row_at t a)) _ (and_right (inside t a) _ g)

    pub rest-good : good S ok next n (next σ (row_at t a)) (drop (span_at t) t) (drop (head_at t).size a) ≡ true
    unfolding good
    rest-good = and_right (ok σ (row_at t a)) _ (and_right (inside t a) _ g)

  pub rows-sound : (n : ℕ) (σ : S) (t a : List ℕ) → AreBytes t → good S ok next n σ t a ≡ true → encode_rows (rows_at n t a) ++ past_rows n t ≡ t
  unfolding rows_at encode_rows past_rows
  rows-sound zero σ t a b g = refl
  rows-sound (suc n) σ t a b g =
      rw (
        append_assoc (encode_row (row_at t a)),
        rows-sound n (next σ (row_at t a)) (drop (span_at t) t) (drop (head_at t).size a) (bytes_drop (span_at t) t b) (rest-good n σ t a g),
      )
      (row-sound t a b (here-inside n σ t a g))

  pub contents-sound : (n : ℕ) (σ : S) (t a : List ℕ) → AreBytes t → good S ok next n σ t a ≡ true → contents_of (rows_at n t a) ++ past_data n t a ≡ a
  unfolding rows_at contents_of past_data
  contents-sound zero σ t a b g = refl
  contents-sound (suc n) σ t a b g =
      rw (
        append_assoc (row_at t a).content,
        contents-sound n (next σ (row_at t a)) (drop (span_at t) t) (drop (head_at t).size a) (bytes_drop (span_at t) t b) (rest-good n σ t a g),
      )
      (content-sound t a b (here-inside n σ t a g))

  pub follows-sound : (n : ℕ) (σ : S) (t a : List ℕ) → good S ok next n σ t a ≡ true → Follows σ (rows_at n t a)
  unfolding rows_at
  follows-sound zero σ t a g = tt
  follows-sound (suc n) σ t a g = (here-ok n σ t a g, follows-sound n (next σ (row_at t a)) (drop (span_at t) t) (drop (head_at t).size a) (rest-good n σ t a g))

  pub encodable-sound : (n : ℕ) (σ : S) (t a : List ℕ) → AreBytes t → good S ok next n σ t a ≡ true → EncodableAll (rows_at n t a)
  unfolding rows_at
  encodable-sound zero σ t a b g = tt
  encodable-sound (suc n) σ t a b g = (
    encodable-at t a b (here-inside n σ t a g),
    encodable-sound n (next σ (row_at t a)) (drop (span_at t) t) (drop (head_at t).size a) (bytes_drop (span_at t) t b) (rest-good n σ t a g),
  )

  pub rows-complete : (σ : S) (rs : List Row) (rest rest' : List ℕ) → EncodableAll rs → Follows σ rs
      → good S ok next (length rs) σ (encode_rows rs ++ rest) (contents_of rs ++ rest') ≡ true
  unfolding encode_rows contents_of good
  rows-complete σ [] rest rest' f v = refl
  rows-complete σ (r ∷ rs) rest rest' f v =
      let x = encode_rows rs ++ rest in
      let y = contents_of rs ++ rest' in
      rw
      (append_assoc (encode_row r), append_assoc r.content, true-inside _ _ (inside_back r f.0 x y), row_back r f.0 x y, rest_back r f.0 x y, content-back r f.0 x y, v.0)
      (rows-complete (next σ r) rs rest rest' f.1 v.1)

pub length-rows_at : (n : ℕ) (t a : List ℕ) → length (rows_at n t a) ≡ n
unfolding rows_at
length-rows_at zero t a = refl
length-rows_at (suc n) t a = ap suc (length-rows_at n (drop (span_at t) t) (drop (head_at t).size a))

pub rows_back : (rs : List Row) (rest rest' : List ℕ) → EncodableAll rs → rows_at (length rs) (encode_rows rs ++ rest) (contents_of rs ++ rest') ≡ rs
unfolding rows_at encode_rows contents_of
rows_back [] rest rest' f = refl
rows_back (r ∷ rs) rest rest' f =
    let x = encode_rows rs ++ rest in
    let y = contents_of rs ++ rest' in
    rw
    (append_assoc (encode_row r), append_assoc r.content, row_back r f.0 x y, rest_back r f.0 x y, content-back r f.0 x y)
    (ap (λ (l : List Row). r ∷ l) (rows_back rs rest rest' f.1))

pub past_back : (rs : List Row) (rest : List ℕ) → EncodableAll rs → past_rows (length rs) (encode_rows rs ++ rest) ≡ rest
unfolding past_rows encode_rows
past_back [] rest f = refl
past_back (r ∷ rs) rest f =
    ap (past_rows (suc (length rs))) (append_assoc (encode_row r) (encode_rows rs) rest)
    ∙ ap (past_rows (length rs)) (rest_back r f.0 (encode_rows rs ++ rest) [])
    ∙ past_back rs rest f.1

pub past-data-back : (rs : List Row) (rest rest' : List ℕ) → EncodableAll rs → past_data (length rs) (encode_rows rs ++ rest) (contents_of rs ++ rest') ≡ rest'
unfolding past_data encode_rows contents_of
past-data-back [] rest rest' f = refl
past-data-back (r ∷ rs) rest rest' f =
    let x = encode_rows rs ++ rest in
    let y = contents_of rs ++ rest' in
    ap₂ (past_data (suc (length rs))) (append_assoc (encode_row r) (encode_rows rs) rest) (append_assoc r.content (contents_of rs) rest')
    ∙ ap₂ (past_data (length rs)) (rest_back r f.0 x y) (content-back r f.0 x y)
    ∙ past-data-back rs rest rest' f.1
