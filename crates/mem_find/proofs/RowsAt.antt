-- What stands in tables and arena after some rows of a state, and at a row. Assumes nothing.
use Prim.Native.Nat.{ℕ, ◌+◌, ◌≤◌}
use mathlib.Core.Path.{◌≡◌, refl, sym, ap, ◌∙◌, subst}
use mathlib.Core.List.{List, [], ◌∷◌, ◌++◌, append_assoc}
use native.Mathlib.Omega.{arith}
use lib.ListN.{length, take, drop, length-append}
use lib.Seq.{take_at, drop_at, drop-drop}
use Rattle.machine.specs.State.{State}
use Rattle.mem_row.specs.declared.Head.{Head}
use Rattle.mem_row.specs.Row.{Row, encode_row, encode_rows, contents_of, head_at, digest_at, path_at, lengths_at, head_of, numbers_length, head_length, span, Encodable, EncodableAll}
use Rattle.mem_row.proofs.RowLaws.{encode-append, contents-append, encodable-right, length-row, head-back, digest-back, path-back, lengths-back}
use Rattle.mem_layout.specs.Memory.{rows_of, Stands}
use Rattle.mem_layout.proofs.StandsLaws.{rows-encodable, length-header}
use Rattle.mem_layout.specs.Header.{encode_header, header_length}

-- tables and arena, cut after the rows xs, where ys are the rest
pub record Cut (t a : List ℕ) (s : State) (h : Stands t a s) (xs ys : List Row) : Type 0 where
  pub before : take (header_length + length (encode_rows xs)) t ≡ encode_header (length a) s ++ encode_rows xs
  pub after : drop (header_length + length (encode_rows xs)) t ≡ encode_rows ys ++ h.tables-free
  pub inside : header_length + length (encode_rows xs) ≤ length t
  pub arena-before : take (length (contents_of xs)) a ≡ contents_of xs
  pub arena-after : drop (length (contents_of xs)) a ≡ contents_of ys ++ h.arena-free
  pub arena-inside : length (contents_of xs) ≤ length a

module _ (t a : List ℕ) (s : State) (h : Stands t a s) (xs ys : List Row) (e : rows_of s ≡ xs ++ ys) where
  tables-cut : t ≡ (encode_header (length a) s ++ encode_rows xs) ++ (encode_rows ys ++ h.tables-free)
  tables-cut = h.tables ∙ rw (e, encode-append) (simp append_assoc)

  arena-cut : a ≡ contents_of xs ++ (contents_of ys ++ h.arena-free)
  arena-cut = h.arena ∙ rw (e, contents-append) (simp append_assoc)

  length_front : length (encode_header (length a) s ++ encode_rows xs) ≡ header_length + length (encode_rows xs)
  length_front = rw (length-append, length-header (length a) s h.small h.valid)

  pub cut : Cut t a s h xs ys
  cut =
      record {
        before = ap (take (header_length + length (encode_rows xs))) tables-cut ∙ take_at (encode_header (length a) s ++ encode_rows xs) (encode_rows ys ++ h.tables-free) (header_length + length (encode_rows xs)) length_front;
        after = ap (drop (header_length + length (encode_rows xs))) tables-cut ∙ drop_at (encode_header (length a) s ++ encode_rows xs) (encode_rows ys ++ h.tables-free) (header_length + length (encode_rows xs)) length_front;
        inside = omega (arith, ap length tables-cut, length-append (encode_header (length a) s ++ encode_rows xs) (encode_rows ys ++ h.tables-free), length_front);
        arena-before = ap (take (length (contents_of xs))) arena-cut ∙ take_at (contents_of xs) (contents_of ys ++ h.arena-free) (length (contents_of xs)) refl;
        arena-after = ap (drop (length (contents_of xs))) arena-cut ∙ drop_at (contents_of xs) (contents_of ys ++ h.arena-free) (length (contents_of xs)) refl;
        arena-inside = omega (arith, ap length arena-cut, length-append (contents_of xs) (contents_of ys ++ h.arena-free));
      }

-- the row r after the rows xs: what is read of it, that it stands inside, and where the next row begins
pub record At (t a : List ℕ) (s : State) (h : Stands t a s) (xs : List Row) (r : Row) (ys : List Row) : Type 0 where
  pub encodable : Encodable r
  pub row : drop (header_length + length (encode_rows xs)) t ≡ encode_row r ++ (encode_rows ys ++ h.tables-free)
  pub head : head_at (drop (header_length + length (encode_rows xs)) t) ≡ head_of r
  pub digest : take 16 (drop (header_length + length (encode_rows xs) + numbers_length) t) ≡ r.digest
  pub path : take (length r.path) (drop (header_length + length (encode_rows xs) + head_length) t) ≡ r.path
  pub lengths : lengths_at (drop (header_length + length (encode_rows xs)) t) ≡ r.lengths
  pub inside : header_length + length (encode_rows xs) + span (head_of r) ≤ length t
  pub next : header_length + length (encode_rows (xs ++ (r ∷ []))) ≡ header_length + length (encode_rows xs) + span (head_of r)
  pub arena : drop (length (contents_of xs)) a ≡ r.content ++ (contents_of ys ++ h.arena-free)
  pub content : take (length r.content) (drop (length (contents_of xs)) a) ≡ r.content
  pub arena-inside : length (contents_of xs) + length r.content ≤ length a
  pub arena-next : length (contents_of (xs ++ (r ∷ []))) ≡ length (contents_of xs) + length r.content

module _ (t a : List ℕ) (s : State) (h : Stands t a s) (xs : List Row) (r : Row) (ys : List Row) (e : rows_of s ≡ xs ++ (r ∷ ys)) where
  abbrev place : ℕ
  place = header_length + length (encode_rows xs)

  row-encodable : Encodable r
  row-encodable = (encodable-right xs (r ∷ ys) (subst EncodableAll e (rows-encodable (length a) s h.small h.valid))).0

  row_here : drop place t ≡ encode_row r ++ (encode_rows ys ++ h.tables-free)
  unfolding encode_rows
  row_here = (cut t a s h xs (r ∷ ys) e).after ∙ append_assoc (encode_row r) (encode_rows ys) h.tables-free

  content-here : drop (length (contents_of xs)) a ≡ r.content ++ (contents_of ys ++ h.arena-free)
  unfolding contents_of
  content-here = (cut t a s h xs (r ∷ ys) e).arena-after ∙ append_assoc r.content (contents_of ys) h.arena-free

  head-here : head_at (drop place t) ≡ head_of r
  head-here = ap head_at row_here ∙ head-back r row-encodable (encode_rows ys ++ h.tables-free) []

  path-here : take (length r.path) (drop (place + head_length) t) ≡ r.path
  unfolding path_at
  path-here =
      let p : path_at (drop place t) ≡ r.path = ap path_at row_here ∙ path-back r row-encodable (encode_rows ys ++ h.tables-free) [] in
      rw (← (drop-drop head_length place t)) (rw head-here at p)

  digest-here : take 16 (drop (place + numbers_length) t) ≡ r.digest
  unfolding digest_at
  digest-here =
      let p : digest_at (drop place t) ≡ r.digest = ap digest_at row_here ∙ digest-back r row-encodable (encode_rows ys ++ h.tables-free) [] in
      rw (← (drop-drop numbers_length place t)) p

  next_row : header_length + length (encode_rows (xs ++ (r ∷ []))) ≡ place + span (head_of r)
  unfolding encode_rows
  next_row = omega (arith, ap length (encode-append xs (r ∷ [])), length-append (encode_rows xs) (encode_row r ++ []), length-append (encode_row r) [], length-row r row-encodable)

  next-content : length (contents_of (xs ++ (r ∷ []))) ≡ length (contents_of xs) + length r.content
  unfolding contents_of
  next-content = omega (arith, ap length (contents-append xs (r ∷ [])), length-append (contents_of xs) (r.content ++ []), length-append r.content [])

  next-cut : Cut t a s h (xs ++ (r ∷ [])) ys
  next-cut = cut t a s h (xs ++ (r ∷ [])) ys (e ∙ sym (append_assoc xs (r ∷ []) ys))

  pub row-at : At t a s h xs r ys
  row-at =
      record {
        encodable = row-encodable;
        row = row_here;
        head = head-here;
        digest = digest-here;
        path = path-here;
        lengths = ap lengths_at row_here ∙ lengths-back r row-encodable (encode_rows ys ++ h.tables-free) [];
        inside = let k = next-cut.inside in omega (arith, next_row);
        next = next_row;
        arena = content-here;
        content = ap (take (length r.content)) content-here ∙ take_at r.content (contents_of ys ++ h.arena-free) (length r.content) refl;
        arena-inside = let k = next-cut.arena-inside in omega (arith, next-content);
        arena-next = next-content;
      }

-- what the code knows at the row r after the rows xs, by the head that it read there
pub record Read (t a : List ℕ) (xs : List Row) (r : Row) (at base : ℕ) (head : Head) : Type 0 where
  pub same : head ≡ head_of r
  pub path : take head.pathlen (drop (at + head_length) t) ≡ r.path
  pub inside : at + span head ≤ length t
  pub next : at + span head ≡ header_length + length (encode_rows (xs ++ (r ∷ [])))
  pub arena-inside : base + head.size ≤ length a
  pub arena-next : base + head.size ≡ length (contents_of (xs ++ (r ∷ [])))

pub row_read : (t a : List ℕ) (s : State) (h : Stands t a s) (xs : List Row) (r : Row) (ys : List Row) (at base : ℕ) (head : Head) → At t a s h xs r ys
    → at ≡ header_length + length (encode_rows xs) → base ≡ length (contents_of xs) → head ≡ head_at (drop at t) → Read t a xs r at base head
row_read t a s h xs r ys at base head k e f q =
    let same : head ≡ head_of r = q ∙ ap (λ (n : ℕ). head_at (drop n t)) e ∙ k.head in
    let n : head.pathlen ≡ length r.path = ap (λ (x : Head). x.pathlen) same in
    let p : head.pairs ≡ r.pairs = ap (λ (x : Head). x.pairs) same in
    let m : head.size ≡ length r.content = ap (λ (x : Head). x.size) same in
    let inside = k.inside in
    let next = k.next in
    let arena-inside = k.arena-inside in
    let arena-next = k.arena-next in
    record {
      same = same;
      path = rw (n, e) k.path;
      inside = omega arith;
      next = omega arith;
      arena-inside = omega arith;
      arena-next = omega arith;
    }
