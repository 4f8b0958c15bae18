-- The front of a row written anew, with the same data: what the steps require, and what memory then stands for. Assumes nothing.
use Prim.Native.Nat.{ℕ, ◌+◌, ◌*◌, ◌≤◌, ◌<◌}
use mathlib.Core.Path.{◌≡◌, sym, ap, ap₂, ◌∙◌, subst}
use mathlib.Core.List.{List, [], ◌∷◌, ◌++◌, append_assoc}
use native.Mathlib.Omega.{arith}
use lib.ListN.{length, drop, length-append, length-drop}
use Rattle.base_number.specs.Number.{AreBytes, replaced_at}
use Rattle.base_number.proofs.NumberLaws.{bytes_drop}
use Rattle.base_number.proofs.Fields.{field-written}
use Rattle.base_md5.specs.declared.words.Digest.{Digest}
use Rattle.base_md5.specs.Md5.{bytes_of}
use Rattle.base_md5.specs.Md5Laws.{length-bytes_of}
use Rattle.base_order.proofs.OrderLaws.{bytes}
use Rattle.machine.specs.State.{Object, State, with_object}
use Rattle.machine.proofs.MapSums.{length-insert}
use Rattle.mem_row.specs.declared.Head.{Head}
use Rattle.mem_row.specs.Fields.{numbers_at}
use Rattle.mem_row.specs.Row.{Row, widths, encode_rows, contents_of, head_at, head_of, row_bytes, head_length}
use Rattle.mem_row.proofs.FieldLaws.{numbers_fit}
use Rattle.mem_row.proofs.RowLaws.{encode-append, contents-append}
use Rattle.mem_row.proofs.RowFields.{length-row_bytes, row-parts}
use Rattle.mem_layout.specs.Rules.{plain_kind}
use Rattle.mem_layout.specs.Header.{encode_header}
use Rattle.mem_layout.specs.Memory.{rows_of, object_row, state_of, Stands}
use Rattle.mem_layout.proofs.StandsLaws.{length-header}
use Rattle.mem_find.specs.declared.Lookup.{Lookup}
use Rattle.mem_find.specs.Places.{before_object, after_object}
use Rattle.mem_find.proofs.Splits.{object-found}
use Rattle.mem_edit.specs.Objects.{plain_with}
use Rattle.mem_edit.proofs.Changes.{old-object-rows}
use Rattle.mem_edit_copy.specs.Copy.{content_at, kept_at, restamped_head, restamped, copied, Copiable}
use Rattle.mem_edit_copy.proofs.Source.{ObjectThere}

contents-cons : (r r' : Row) (rs : List Row) → r.content ≡ r'.content → contents_of (r ∷ rs) ≡ contents_of (r' ∷ rs)
unfolding contents_of
contents-cons r r' rs e = ap (λ (d : List ℕ). d ++ contents_of rs) e

-- the bytes of rows, with the front of one apart
abbrev front_of : Row → List ℕ
front_of r = row_bytes (head_of r) r.digest [] []

fronted : (header free : List ℕ) (xs : List Row) (r : Row) (ys : List Row)
    → header ++ (encode_rows (xs ++ (r ∷ ys)) ++ free) ≡ (header ++ encode_rows xs) ++ (front_of r ++ ((r.path ++ r.lengths) ++ (encode_rows ys ++ free)))
unfolding encode_rows
fronted header free xs r ys = simp (encode-append, row-parts (head_of r) r.digest r.path r.lengths, append_assoc)

-- two length bytes for each pair, whose count shares a byte with the kind
pub pairs-fit : (t : List ℕ) (at : ℕ) → AreBytes t → at + head_length ≤ length t → plain_kind + 4 * (head_at (drop at t)).pairs < 256
unfolding head_at numbers_at
pairs-fit t at b room =
    let u = drop at t in
    let f = (numbers_fit widths u (bytes_drop at t b) (rw (length-drop at t) (omega arith))).1.1.1.0 in
    omega arith

module _ (t a p : List ℕ) (stamp : ℕ) (digest : Digest) (pre : Copiable t a stamp digest p p) (place : Lookup) (o : ObjectThere t a p place) where
  abbrev s : State
  s = state_of t a

  abbrev stands : Stands t a s
  stands = o.stands

  abbrev x : Object
  x = o.object

  abbrev y : Object
  y = plain_with stamp digest (content_at s p) (kept_at s p)

  abbrev s' : State
  s' = with_object s p y

  abbrev xs : List Row
  xs = before_object s p

  abbrev ys : List Row
  ys = after_object s p

  split : rows_of s ≡ xs ++ (object_row p x ∷ ys)
  split = object-found s p x o.found

  split' : rows_of s' ≡ xs ++ (object_row p y ∷ ys)
  split' = old-object-rows s p x y o.found

  -- the head that the row has, and the one that it gets
  abbrev old : Head
  old = head_at (drop place.at t)

  old-is : old ≡ head_of (object_row p x)
  old-is = ap (λ (i : ℕ). head_at (drop i t)) o.at ∙ o.here.head

  new-head-is : restamped_head stamp old ≡ head_of (object_row p y)
  new-head-is = rw (old-is, o.content, o.pairs)

  abbrev header : List ℕ
  header = encode_header (length a) s

  abbrev front : List ℕ
  front = header ++ encode_rows xs

  abbrev rest : List ℕ
  rest = (p ++ (object_row p x).lengths) ++ (encode_rows ys ++ stands.tables-free)

  told : t ≡ front ++ (front_of (object_row p x) ++ rest)
  told =
      stands.tables
      ∙ ap (λ (rs : List Row). header ++ (encode_rows rs ++ stands.tables-free)) split
      ∙ fronted header stands.tables-free xs (object_row p x) ys

  front_length : length front ≡ place.at
  front_length = omega (arith, o.at, length-append header (encode_rows xs), length-header (length a) s stands.small stands.valid)

  -- pairs and data are the same
  rest-same : (p ++ (object_row p x).lengths) ++ (encode_rows ys ++ stands.tables-free) ≡ (p ++ (object_row p y).lengths) ++ (encode_rows ys ++ stands.tables-free)
  rest-same = rw o.pairs

  block_same : (object_row p x).content ≡ (object_row p y).content
  block_same = rw (o.pairs, o.content)

  restamped-stands : (t' : List ℕ) → t' ≡ restamped t place.at stamp digest → length t' ≡ length t → Stands t' a s'
  restamped-stands t' e l =
      let src = row_bytes (restamped_head stamp old) (bytes_of digest) [] [] in
      let same_count : length s.O ≡ length s'.O = omega (arith, rw o.found at (length-insert bytes p y s.O)) in
      let header_is : header ≡ encode_header (length a) s' = rw same_count in
      let new-front : src ≡ front_of (object_row p y) = ap (λ (q : Head). row_bytes q (bytes_of digest) [] []) new-head-is in
      let src-length : length src ≡ head_length = ap length new-front ∙ length-row_bytes (head_of (object_row p y)) (bytes_of digest) [] [] (length-bytes_of digest) in
      let placed : t' ≡ front ++ (src ++ rest) =
      field-written t front (front_of (object_row p x)) rest place.at head_length told front_length (length-row_bytes (head_of (object_row p x)) (object_row p x).digest [] [] o.here.encodable.digest) t' src (e ∙ ap (replaced_at t place.at src) src-length) in
      let tables : t' ≡ header ++ (encode_rows (xs ++ (object_row p y ∷ ys)) ++ stands.tables-free) =
      placed ∙ ap₂ (λ (l r : List ℕ). front ++ (l ++ r)) new-front rest-same ∙ sym (fronted header stands.tables-free xs (object_row p y) ys) in
      let contents : contents_of (rows_of s) ≡ contents_of (rows_of s') =
      ap contents_of split ∙ contents-append xs (object_row p x ∷ ys) ∙ ap (λ (d : List ℕ). contents_of xs ++ d) (contents-cons (object_row p x) (object_row p y) ys block_same) ∙ sym (ap contents_of split' ∙ contents-append xs (object_row p y ∷ ys)) in
      record {
        size = l ∙ stands.size;
        small = stands.small;
        valid = pre.valid;
        tables-free = stands.tables-free;
        tables = tables ∙ ap₂ (λ (k : List ℕ) (rs : List Row). k ++ (encode_rows rs ++ stands.tables-free)) header_is (sym split');
        arena-free = stands.arena-free;
        arena = stands.arena ∙ ap (λ (d : List ℕ). d ++ stands.arena-free) contents;
      }

-- a copy of the object at p to the same path, q
pub same-path : (t a p q : List ℕ) (stamp : ℕ) (digest : Digest) (place : Lookup) → Copiable t a stamp digest p q → ObjectThere t a p place → p ≡ q
    → (t' : List ℕ) → t' ≡ restamped t place.at stamp digest → length t' ≡ length t → Stands t' a (copied stamp digest p q (state_of t a))
same-path t a p q stamp digest place pre o same t' e l =
    let here : Copiable t a stamp digest p p = subst (λ (r : List ℕ). Copiable t a stamp digest p r) (sym same) pre in
    subst (λ (r : List ℕ). Stands t' a (copied stamp digest p r (state_of t a))) same (restamped-stands t a p stamp digest here place o t' e l)
