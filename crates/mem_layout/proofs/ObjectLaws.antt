-- The rows of objects: what is read was written so and keeps document 01's rules, and what keeps them is read back. Assumes nothing.
use Prim.Native.Nat.{Ordering}
use Prim.Native.Nat.{ℕ, ◌≤◌, ◌<◌, ◌^◌}
use mathlib.Core.Path.{◌≡◌, refl, sym, ap₂}
use mathlib.Core.Bool.{Bool, true, false, cond}
use mathlib.Core.List.{List, [], ◌∷◌}
use native.Mathlib.Omega.{arith}
use borrow.Author.Tests.{leb-true, le-leb, eqb-true, eqb-false, eq-eqb}
use lib.Dec.{eqb}
use lib.ListN.{length, length-append}
use Rattle.base_order.specs.Order.{by_bytes}
use Rattle.base_order.proofs.OrderLaws.{below-lt}
use Rattle.machine.specs.Map.{Map, FirstAbove, Ascending, Every}
use Rattle.machine.specs.Names.{Bytes, stored_path_ok}
use Rattle.machine.specs.Etags.{Etag, absent, plain, joined, count_of, digest_of}
use Rattle.machine.specs.State.{Object}
use Rattle.machine.specs.Valid.{EtagOk, ObjectOk}
use Rattle.machine.specs.Pairs.{pairs_most}
use Rattle.machine.proofs.PairLaws.{kept-few}
use Rattle.pairs_stored.proofs.StoredLaws.{length-lengths, stored-decode}
use Rattle.pairs_stored.proofs.Blocks.{data-back}
use Rattle.mem_row.specs.Row.{Row, head_of, contents_of, Encodable, EncodableAll}
use Rattle.mem_row.proofs.RowLaws.{Follows}
use Rattle.mem_layout.specs.Rules.{plain_kind, joined_kind, parts_most, pairs_rule, object_rule, object_ok, object_next}
use Rattle.mem_layout.specs.Memory.{object_row, object_rows, object_of, objects_of, row_etag, row_kind}
use Rattle.mem_layout.proofs.TestLaws.{all_true, true-all, stored-path-length, stamp-range, stamp-ok}
use Rattle.mem_layout.proofs.PairRows.{Paired, paired, pairs-ok}

-- Sound ------------------------------------------------------------------------------------------------------------------

-- the kind, digest and count of a row's etag are the row's
pub record Etagged (kind count : ℕ) (digest : Bytes) : Type 0 where
  pub same_kind : row_kind (row_etag kind digest count) ≡ kind
  pub same-digest : digest_of (row_etag kind digest count) ≡ digest
  pub same_count : count_of (row_etag kind digest count) ≡ count
  pub ok : length digest ≡ 16 → EtagOk (row_etag kind digest count)

pub etagged : (kind count : ℕ) (digest : Bytes) → kind ≤ joined_kind → count ≤ cond (eqb kind plain_kind) 0 parts_most → Etagged kind count digest
etagged kind count digest k c = go (eqb kind plain_kind) refl c
  where
    go : (b : Bool) → eqb kind plain_kind ≡ b → count ≤ cond b 0 parts_most → Etagged kind count digest
    go true e l =
        let z = eqb-true _ _ e in
        let n : 0 ≡ count = omega arith in
        record { same_kind = simp e (sym z); same-digest = simp e; same_count = simp e n; ok = λ h. simp e h }
    go false e l =
        let n = eqb-false _ _ e in
        let one : 1 ≡ kind = kind-one n in
        record { same_kind = simp e one; same-digest = simp e; same_count = simp e; ok = λ h. simp e (h, l) }
      where
        kind-one : (kind ≡ 0 → ⊥) → 1 ≡ kind
        kind-one n = omega arith

record ObjectIs (last : List ℕ) (r : Row) : Type 0 where
  number : 0 ≡ r.number
  stamp : 1 ≤ r.stamp
  etag : Etagged r.kind r.count r.digest
  path : stored_path_ok r.path ≡ true
  later : by_bytes last r.path ≡ Ordering.lt

-- rows that may have `most` pairs
module _ (most : ℕ) where
  object-is : (last : List ℕ) (r : Row) → object_ok most last r ≡ true → ObjectIs last r
  unfolding object_rule
  object-is last r e =
      let h = all_true _ e in
      record {
        number = sym (eqb-true _ _ h.0);
        stamp = leb-true _ _ h.1.0;
        etag = etagged r.kind r.count r.digest (leb-true _ _ h.1.1.0) (leb-true _ _ h.1.1.1.0);
        path = h.1.1.1.1.0;
        later = below-lt last r.path h.1.1.1.1.1.0;
      }

  -- the pairs of an object's row keep their rule
  pub object-pairs : (last : List ℕ) (r : Row) → object_ok most last r ≡ true → pairs_rule most (head_of r) r.lengths r.content ≡ true
  unfolding object_rule
  object-pairs last r e = (all_true _ e).1.1.1.1.1.1.0

  row_same : (last : List ℕ) (r : Row) → Paired r → ObjectIs last r → object_row r.path (object_of r) ≡ r
  row_same last r m h =
      λ i. record {
        number = h.number i;
        stamp = r.stamp;
        kind = h.etag.same_kind i;
        count = h.etag.same_count i;
        digest = h.etag.same-digest i;
        path = r.path;
        pairs = m.count i;
        lengths = m.lengths i;
        content = m.content i;
      }

  pub object-rows-same : (last : List ℕ) (rs : List Row) → EncodableAll rs → Follows (List ℕ) (object_ok most) object_next last rs → object_rows (objects_of rs) ≡ rs
  unfolding object_rows objects_of
  object-rows-same last [] f v = refl
  object-rows-same last (r ∷ rs) f v =
      ap₂ (λ (x : Row) (l : List Row). x ∷ l) (row_same last r (paired most r f.0 (object-pairs last r v.0)) (object-is last r v.0)) (object-rows-same r.path rs f.1 v.1)

  pub objects-above : (last : List ℕ) (rs : List Row) → Follows (List ℕ) (object_ok most) object_next last rs → FirstAbove by_bytes last (objects_of rs)
  unfolding objects_of
  objects-above last [] v = tt
  objects-above last (r ∷ rs) v = (object-is last r v.0).later

  pub objects-ascending : (last : List ℕ) (rs : List Row) → Follows (List ℕ) (object_ok most) object_next last rs → Ascending by_bytes (objects_of rs)
  unfolding objects_of
  objects-ascending last [] v = tt
  objects-ascending last (r ∷ rs) v = (objects-above r.path rs v.1, objects-ascending r.path rs v.1)

  pub objects-ok : (last : List ℕ) (rs : List Row) → EncodableAll rs → Follows (List ℕ) (object_ok most) object_next last rs → Every ObjectOk (objects_of rs)
  unfolding objects_of
  objects-ok last [] f v = tt
  objects-ok last (r ∷ rs) f v =
      let h = object-is last r v.0 in (
        record {
          path = h.path;
          stamp = stamp-ok r.stamp h.stamp f.0.fits.1.1.0;
          etag = h.etag.ok f.0.digest;
          pairs = (paired most r f.0 (object-pairs last r v.0)).kept;
        },
        objects-ok r.path rs f.1 v.1,
      )

pub length-objects : (rs : List Row) → length (objects_of rs) ≡ length rs
unfolding objects_of
length-objects [] = refl
length-objects (r ∷ rs) = rw (length-objects rs)

-- Complete ---------------------------------------------------------------------------------------------------------------

record EtagIs (e : Etag) : Type 0 where
  kind : row_kind e ≤ joined_kind
  count : count_of e ≤ cond (eqb (row_kind e) plain_kind) 0 parts_most
  most : count_of e ≤ parts_most
  digest : length (digest_of e) ≡ 16
  same : row_etag (row_kind e) (digest_of e) (count_of e) ≡ e

etag-is : (e : Etag) → EtagOk e → EtagIs e
etag-is absent o = absurd o
etag-is (plain d) o = record { kind = omega arith; count = omega arith; most = omega arith; digest = o; same = refl }
etag-is (joined d n) o = record { kind = omega arith; count = o.1; most = o.1; digest = o.0; same = refl }

pub object-back : (x : Object) → EtagOk x.etag → (p : Bytes) → object_of (object_row p x) ≡ x
object-back x o p =
    let content = data-back x.pairs x.content in
    let pairs = stored-decode x.pairs x.content in
    λ i. record { content = content i; created = x.created; etag = (etag-is x.etag o).same i; pairs = pairs i }

pub objects-back : (m : Map Bytes Object) → Every ObjectOk m → objects_of (object_rows m) ≡ m
unfolding objects_of object_rows
objects-back [] v = refl
objects-back (e ∷ m) v = ap₂ (λ (x : Object) (l : Map Bytes Object). (e.0, x) ∷ l) (object-back e.1 v.0.etag e.0) (objects-back m v.1)

pub length-object-rows : (m : Map Bytes Object) → length (object_rows m) ≡ length m
unfolding object_rows
length-object-rows [] = refl
length-object-rows (e ∷ m) = rw (length-object-rows m)

path-later : (p : Bytes) → 1 ≤ length p → by_bytes [] p ≡ Ordering.lt
path-later [] h = absurd (omega arith)
path-later (b ∷ p) h = refl

pub object-encodable : (p : Bytes) (x : Object) → length (object_row p x).content < 256 ^ 4 → ObjectOk p x → Encodable (object_row p x)
object-encodable p x l o =
    let e = etag-is x.etag o.etag in
    let q = stored-path-length p o.path in
    let t = stamp-range x.created o.stamp in
    record {
      fits = (l, (omega arith, (omega (arith, t.below), (omega (arith, e.kind, kept-few x.pairs o.pairs), (omega (arith, q.below), (omega (arith, e.most), tt))))));
      digest = e.digest;
      kind = omega (arith, e.kind);
      lengths = length-lengths x.pairs;
    }

pub object-rows-encodable : (m : Map Bytes Object) → length (contents_of (object_rows m)) < 256 ^ 4 → Every ObjectOk m → EncodableAll (object_rows m)
unfolding object_rows contents_of
object-rows-encodable [] l v = tt
object-rows-encodable (e ∷ m) l v =
    let s = length-append (object_row e.0 e.1).content (contents_of (object_rows m)) in
    (object-encodable e.0 e.1 (omega arith) v.0, object-rows-encodable m (omega arith) v.1)

pub object-rows-follow : (last : List ℕ) (m : Map Bytes Object) → FirstAbove by_bytes last m → Ascending by_bytes m → Every ObjectOk m
    → Follows (List ℕ) (object_ok pairs_most) object_next last (object_rows m)
unfolding object_rows object_rule
object-rows-follow last [] h a v = tt
object-rows-follow last (e ∷ m) h a v =
    let g = etag-is e.1.etag v.0.etag in (
      true-all _ (
        eq-eqb 0 0 refl,
        (
          le-leb _ _ (stamp-range e.1.created v.0.stamp).above,
          (
            le-leb _ _ g.kind,
            (
              le-leb _ _ g.count,
              (
                v.0.path,
                (rw h, (pairs-ok e.1.pairs (head_of (object_row e.0 e.1)) _ e.1.content v.0.pairs refl refl, tt)),
              ),
            ),
          ),
        ),
      ),
      object-rows-follow e.0 m a.0 a.1 v.1,
    )

-- the first object stands after no other
pub objects-first : (m : Map Bytes Object) → Every ObjectOk m → FirstAbove by_bytes [] m
objects-first [] v = tt
objects-first (e ∷ m) v = path-later e.0 (stored-path-length e.0 v.0.path).above
