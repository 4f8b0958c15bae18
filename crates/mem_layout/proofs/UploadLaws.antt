-- The rows of uploads and their parts: what is read was written so and keeps document 01's rules, and what keeps them is read back.
-- Assumes nothing.
use Prim.Native.Nat.{ℕ, ◌+◌, ◌≤◌, ◌<◌, ◌^◌}
use mathlib.Core.Path.{◌≡◌, refl, sym, ap, ap₂, ◌∙◌, subst}
use mathlib.Core.Bool.{Bool, true, false, cond}
use mathlib.Core.List.{List, [], ◌∷◌, ◌++◌, append-nil}
use native.Mathlib.Omega.{arith}
use borrow.Author.Tests.{leb-true, le-leb, ltb-true, lt-ltb, eqb-true, eq-eqb}
use lib.Dec.{eqb}
use lib.ListN.{length, drop, length-append, length-drop}
use Rattle.base_order.proofs.OrderLaws.{compare-below, below, same_true, same_self}
use Rattle.machine.specs.Map.{Map, by_number, FirstAbove, Ascending, Every, total}
use Rattle.machine.specs.Names.{stored_path_ok, stored_part_ok}
use Rattle.machine.specs.State.{Part, Upload, parts_in}
use Rattle.machine.specs.Valid.{PartOk, UploadOk}
use Rattle.machine.specs.Pairs.{pairs_most}
use Rattle.machine.proofs.PairLaws.{kept-few, kept-held}
use Rattle.pairs_stored.specs.Stored.{pair_bytes, sum_of}
use Rattle.pairs_stored.proofs.StoredLaws.{length-lengths, length-bytes, sum-lengths}
use Rattle.pairs_stored.proofs.Blocks.{pairs-alone}
use Rattle.mem_row.specs.Row.{Row, head_of, contents_of, Encodable, EncodableAll}
use Rattle.mem_row.proofs.RowLaws.{Follows, encodable-append, contents-append}
use Rattle.mem_layout.specs.declared.Mark.{Mark}
use Rattle.mem_layout.specs.Rules.{upload_kind, no_digest, pairs_rule, upload_rule, part_rule, entry_rule, entry_ok, mark_after, entry_next}
use Rattle.mem_layout.specs.Memory.{pairs_of, upload_row, part_row, part_rows, upload_rows, Nest, row_part, upload_of, nest, uploads_among}
use Rattle.mem_layout.proofs.TestLaws.{all_true, true-all, nil-of-length, no_lengths, stored-path-length, stamp-range, stamp-ok, stored-part-range}
use Rattle.mem_layout.proofs.PairRows.{Paired, paired, pairs-ok}

-- Sound ------------------------------------------------------------------------------------------------------------------

record UploadIs (N : ℕ) (m : Mark) (r : Row) : Type 0 where
  kind : 2 ≡ r.kind
  count : 0 ≡ r.count
  stamp : 1 ≤ r.stamp
  later : m.upload < r.number
  given : r.number < N
  path : stored_path_ok r.path ≡ true
  digest : no_digest ≡ r.digest
  size : length r.content ≡ sum_of r.lengths

record PartIs (m : Mark) (r : Row) : Type 0 where
  kind : 3 ≡ r.kind
  stamp : 0 ≡ r.stamp
  count : 0 ≡ r.count
  path : [] ≡ r.path
  pairs : 0 ≡ r.pairs
  owned : 1 ≤ m.upload
  later : m.part < r.number
  number : stored_part_ok r.number ≡ true

-- rows that may have `most` pairs
module _ (most N : ℕ) (m : Mark) (r : Row) (e : entry_ok most N m r ≡ true) where
  upload-is : eqb r.kind upload_kind ≡ true → UploadIs N m r
  unfolding entry_ok entry_rule upload_rule
  upload-is k =
      let h = all_true _ (rw k at e) in
      record {
        kind = sym (eqb-true _ _ k);
        count = sym (eqb-true _ _ h.0);
        stamp = leb-true _ _ h.1.0;
        later = ltb-true _ _ h.1.1.0;
        given = ltb-true _ _ h.1.1.1.0;
        path = h.1.1.1.1.0;
        digest = sym (same_true _ _ h.1.1.1.1.1.0);
        size = eqb-true _ _ h.1.1.1.1.1.1.1.0;
      }

  -- the pairs of an upload's row keep their rule
  pub upload-pairs : eqb r.kind upload_kind ≡ true → pairs_rule most (head_of r) r.lengths r.content ≡ true
  unfolding entry_ok entry_rule upload_rule
  upload-pairs k = (all_true _ (rw k at e)).1.1.1.1.1.1.0

  part-is : eqb r.kind upload_kind ≡ false → PartIs m r
  unfolding entry_ok entry_rule part_rule
  part-is k =
      let h = all_true _ (rw k at e) in
      record {
        kind = sym (eqb-true _ _ h.0);
        stamp = sym (eqb-true _ _ h.1.0);
        count = sym (eqb-true _ _ h.1.1.0);
        path = nil-of-length r.path (eqb-true _ _ h.1.1.1.0);
        pairs = sym (eqb-true _ _ h.1.1.1.1.0);
        owned = leb-true _ _ h.1.1.1.1.1.0;
        later = ltb-true _ _ h.1.1.1.1.1.1.0;
        number = h.1.1.1.1.1.1.1.0;
      }

upload-row-same : (N : ℕ) (m : Mark) (r : Row) (ps : Map ℕ Part) → Paired r → UploadIs N m r → upload_row r.number (upload_of r ps) ≡ r
upload-row-same N m r ps q h =
    let n = length r.content in
    let past : drop (sum_of r.lengths) r.content ≡ [] = sym (nil-of-length _ (let z = h.size in omega (arith, length-drop (sum_of r.lengths) r.content))) in
    let content : pair_bytes (pairs_of r) ≡ r.content = sym (append-nil (pair_bytes (pairs_of r))) ∙ ap (λ (l : List ℕ). pair_bytes (pairs_of r) ++ l) (sym past) ∙ q.content in
    λ i. record {
      number = r.number;
      stamp = r.stamp;
      kind = h.kind i;
      count = h.count i;
      digest = h.digest i;
      path = r.path;
      pairs = q.count i;
      lengths = q.lengths i;
      content = content i;
    }

part-row-same : (m : Mark) (r : Row) → Encodable r → PartIs m r → part_row r.number (row_part r) ≡ r
part-row-same m r f h =
    let lengths = no_lengths r f h.pairs in
    λ i. record {
      number = r.number;
      stamp = h.stamp i;
      kind = h.kind i;
      count = h.count i;
      digest = r.digest;
      path = h.path i;
      pairs = h.pairs i;
      lengths = lengths i;
      content = r.content;
    }

-- what rows after the mark m stand for: parts that wait for the upload m .upload, and later uploads
pub record Nested (N : ℕ) (m : Mark) (rs : List Row) (k : Nest) : Type 0 where
  pub same : part_rows k.waiting ++ upload_rows k.uploads ≡ rs
  pub parts-above : FirstAbove by_number m.part k.waiting
  pub parts-ascending : Ascending by_number k.waiting
  pub parts-ok : Every PartOk k.waiting
  pub above : FirstAbove by_number m.upload k.uploads
  pub ascending : Ascending by_number k.uploads
  pub ok : Every (UploadOk N) k.uploads
  pub some-upload : (m.upload ≡ 0) → k.waiting ≡ []

pub nested : (most N : ℕ) (m : Mark) (rs : List Row) → EncodableAll rs → Follows Mark (entry_ok most N) entry_next m rs → Nested N m rs (nest rs)
unfolding nest part_rows upload_rows mark_after
nested most N m [] f v = record { same = refl; parts-above = tt; parts-ascending = tt; parts-ok = tt; above = tt; ascending = tt; ok = tt; some-upload = λ _. refl }
nested most N m (r ∷ rs) f v = go (eqb r.kind upload_kind) refl (nested most N (entry_next m r) rs f.1 v.1)
  where
    go : (b : Bool) → eqb r.kind upload_kind ≡ b → Nested N (entry_next m r) rs (nest rs)
        → Nested N m (r ∷ rs) (cond b (record { waiting = []; uploads = (r.number, upload_of r (nest rs).waiting) ∷ (nest rs).uploads }) (record { waiting = (r.number, row_part r) ∷ (nest rs).waiting; uploads = (nest rs).uploads }))
    go true k ih =
        let h = upload-is most N m r v.0 k in
        let mark : entry_next m r ≡ record { upload = r.number; part = 0 } = simp k in
        record {
          same = ap₂ (λ (x : Row) (l : List Row). x ∷ l) (upload-row-same N m r (nest rs).waiting (paired most r f.0 (upload-pairs most N m r v.0 k)) h) ih.same;
          parts-above = tt;
          parts-ascending = tt;
          parts-ok = tt;
          above = compare-below _ _ h.later;
          ascending = (subst (λ (n : Mark). FirstAbove by_number n.upload (nest rs).uploads) mark ih.above, ih.ascending);
          ok = (
            record {
              low = omega (arith, h.later);
              high = h.given;
              path = h.path;
              stamp = stamp-ok r.stamp h.stamp f.0.fits.1.1.0;
              pairs = (paired most r f.0 (upload-pairs most N m r v.0 k)).kept;
              sorted = ih.parts-ascending;
              each = ih.parts-ok;
            },
            ih.ok,
          );
          some-upload = λ _. refl;
        }
    go false k ih =
        let h = part-is most N m r v.0 k in
        let mark : entry_next m r ≡ record { upload = m.upload; part = r.number } = simp k in
        record {
          same = ap₂ (λ (x : Row) (l : List Row). x ∷ l) (part-row-same m r f.0 h) ih.same;
          parts-above = compare-below _ _ h.later;
          parts-ascending = (subst (λ (n : Mark). FirstAbove by_number n.part (nest rs).waiting) mark ih.parts-above, ih.parts-ascending);
          parts-ok = (record { number = h.number; digest = f.0.digest }, ih.parts-ok);
          above = subst (λ (n : Mark). FirstAbove by_number n.upload (nest rs).uploads) mark ih.above;
          ascending = ih.ascending;
          ok = ih.ok;
          some-upload = λ z. absurd (let l = h.owned in omega arith);
        }

-- Counts -----------------------------------------------------------------------------------------------------------------

pub length-uploads : (rs : List Row) → length (nest rs).uploads ≡ uploads_among rs
unfolding nest uploads_among
length-uploads [] = refl
length-uploads (r ∷ rs) = go (eqb r.kind upload_kind) (length-uploads rs)
  where
    go : (b : Bool) → length (nest rs).uploads ≡ uploads_among rs → length (cond {A = Nest} b (record { waiting = []; uploads = (r.number, upload_of r (nest rs).waiting) ∷ (nest rs).uploads }) (record { waiting = (r.number, row_part r) ∷ (nest rs).waiting; uploads = (nest rs).uploads })).uploads ≡ cond b 1 0 + uploads_among rs
    go true h = omega arith
    go false h = omega arith

pub length-part-rows : (ps : Map ℕ Part) → length (part_rows ps) ≡ length ps
unfolding part_rows
length-part-rows [] = refl
length-part-rows (e ∷ ps) = rw (length-part-rows ps)

pub length-upload-rows : (us : Map ℕ Upload) → length (upload_rows us) ≡ length us + total parts_in us
unfolding upload_rows
length-upload-rows [] = refl
length-upload-rows (e ∷ us) =
    omega (arith, length-append (part_rows e.1.parts) (upload_rows us), length-part-rows e.1.parts, length-upload-rows us)

opens-parts : (ps : Map ℕ Part) (rs : List Row) → uploads_among (part_rows ps ++ rs) ≡ uploads_among rs
unfolding uploads_among part_rows
opens-parts [] rs = refl
opens-parts (e ∷ ps) rs = omega (arith, opens-parts ps rs)

pub opens-uploads : (us : Map ℕ Upload) → uploads_among (upload_rows us) ≡ length us
unfolding uploads_among upload_rows
opens-uploads [] = refl
opens-uploads (e ∷ us) = omega (arith, opens-parts e.1.parts (upload_rows us), opens-uploads us)

-- Complete ---------------------------------------------------------------------------------------------------------------

nest-parts : (ps : Map ℕ Part) (rs : List Row) → nest (part_rows ps ++ rs) ≡ record { waiting = ps ++ (nest rs).waiting; uploads = (nest rs).uploads }
unfolding nest part_rows
nest-parts [] rs = refl
nest-parts (e ∷ ps) rs = rw (nest-parts ps rs)

pub nest_back : (us : Map ℕ Upload) → nest (upload_rows us) ≡ record { waiting = []; uploads = us }
unfolding nest upload_rows
nest_back [] = refl
nest_back (e ∷ us) = rw (nest-parts e.1.parts (upload_rows us), nest_back us, append-nil, pairs-alone e.1.pairs)

pub part-encodable : (n : ℕ) (y : Part) → length y.content < 256 ^ 4 → PartOk n y → Encodable (part_row n y)
part-encodable n y l o =
    let q = stored-part-range n o.number in
    record {
      fits = (l, (omega (arith, q.below), (omega arith, (omega arith, (omega arith, (omega arith, tt))))));
      digest = o.digest;
      kind = omega arith;
      lengths = refl;
    }

pub part-rows-encodable : (ps : Map ℕ Part) → length (contents_of (part_rows ps)) < 256 ^ 4 → Every PartOk ps → EncodableAll (part_rows ps)
unfolding part_rows contents_of
part-rows-encodable [] l v = tt
part-rows-encodable (e ∷ ps) l v =
    let s = length-append e.1.content (contents_of (part_rows ps)) in
    (part-encodable e.0 e.1 (omega arith) v.0, part-rows-encodable ps (omega arith) v.1)

pub upload-encodable : (N u : ℕ) (x : Upload) → N ≤ 4294967296 → UploadOk N u x → Encodable (upload_row u x)
upload-encodable N u x l o =
    let q = stored-path-length x.path o.path in
    let t = stamp-range x.started o.stamp in
    record {
      fits = (
        omega (arith, length-bytes x.pairs, kept-held x.pairs o.pairs),
        (omega (arith, o.high), (omega (arith, t.below), (omega (arith, kept-few x.pairs o.pairs), (omega (arith, q.below), (omega arith, tt))))),
      );
      digest = refl;
      kind = omega arith;
      lengths = length-lengths x.pairs;
    }

pub upload-rows-encodable : (N : ℕ) (us : Map ℕ Upload) → N ≤ 4294967296 → length (contents_of (upload_rows us)) < 256 ^ 4 → Every (UploadOk N) us → EncodableAll (upload_rows us)
unfolding upload_rows contents_of
upload-rows-encodable N [] n l v = tt
upload-rows-encodable N (e ∷ us) n l v =
    let rest = part_rows e.1.parts ++ upload_rows us in
    let b = length-append (pair_bytes e.1.pairs) (contents_of rest) in
    let s = ap length (contents-append (part_rows e.1.parts) (upload_rows us)) ∙ length-append (contents_of (part_rows e.1.parts)) (contents_of (upload_rows us)) in (
      upload-encodable N e.0 e.1 n v.0,
      encodable-append (part_rows e.1.parts) (upload_rows us) (part-rows-encodable e.1.parts (omega arith) v.0.each) (upload-rows-encodable N us n (omega arith) v.1),
    )

follow-parts : (N : ℕ) (m : Mark) (ps : Map ℕ Part) (rs : List Row) → 1 ≤ m.upload → FirstAbove by_number m.part ps → Ascending by_number ps → Every PartOk ps
    → ((m' : Mark) → m'.upload ≡ m.upload → Follows Mark (entry_ok pairs_most N) entry_next m' rs) → Follows Mark (entry_ok pairs_most N) entry_next m (part_rows ps ++ rs)
unfolding part_rows entry_ok entry_rule part_rule mark_after
follow-parts N m [] rs o h a v k = k m refl
follow-parts N m (e ∷ ps) rs o h a v k = (
  true-all _ (
    refl,
    (
      refl,
      (
        refl,
        (
          refl,
          (
            refl,
            (
              le-leb _ _ o,
              (
                lt-ltb _ _ (below _ _ h),
                (v.0.number, tt),
              ),
            ),
          ),
        ),
      ),
    ),
  ),
  follow-parts N (record { upload = m.upload; part = e.0 }) ps rs o a.0 a.1 v.1 k,
)

pub upload-rows-follow : (N : ℕ) (m : Mark) (us : Map ℕ Upload) → FirstAbove by_number m.upload us → Ascending by_number us → Every (UploadOk N) us
    → Follows Mark (entry_ok pairs_most N) entry_next m (upload_rows us)
unfolding upload_rows entry_ok entry_rule upload_rule mark_after
upload-rows-follow N m [] h a v = tt
upload-rows-follow N m (e ∷ us) h a v =
    let o = v.0 in (
      true-all _ (
        refl,
        (
          le-leb _ _ (stamp-range e.1.started o.stamp).above,
          (
            lt-ltb _ _ (below _ _ h),
            (
              lt-ltb _ _ o.high,
              (
                o.path,
                (
                  same_self no_digest,
                  (
                    pairs-ok e.1.pairs (head_of (upload_row e.0 e.1)) _ [] o.pairs refl (sym (append-nil (pair_bytes e.1.pairs))),
                    (eq-eqb _ _ (length-bytes e.1.pairs ∙ sym (sum-lengths e.1.pairs)), tt),
                  ),
                ),
              ),
            ),
          ),
        ),
      ),
      follow-parts N (record { upload = e.0; part = 0 }) e.1.parts (upload_rows us) o.low (parts_first e.1.parts o.each) o.sorted o.each
          (λ m' q. upload-rows-follow N m' us (rw q a.0) a.1 v.1),
    )
  where
    parts_first : (ps : Map ℕ Part) → Every PartOk ps → FirstAbove by_number 0 ps
    parts_first [] w = tt
    parts_first (p ∷ ps) w = compare-below 0 p.0 (stored-part-range p.0 w.0.number).above

pub uploads-first : (N : ℕ) (us : Map ℕ Upload) → Every (UploadOk N) us → FirstAbove by_number 0 us
uploads-first N [] v = tt
uploads-first N (e ∷ us) v = compare-below 0 e.0 v.0.low
