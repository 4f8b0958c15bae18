-- What the code reads of an object in its row and its block. Assumes nothing.
use Prim.Native.Nat.{ℕ, suc, ◌+◌, ◌-◌, ◌*◌, ◌≤◌}
use mathlib.Core.Path.{◌≡◌, sym, ap, ap₂, ◌∙◌}
use mathlib.Core.Bool.{true}
use mathlib.Core.List.{List, [], ◌∷◌, ◌++◌}
use native.Mathlib.Nat.{zero-add}
use native.Mathlib.Omega.{arith}
use borrow.Author.Tests.{eq-eqb, ne_eqb}
use lib.ListN.{length, take, drop, length-take, length-drop}
use lib.Seq.{drop-drop, length-take-le, take-take}
use Rattle.base_number.specs.Number.{AreBytes}
use Rattle.base_number.specs.Number as bytes
use Rattle.base_number.proofs.NumberLaws.{bytes_take, bytes_drop}
use Rattle.base_number.proofs.Fields.{drop-take}
use Rattle.base_md5.specs.declared.words.Digest.{Digest}
use Rattle.base_md5.specs.Md5.{bytes_of, from_bytes}
use Rattle.base_md5.specs.Md5Laws.{bytes_of-from_bytes}
use Rattle.call_types.specs.declared.Etag.{Etag}
use Rattle.call_types.specs.declared.Metadata.{Metadata}
use Rattle.machine.specs.Map.{Map}
use Rattle.machine.specs.Names.{Bytes}
use Rattle.machine.specs.Pairs.{encode_pairs}
use Rattle.machine.specs.State.{Object}
use Rattle.machine.specs.Calls.{metadata}
use Rattle.machine.specs.Steps.{over, about}
use Rattle.machine.specs.Etags as machine
use Rattle.machine.proofs.PairBytes.{length-encode}
use Rattle.pairs_stored.specs.Stored.{sum_of, pairs_at, stored_ok, block_ok}
use Rattle.pairs_stored.proofs.StoredLaws.{sum-lengths, block-front}
use Rattle.pairs_stored.proofs.Blocks as stored
use Rattle.mem_row.specs.declared.Head.{Head}
use Rattle.mem_row.specs.Row.{head_at, digest_at, lengths_at, span_at, row_at, numbers_length, head_length}
use Rattle.mem_layout.specs.Memory.{row_etag}
use Rattle.mem_find.proofs.PairSizes as few
use Rattle.call_contract.specs.Answers.{etag_of, metadata_of}
use Rattle.call_get.specs.Named.{metadata_at, stored_at, Holds}

-- the digest, read by its words
pub digest-at : (t : List ℕ) (at : ℕ) (d : Digest) → AreBytes t → at + head_length ≤ length t → d ≡ from_bytes (take 16 (drop (at + numbers_length) t)) → bytes_of d ≡ digest_at (drop at t)
unfolding digest_at
digest-at t at d b room e =
    ap bytes_of e
    ∙ bytes_of-from_bytes (take 16 (drop (at + numbers_length) t)) (bytes_take 16 (drop (at + numbers_length) t) (bytes_drop (at + numbers_length) t b)) (length-take-le 16 (drop (at + numbers_length) t) (simp length-drop (omega arith)))
    ∙ ap (take 16) (sym (drop-drop numbers_length at t))

-- the etag, by its kind
pub plain-etag : (kind count : ℕ) (d x : List ℕ) → d ≡ x → kind ≡ 0 → machine.plain d ≡ row_etag kind x count
plain-etag kind count d x e z = rw (eq-eqb kind 0 z) (ap machine.plain e)

pub joined-etag : (kind count : ℕ) (d x : List ℕ) → d ≡ x → (kind ≡ 0 → ⊥) → machine.joined d count ≡ row_etag kind x count
joined-etag kind count d x e z = rw (ne_eqb kind 0 z) (ap (λ (y : List ℕ). machine.joined y count) e)

-- a length is a byte, so the pairs of a row have few bytes
sum-most : (l : List ℕ) → AreBytes l → sum_of l ≤ 255 * length l
sum-most [] b = omega arith
sum-most (n ∷ l) b = omega (arith, b 0, sum-most l (λ i. b (suc i)))

pub size-most : (t : List ℕ) (at : ℕ) → AreBytes t → at + span_at (drop at t) ≤ length t → sum_of (lengths_at (drop at t)) ≤ 32130
unfolding lengths_at span_at
size-most t at b r =
    let u = drop at t in
    let z : head_length ≤ length u = omega (arith, length-drop at t) in
    let bytes = bytes_take (2 * (head_at u).pairs) (drop (head_length + (head_at u).pathlen) u) (bytes_drop (head_length + (head_at u).pathlen) u (bytes_drop at t b)) in
    omega (arith, sum-most (lengths_at u) bytes, few.lengths-few t at b z)

-- the metadata, by the head and the size of the pairs
pub metadata-told : (t : List ℕ) (h : Head) (e : Etag) (n : ℕ) → h ≡ head_at t → etag_of e ≡ row_etag h.kind (digest_at t) h.count → n ≡ sum_of (lengths_at t)
    → metadata (h.size - n) h.stamp (etag_of e) h.pairs (2 * h.pairs + n) ≡ metadata_at t
unfolding metadata_at
metadata-told t h e n q f l =
    ap (λ (x : machine.Etag). metadata (h.size - n) h.stamp x h.pairs (2 * h.pairs + n)) f
    ∙ ap (λ (x : Head). metadata (x.size - n) x.stamp (row_etag x.kind (digest_at t) x.count) x.pairs (2 * x.pairs + n)) q
    ∙ rw l

-- the metadata m are those of the object x
pub record Told (m : Metadata) (x : Object) : Type 0 where
  pub all : metadata_of m ≡ about x
  pub size : m.length ≡ length x.content
  pub written : m.bytes ≡ length (encode_pairs x.pairs)

-- the object whose row stands at `at`, with its block at `base`
module _ (t a : List ℕ) (at base : ℕ) (k : Holds t a at base) where
  abbrev h : Head
  h = head_at (drop at t)

  abbrev ls : List ℕ
  ls = lengths_at (drop at t)

  abbrev block : List ℕ
  block = take h.size (drop base a)

  abbrev x : Object
  x = stored_at t a at base

  parts : stored.Block ls block
  parts = stored.block ls block k.pairs

  length-block : length block ≡ h.size
  length-block = length-take-le h.size (drop base a) (let r = k.block in simp length-drop (omega arith))

  length-lengths : length ls ≡ 2 * h.pairs
  unfolding lengths_at span_at
  length-lengths =
      let r = k.row in
      omega (arith, length-take (2 * h.pairs) (drop (head_length + h.pathlen) (drop at t)), length-drop (head_length + h.pathlen) (drop at t), length-drop at t)

  pub lengths-few : length ls ≤ 256
  lengths-few = let f = parts.few in omega arith

  pub pairs-inside : sum_of ls ≤ h.size
  pairs-inside = omega (arith, parts.room, length-block)

  -- how many bytes of the block are data, how many pairs there are, and how many bytes they are written as
  stored-length : length x.content ≡ h.size - sum_of ls
  unfolding stored_at row_at
  stored-length = length-drop (sum_of ls) block ∙ ap (λ (n : ℕ). n - sum_of ls) length-block

  stored-count : length x.pairs ≡ h.pairs
  unfolding stored_at row_at
  stored-count = omega (arith, parts.twice, length-lengths)

  stored_bytes : length (encode_pairs x.pairs) ≡ 2 * h.pairs + sum_of ls
  unfolding stored_at row_at
  stored_bytes =
      let m = pairs_at ls block in
      omega (arith, length-encode m, parts.twice, length-lengths, ap sum_of parts.lengths, sum-lengths m)

  stored-about : about x ≡ metadata_at (drop at t)
  unfolding stored_at row_at metadata_at
  stored-about = λ i. metadata (stored-length i) h.stamp (row_etag h.kind (digest_at (drop at t)) h.count) (stored-count i) (stored_bytes i)

  -- what the code was told of it
  pub told : (m : Metadata) → metadata_of m ≡ metadata_at (drop at t) → Told m x
  told m e =
      let q : metadata_of m ≡ about x = e ∙ sym stored-about in
      record { all = q; size = cc; written = cc }

  -- the lengths and the slices of the block that the code takes, where the pairs have n bytes
  module _ (l : List ℕ) (same : l ≡ ls) (n : ℕ) (summed : n ≡ sum_of l) where
    e : n ≡ sum_of ls
    e = summed ∙ ap sum_of same

    pub pairs_end : base + n ≤ length a
    pairs_end = omega (arith, k.block, pairs-inside, e)

    abbrev front : List ℕ
    front = take (base + n - base) (drop base a)

    front-is : front ≡ take (sum_of ls) block
    front-is =
        let i : base + n - base ≡ sum_of ls = omega (arith, e) in
        ap (λ (j : ℕ). take j (drop base a)) i ∙ sym (take-take (sum_of ls) h.size (drop base a) pairs-inside)

    pub front-ok : stored_ok l front ≡ true
    unfolding block_ok
    front-ok = ap₂ stored_ok same front-is ∙ k.pairs

    pub front-size : length l + length front ≡ length (encode_pairs x.pairs)
    front-size =
        let f : length (take (sum_of ls) block) ≡ sum_of ls = length-take-le (sum_of ls) block parts.room in
        omega (arith, ap length front-is, ap length same, length-lengths, stored_bytes)

    -- what is written
    pub front-written : (b b' : Bytes) → b' ≡ encode_pairs (pairs_at l front) ++ drop (length l + length front) b → b' ≡ over (encode_pairs x.pairs) b
    unfolding stored_at row_at block_ok
    front-written b b' q =
        let m : pairs_at l front ≡ pairs_at ls block = ap₂ pairs_at same front-is ∙ block-front ls block k.pairs in
        q ∙ ap₂ (λ (y : Map Bytes Bytes) (j : ℕ). encode_pairs y ++ drop j b) m front-size

    -- the data
    pub data-end : base + n + length x.content ≤ length a
    data-end = omega (arith, k.block, pairs-inside, e, stored-length)

    data-read : (m : ℕ) → m ≡ length x.content → take (base + n + m - (base + n)) (drop (base + n) a) ≡ x.content
    unfolding stored_at row_at
    data-read m q =
        let i : base + n + m - (base + n) ≡ h.size - sum_of ls = omega (arith, stored-length) in
        let w = k.block in
        let r = pairs-inside in
        let z : sum_of ls ≤ length (drop base a) = omega (arith, length-drop base a) in
        ap₂ (λ (j o : ℕ). take j (drop (base + o) a)) i e
        ∙ ap (take (h.size - sum_of ls)) (sym (drop-drop (sum_of ls) base a))
        ∙ sym (drop-take (sum_of ls) h.size (drop base a) pairs-inside z)

    pub data-written : (m : ℕ) → m ≡ length x.content → (b b' : Bytes) → b' ≡ bytes.written b 0 (take (base + n + m - (base + n)) (drop (base + n) a)) → b' ≡ over x.content b
    data-written m q b b' w = w ∙ rw (data-read m q, zero-add)
