-- What `reply_bytes` writes is read back, where the values fit their widths. Assumes nothing.
use Prim.Native.Nat.{ℕ, ◌<◌, ◌^◌}
use mathlib.Core.Path.{◌≡◌, refl, sym, ap, ap₂, ◌∙◌}
use mathlib.Core.Bool.{Bool, true, false}
use mathlib.Core.List.{◌++◌}
use native.Mathlib.Omega.{arith}
use lib.Dec.{eqb}
use lib.ListN.{length, take, drop}
use lib.Seq.{take_all, take_at, drop_at, drop-drop}
use Rattle.base_number.specs.Number.{le, from_le}
use Rattle.base_number.proofs.NumberLaws.{length-le, from_le-le}
use Rattle.machine.specs.Names.{Bytes}
use Rattle.machine.specs.Etags.{Etag, absent, plain, joined, count_of, digest_of}
use Rattle.machine.specs.Calls.{metadata, etag, number, counts, swept}
use Rattle.c_reply.specs.Reply.{kind_of, field_bytes, fields_with, more_of, reply_bytes}
use Rattle.c_reply.specs.ReadBack.{number_at, etag_from, etag_in, metadata_in, number_in, counts_in, swept_in}

-- an etag that fits its fields: 16 bytes of digest, a count of 16 bits
abbrev pub EtagFits : Etag → Type 0
EtagFits absent = Unit {0}
EtagFits (plain digest) = length digest ≡ 16
EtagFits (joined digest count) = (length digest ≡ 16) × (count < 65536)

module _ (created size upload records bytes kind more count : ℕ) (digest : Bytes) (pairs pairsBytes : ℕ) where
  abbrev o : Bytes
  o = field_bytes created size upload records bytes kind more count digest pairs pairsBytes

  created-at : created < 256 ^ 8 → number_at 0 8 o ≡ created
  unfolding field_bytes le
  created-at h = from_le-le 8 created h

  length_at : size < 256 ^ 4 → number_at 8 4 o ≡ size
  unfolding field_bytes le
  length_at h = from_le-le 4 size h

  upload-at : upload < 256 ^ 4 → number_at 12 4 o ≡ upload
  unfolding field_bytes le
  upload-at h = from_le-le 4 upload h

  records-at : records < 256 ^ 4 → number_at 16 4 o ≡ records
  unfolding field_bytes le
  records-at h = from_le-le 4 records h

  bytes-at : bytes < 256 ^ 4 → number_at 20 4 o ≡ bytes
  unfolding field_bytes le
  bytes-at h = from_le-le 4 bytes h

  kind_at : kind < 256 ^ 1 → number_at 24 1 o ≡ kind
  unfolding field_bytes le
  kind_at h = from_le-le 1 kind h

  more-at : more < 256 ^ 1 → number_at 25 1 o ≡ more
  unfolding field_bytes le
  more-at h = from_le-le 1 more h

  count_at : count < 256 ^ 2 → number_at 26 2 o ≡ count
  unfolding field_bytes le
  count_at h = from_le-le 2 count h

  digest-at : length digest ≡ 16 → take 16 (drop 28 o) ≡ digest
  unfolding field_bytes le
  digest-at h = take_at digest (le 2 pairs ++ le 2 pairsBytes) 16 h

  -- after the digest
  tail_at : length digest ≡ 16 → drop 44 o ≡ le 2 pairs ++ le 2 pairsBytes
  unfolding field_bytes le
  tail_at h = sym (drop-drop 16 28 o) ∙ drop_at digest (le 2 pairs ++ le 2 pairsBytes) 16 h

  pairs-at : length digest ≡ 16 → pairs < 256 ^ 2 → number_at 44 2 o ≡ pairs
  pairs-at h n = ap (λ (l : Bytes). from_le (take 2 l)) (tail_at h) ∙ ap from_le (take_at (le 2 pairs) (le 2 pairsBytes) 2 (length-le 2 pairs)) ∙ from_le-le 2 pairs n

  pairs-bytes-at : length digest ≡ 16 → pairsBytes < 256 ^ 2 → number_at 46 2 o ≡ pairsBytes
  pairs-bytes-at h n =
      let tail : drop 46 o ≡ le 2 pairsBytes = sym (drop-drop 2 44 o) ∙ ap (drop 2) (tail_at h) ∙ drop_at (le 2 pairs) (le 2 pairsBytes) 2 (length-le 2 pairs) in
      ap (λ (l : Bytes). from_le (take 2 l)) tail ∙ ap from_le (take_all 2 (le 2 pairsBytes) (omega (arith, length-le 2 pairsBytes))) ∙ from_le-le 2 pairsBytes n

  etag-at : kind < 256 ^ 1 → count < 256 ^ 2 → length digest ≡ 16 → etag_in o ≡ etag_from kind count digest
  unfolding etag_in
  etag-at hk hc hd = λ i. etag_from (kind_at hk i) (count_at hc i) (digest-at hd i)

-- the etag, whatever stands in the other fields
etag-with : (created size upload records bytes : ℕ) (e : Etag) (pairs pairsBytes : ℕ) → EtagFits e → etag_in (fields_with created size upload records bytes e pairs pairsBytes) ≡ e
etag-with created size upload records bytes absent n k h = etag-at created size upload records bytes 0 0 0 (le 16 0) n k (omega arith) (omega arith) (length-le 16 0)
etag-with created size upload records bytes (plain digest) n k h = etag-at created size upload records bytes 1 0 0 digest n k (omega arith) (omega arith) h
etag-with created size upload records bytes (joined digest count) n k h =
    let c = h.1 in
    etag-at created size upload records bytes 2 0 count digest n k (omega arith) (omega arith) h.0

-- an etag's digest has 16 bytes, an absent one's too
digest-length : (e : Etag) → EtagFits e → length (digest_of e) ≡ 16
digest-length absent h = length-le 16 0
digest-length (plain digest) h = h
digest-length (joined digest count) h = h.0

pub metadata-back : (size created : ℕ) (e : Etag) (pairs pairsBytes : ℕ) → size < 4294967296 → created < 18446744073709551616 → EtagFits e → pairs < 65536 → pairsBytes < 65536
    → metadata_in (reply_bytes (metadata size created e pairs pairsBytes)) ≡ metadata size created e pairs pairsBytes
unfolding reply_bytes metadata_in
metadata-back size created e pairs pairsBytes hs hc he hp hb =
    let l = length_at created size 0 0 0 (kind_of e) 0 (count_of e) (digest_of e) pairs pairsBytes (omega arith) in
    let c = created-at created size 0 0 0 (kind_of e) 0 (count_of e) (digest_of e) pairs pairsBytes (omega arith) in
    let n = pairs-at created size 0 0 0 (kind_of e) 0 (count_of e) (digest_of e) pairs pairsBytes (digest-length e he) (omega arith) in
    let k = pairs-bytes-at created size 0 0 0 (kind_of e) 0 (count_of e) (digest_of e) pairs pairsBytes (digest-length e he) (omega arith) in
    λ i. metadata (l i) (c i) (etag-with created size 0 0 0 e pairs pairsBytes he i) (n i) (k i)

pub etag-back : (e : Etag) → EtagFits e → etag_in (reply_bytes (etag e)) ≡ e
unfolding reply_bytes
etag-back e h = etag-with 0 0 0 0 0 e 0 0 h

pub number-back : (n : ℕ) → n < 4294967296 → number_in (reply_bytes (number n)) ≡ number n
unfolding reply_bytes number_in
number-back n h = ap number (upload-at 0 0 n 0 0 _ _ _ _ _ _ (omega arith))

pub counts-back : (records bytes : ℕ) → records < 4294967296 → bytes < 4294967296 → counts_in (reply_bytes (counts records bytes)) ≡ counts records bytes
unfolding reply_bytes counts_in
counts-back records bytes hr hb =
    ap₂ counts (records-at 0 0 0 records bytes _ _ _ _ _ _ (omega arith)) (bytes-at 0 0 0 records bytes _ _ _ _ _ _ (omega arith))

-- whether more are due, as a number
more-back : (more : Bool) → (more_of more < 256 ^ 1) × (eqb (more_of more) 1 ≡ more)
more-back true = (omega arith, refl)
more-back false = (omega arith, refl)

pub swept-back : (count : ℕ) (more : Bool) → count < 4294967296 → swept_in (reply_bytes (swept count more)) ≡ swept count more
unfolding reply_bytes swept_in
swept-back count more h =
    let m = more-back more in
    ap₂ swept (records-at 0 0 0 count 0 _ _ _ _ _ _ (omega arith)) (ap (λ (n : ℕ). eqb n 1) (more-at 0 0 0 count 0 _ (more_of more) _ _ _ _ m.0) ∙ m.1)
