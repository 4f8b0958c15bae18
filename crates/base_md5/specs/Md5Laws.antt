-- The laws of digests: sixteen bytes, and the way to the four words and back. Assumes nothing.
use Rattle.std.specs.Prelude.{◌≡◌, ℕ, ◌+◌, ◌*◌, ◌≤◌, List, ◌++◌, length, take, drop, refl}
use Rattle.std.proofs.Common.{sym, ap, ◌∙◌, arith, take-append-drop, drop-drop, length-take-le}
use Rattle.std.proofs.Math.ListN.{length-drop}
use Rattle.std.proofs.Math.Seq.{take_all}
use Rattle.base_number.specs.Number.{le, AreBytes}
use Rattle.base_number.proofs.NumberLaws.{bytes_take, bytes_drop, le-from_le}
use Rattle.base_md5.specs.declared.words.Digest.{Digest}
use Rattle.base_md5.specs.Md5.{word, bytes_of, from_bytes}

pub length-bytes_of : (v : Digest) → length (bytes_of v) ≡ 16
unfolding bytes_of le
length-bytes_of v = refl

-- what is read was written so
module _ (x : List ℕ) (h : AreBytes x) (e : length x ≡ 16) where
  word-le : (i : ℕ) → i * 4 + 4 ≤ 16 → le 4 (word x i) ≡ take 4 (drop (i * 4) x)
  unfolding word
  word-le i fits =
      le-from_le 4 (take 4 (drop (i * 4) x)) (bytes_take 4 (drop (i * 4) x) (bytes_drop (i * 4) x h))
      (length-take-le 4 (drop (i * 4) x) (simp length-drop (omega arith)))

  parted : (i : ℕ) → take 4 (drop i x) ++ drop (i + 4) x ≡ drop i x
  parted i = ap (λ (l : List ℕ). take 4 (drop i x) ++ l) (sym (drop-drop 4 i x)) ∙ take-append-drop 4 (drop i x)

  pub bytes_of-from_bytes : bytes_of (from_bytes x) ≡ x
  unfolding bytes_of from_bytes
  bytes_of-from_bytes =
      rw (word-le 0 (omega arith), word-le 1 (omega arith), word-le 2 (omega arith), word-le 3 (omega arith), take_all 4 (drop 12 x) (simp length-drop (omega arith)), parted 8, parted 4, parted 0)
