-- The sixteen bytes of a message digest, under a name that stays shut: nothing computes it. Assumes nothing.
use Rattle.std.specs.Prelude.{◌≡◌, ℕ, List, length, refl}
use Rattle.base_md5.specs.Md5.{md5, bytes_of}
use Rattle.base_md5.specs.Md5Laws.{length-bytes_of}

-- the digest of m, sixteen bytes
pub digest_bytes : List ℕ → List ℕ
digest_bytes m = bytes_of (md5 m)

pub digest_bytes-is : (m : List ℕ) → digest_bytes m ≡ bytes_of (md5 m)
unfolding digest_bytes
digest_bytes-is m = refl

pub length-digest_bytes : (m : List ℕ) → length (digest_bytes m) ≡ 16
unfolding digest_bytes
length-digest_bytes m = length-bytes_of (md5 m)
