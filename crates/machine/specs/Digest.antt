-- "The digest is MD5 as in RFC 1321, 16 bytes." Crate `base_md5` defines it; here it stays shut, and nothing computes it. Assumes nothing.
use Rattle.std.specs.Prelude.{◌≡◌, length}
use Rattle.base_md5.specs.DigestBytes.{digest_bytes, length-digest_bytes}
use Rattle.machine.specs.Names.{Bytes}

abbrev pub md5 : Bytes → Bytes
md5 content = digest_bytes content

pub length-md5 : (content : Bytes) → length (md5 content) ≡ 16
length-md5 content = length-digest_bytes content
