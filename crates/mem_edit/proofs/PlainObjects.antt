-- An object with the digest of its data. Assumes nothing.
use Prim.Native.Nat.{ℕ}
use mathlib.Core.Path.{◌≡◌, sym, ap, ◌∙◌}
use mathlib.Core.List.{List}
use Rattle.base_md5.specs.declared.words.Digest.{Digest}
use Rattle.base_md5.specs.Md5.{md5, bytes_of}
use Rattle.base_md5.specs.DigestBytes.{digest_bytes-is}
use Rattle.machine.specs.Map.{Map}
use Rattle.machine.specs.Names.{Bytes}
use Rattle.machine.specs.Etags.{plain}
use Rattle.machine.specs.Steps.{plain_object}
use Rattle.mem_edit.specs.Objects.{plain_with}

-- the object that is put, by the digest of its data
pub plain-is : (t : ℕ) (d : Bytes) (m : Map Bytes Bytes) (digest : Digest) → digest ≡ md5 d → plain_with t digest d m ≡ plain_object t d m
plain-is t d m digest e = ap (λ (x : List ℕ). record { content = d; created = t; etag = plain x; pairs = m }) (ap bytes_of e ∙ sym (digest_bytes-is d))
