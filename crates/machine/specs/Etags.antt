-- Document 01, "Etags". Assumes nothing.
use Rattle.std.specs.Prelude.{ℕ, [], ◌∷◌, ◌++◌}
use Rattle.base_number.specs.Number.{le}
use Rattle.base_text.specs.Text.{hex, decimal}
use Rattle.machine.specs.Names.{Bytes}

-- "an etag is absent, plain, or joined with its count"
pub data Etag : Type 0 where
  absent : Etag
  plain : (digest : Bytes) → Etag
  joined : (digest : Bytes) (count : ℕ) → Etag

-- "As text, a plain etag is 32 lower-case hexadecimal digits; a joined one adds "-" and the count in decimal, so "-0" for no parts; an absent
-- one is no bytes." A "-" is 45.
unfoldable pub text : Etag → Bytes
text absent = []
text (plain digest) = hex digest
text (joined digest count) = hex digest ++ 45 ∷ decimal count

-- its count and its sixteen bytes; zeros where it has none
abbrev pub count_of : Etag → ℕ
count_of absent = 0
count_of (plain digest) = 0
count_of (joined digest count) = count

abbrev pub digest_of : Etag → Bytes
digest_of absent = le 16 0
digest_of (plain digest) = digest
digest_of (joined digest count) = digest
