-- What the exported functions answer. Assumes nothing.
use Rattle.std.specs.Prelude.{ℕ, zero, suc, ◌≡◌, Bool, cond, List}
use Rattle.base_md5.specs.declared.words.Digest.{Digest}
use Rattle.base_md5.specs.Md5.{bytes_of}
use Rattle.std.specs.declared.cmp.Ordering.{Ordering}
use Rattle.std.specs.declared.cmp.Ordering.TheVariants.{Less, Equal, Greater}

-- 0 where the arguments fit, else 1
abbrev pub answer : Bool → ℕ
answer fit = cond fit 0 1

-- what a buffer holds after the answer: the change where it is 0
abbrev pub changed : (answer : ℕ) (before after : List ℕ) → List ℕ
changed zero before after = after
changed (suc n) before after = before

-- where the answer is 0, the buffer holds the bytes of a digest; of which, is left open
abbrev pub PutsADigest : (answer : ℕ) (before after : List ℕ) → Type 0
PutsADigest n before after = (v : Digest) × (after ≡ changed n before (bytes_of v))

-- the order as a number
abbrev pub place : Ordering → ℕ
place Less = 0
place Equal = 1
place Greater = 2
