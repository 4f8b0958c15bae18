-- 4,096 bytes before the line feed, and one more. Assumes nothing.
use Prim.Native.Nat.{ℕ, zero, suc, ◌+◌, ◌*◌}
use mathlib.Core.Path.{◌≡◌, refl}
use mathlib.Core.List.{[], ◌∷◌}
use mathlib.Core.Option.{none, some}
use native.Mathlib.Omega.{arith}
use lib.ListN.{length, length-append}
use Rattle.base_text.proofs.TextLaws.{length-hex}
use Rattle.machine.specs.Names.{Bytes}
use Rattle.recording.specs.Entry.{get, head, AreBytes}
use Rattle.recording.specs.Print.{quoted, print}
use Rattle.recording.specs.Parse.{entry_of}
use Rattle.recording.proofs.Unique.{printed-line, line-over}

-- n bytes "a"
abbrev filled : ℕ → Bytes
filled zero = []
filled (suc n) = 97 ∷ filled n

filled-bytes : (n : ℕ) → AreBytes (filled n)
filled-bytes zero = tt
filled-bytes (suc n) = (omega arith, filled-bytes n)

filled-length : (n : ℕ) → length (filled n) ≡ n
filled-length zero = refl
filled-length (suc n) = omega (arith, filled-length n)

get-length : (p : Bytes) → length (print (get p)) ≡ 8 + 2 * length p
unfolding print quoted
get-length p = simp length-append (omega (arith, length-hex p))

head-length : (p : Bytes) → length (print (head p)) ≡ 9 + 2 * length p
unfolding print quoted
head-length p = simp length-append (omega (arith, length-hex p))

-- 4,096 bytes are a form
pub longest : entry_of (print (get (filled 2044))) ≡ some (get (filled 2044))
longest = printed-line (get (filled 2044)) (print (get (filled 2044))) (filled-bytes 2044) refl (omega (arith, get-length (filled 2044), filled-length 2044))

-- 4,097 are none
pub too_long : entry_of (print (head (filled 2044))) ≡ none
too_long = line-over (print (head (filled 2044))) (omega (arith, head-length (filled 2044), filled-length 2044))
