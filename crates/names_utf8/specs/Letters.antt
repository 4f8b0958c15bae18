-- A character of RFC 3629 by its first byte: how many bytes it has and what its second may be. Assumes nothing.
use Rattle.std.specs.Prelude.{ℕ, zero, suc, ◌+◌, ◌≤◌, ◌<◌, ◌≡◌, true, not, ◌&&◌, cond, List, [], ◌∷◌, leb, ltb, eqb, length, get_or, take, drop}
use Rattle.machine.specs.Names.{Range, ◌to◌, tail, characters, apart}

-- how many bytes a character that begins with b has, or 0 where none does
unfoldable pub width_of : ℕ → ℕ
width_of b = cond (ltb b 33) 0 (cond (ltb b 127) 1 (cond (ltb b 194) 0 (cond (ltb b 224) 2 (cond (ltb b 240) 3 (cond (ltb b 245) 4 0)))))

-- the least that its second byte may be
unfoldable pub least_of : ℕ → ℕ
least_of b = cond (eqb b 194) 160 (cond (eqb b 224) 160 (cond (eqb b 240) 144 128))

-- the most that its second byte may be
unfoldable pub most_of : ℕ → ℕ
most_of b = cond (eqb b 237) 159 (cond (eqb b 244) 143 191)

-- b and c are C3 to DF and a tail
pub record Pair (b c : ℕ) : Type 0 where
  pub low : 194 < b
  pub high : b < 224
  pub second : (leb 128 c && leb c 191) ≡ true

-- from i to k stand characters, none of them a "/"
pub record Run (p : List ℕ) (i k : ℕ) : Type 0 where
  pub forward : i ≤ k
  pub inside : k ≤ length p
  pub rest : characters [] (drop i p) ≡ characters [] (drop k p)
  pub first : i < k → 47 < get_or p i 0
  pub skipped : i < k → apart (get_or p i 0) (drop (i + 1) p) ≡ apart (get_or p i 0) (drop k p)

-- r bytes at i are characters, or r is 0 and none stands there; only the first byte can be a "/"
pub record Letter (p : List ℕ) (i r : ℕ) : Type 0 where
  pub inside : i + r ≤ length p
  pub rest : characters [] (drop i p) ≡ (ltb 0 r && characters [] (drop (i + r) p))
  pub parted : (before : ℕ) → 1 ≤ r → apart before (drop i p) ≡ (not (eqb before 47 && eqb (get_or p i 0) 47) && apart (get_or p i 0) (drop (i + r) p))

-- what is due after the first of w bytes
abbrev pub due : (w low high : ℕ) → List Range
due zero low high = []
due (suc w) low high = take w (low to high ∷ tail ∷ tail ∷ [])
