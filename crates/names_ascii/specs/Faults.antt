-- A path of visible ASCII, judged by counting the bytes that may not stand where they stand. Assumes nothing.
use Rattle.std.specs.Prelude.{ℕ, suc, ◌+◌, ◌-◌, Bool, true, not, ◌&&◌, cond, List, [], ◌∷◌, leb, eqb, get_or, take, drop}

-- b may stand after `before`
unfoldable pub stands : (before b : ℕ) → Bool
stands before b = leb 33 b && leb b 126 && not (eqb before 47 && eqb b 47)

-- each byte of p may stand where it stands, after `before`
unfoldable pub clean : (before : ℕ) (p : List ℕ) → Bool
clean before [] = true
clean before (b ∷ p) = stands before b && clean b p

-- b after `before`: 0 where it may stand there, 1 where not
unfoldable pub fault_of : (before b : ℕ) → ℕ
fault_of before b = cond (stands before b) 0 1

unfoldable pub faults : (before : ℕ) (p : List ℕ) → ℕ
faults before [] = 0
faults before (b ∷ p) = fault_of before b + faults b p

-- the same count, of bytes beside those before them
unfoldable pub faults_beside : (before p : List ℕ) → ℕ
faults_beside [] p = 0
faults_beside (x ∷ before) [] = 0
faults_beside (x ∷ before) (b ∷ p) = fault_of x b + faults_beside before p

-- the bytes of t after the one at i, up to `to`, may stand where they stand
unfoldable pub run : (t : List ℕ) (i to : ℕ) → Bool
run t i to = clean (get_or t i 0) (take (to - suc i) (drop (suc i) t))
