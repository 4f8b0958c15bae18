-- Readers: what the bytes begin with, and the bytes after it. Assumes nothing.
use Rattle.std.specs.Prelude.{ℕ, zero, suc, ◌+◌, ◌*◌, ◌-◌, ◌^◌, ◌&&◌, cond, List, [], ◌∷◌, ◌++◌, leb, ltb, eqb, length}
use Rattle.machine.specs.Names.{Bytes}
use Rattle.machine.specs.Pairs.{Pair}

pub data Read (X : Type 0) : Type 0 where
  got : X → (rest : Bytes) → Read X
  no : Read X

abbrev pub Reader : Type 0 → Type 0
Reader X = Bytes → Read X

module _ {X Y : Type 0} where
  -- goes on after what was read
  abbrev pub and_then : Read X → (X → Reader Y) → Read Y
  and_then (got x l) k = k x l
  and_then no k = no

module _ {X Y : Type 0} where
  -- one after the other
  abbrev pub both : Reader X → Reader Y → Reader (X × Y)
  both r q l = and_then (r l) (λ x l₁. and_then (q l₁) (λ y l₂. got (x, y) l₂))

  abbrev pub map_read : (X → Y) → Reader X → Reader Y
  map_read f r l = and_then (r l) (λ x l₁. got (f x) l₁)

module _ {X : Type 0} where
  -- the byte b, and then what is read after it
  abbrev pub past : ℕ → Reader X → Reader X
  past b r [] = no
  past b r (x ∷ l) = cond (eqb x b) (r l) no

  -- what is read, and then ")"
  abbrev pub closed : Reader X → Reader X
  closed r l = and_then (r l) (λ x. past 41 (got x))

  -- as many as there are, each after one space; `n` is more than there can be
  abbrev pub items_on : Reader X → (n : ℕ) (before : List X) → Reader (List X)
  items_on r zero xs l = no
  items_on r (suc n) xs [] = got xs []
  items_on r (suc n) xs (b ∷ l) = cond (eqb b 32) (and_then (r l) (λ x. items_on r n (xs ++ x ∷ []))) (got xs (b ∷ l))

  abbrev pub items : Reader X → Reader (List X)
  items r l = items_on r (suc (length l)) [] l

-- Numbers ------------------------------------------------------------------------------------------------------------------

-- the value of a decimal digit, 48 to 57; 10 for any other byte
unfoldable pub digit_value : ℕ → ℕ
digit_value b = cond (leb 48 b && leb b 57) (b - 48) 10

-- more digits after those of v; no number of 2^64 or more
unfoldable pub digits_on : (v : ℕ) → Reader ℕ
digits_on v [] = got v []
digits_on v (b ∷ l) =
    let w = 10 * v + digit_value b in
    cond (ltb (digit_value b) 10) (cond (ltb w (2 ^ 64)) (digits_on w l) no) (got v (b ∷ l))

-- "without leading zeros (zero is one digit)"
unfoldable pub read_number : Reader ℕ
read_number [] = no
read_number (b ∷ l) = cond (eqb b 48) (got 0 l) (cond (ltb (digit_value b) 10) (digits_on 0 (b ∷ l)) no)

-- Strings ------------------------------------------------------------------------------------------------------------------

-- the value of a lower-case hexadecimal digit, 48 to 57 and 97 to 102; 16 for any other byte
unfoldable pub hex_value : ℕ → ℕ
hex_value b = cond (leb 48 b && leb b 57) (b - 48) (cond (leb 97 b && leb b 102) (b - 87) 16)

-- the byte that two digits stand for; 256 where they are no digits
unfoldable pub hex_pair : (h l : ℕ) → ℕ
hex_pair h l = cond (ltb (hex_value h) 16 && ltb (hex_value l) 16) (16 * hex_value h + hex_value l) 256

-- digit pairs up to the closing quote, after those of `bs`
unfoldable pub hex_on : (bs : Bytes) → Reader Bytes
hex_on bs [] = no
hex_on bs (h ∷ []) = cond (eqb h 34) (got bs []) no
hex_on bs (h ∷ (l ∷ r)) =
    cond (eqb h 34) (got bs (l ∷ r)) (cond (ltb (hex_pair h l) 256) (hex_on (bs ++ hex_pair h l ∷ []) r) no)

unfoldable pub read_string : Reader Bytes
read_string = past 34 (hex_on [])

-- Lists --------------------------------------------------------------------------------------------------------------------

-- "each as a bracket of two quoted forms"
unfoldable pub read_pair : Reader Pair
read_pair = past 40 (closed (both read_string (past 32 read_string)))

-- "a part list in its own brackets": empty where no number stands first, else that number and as many more
abbrev pub first_number : Read ℕ → Reader (List ℕ)
first_number (got n r) l = items_on read_number (suc (length r)) (n ∷ []) r
first_number no l = got [] l

abbrev pub inside_numbers : Reader (List ℕ)
inside_numbers l = first_number (read_number l) l

unfoldable pub read_numbers : Reader (List ℕ)
read_numbers = past 40 (closed inside_numbers)
