-- RFC 3629's grammar as a relation: a string is characters, each of some row. Assumes nothing.
use Rattle.std.specs.Prelude.{ℕ, ◌≡◌, true, List, [], ◌∷◌, ◌++◌}
use Rattle.machine.specs.Names.{Bytes, Range, Form, within, forms}

-- a row of the table
pub data Row : List Form → Range → List Range → Type 0 where
  this : {first : Range} {rest : List Range} {fs : List Form} → Row ((first, rest) ∷ fs) first rest
  other : {f : Form} {first : Range} {rest : List Range} {fs : List Form} → Row fs first rest → Row (f ∷ fs) first rest

-- bytes each within its range
pub data Each : List Range → Bytes → Type 0 where
  none : Each [] []
  byte : {r : Range} {rs : List Range} {b : ℕ} {c : Bytes} → within r b ≡ true → Each rs c → Each (r ∷ rs) (b ∷ c)

-- "UTF8-octets = *( UTF8-char )"
pub data Octets : Bytes → Type 0 where
  end : Octets []
  char : {first : Range} {rest : List Range} {c p : Bytes} → Row forms first rest → Each (first ∷ rest) c → Octets p → Octets (c ++ p)
