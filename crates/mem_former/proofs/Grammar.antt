-- `characters`, which finds a row by a character's first byte, accepts just what the grammar of RFC 3629 has. Assumes nothing.
use Prim.Native.Nat.{ℕ, ◌<◌}
use mathlib.Core.Path.{◌≡◌, refl, ap, subst}
use mathlib.Core.Bool.{Bool, true, false, not, ◌&&◌, ◌||◌, or-true, false≢true}
use mathlib.Core.List.{List, [], ◌∷◌, ◌++◌}
use native.Mathlib.Omega.{arith}
use lib.Dec.{leb}
use borrow.Author.Tests.{leb-true}
use Rattle.mem_row.proofs.RowLaws.{and_left, and_right, and_both}
use Rattle.machine.specs.Names.{Bytes, Range, Form, ◌to◌, within, forms, can_begin, following, characters}
use Rattle.machine.proofs.Ranges.{below, passes, same_ranges, same-ranges}
use Rattle.mem_former.specs.Abnf.{Row, this, other, Each, none, byte, Octets, end, char}

-- what is due, then characters
record Begun (due : List Range) (p : Bytes) : Type 0 where
  start : Bytes
  left : Bytes
  is : start ++ left ≡ p
  each : Each due start
  octets : Octets left

record Opened (fs : List Form) (b : ℕ) : Type 0 where
  first : Range
  row : Row fs first (following fs b)
  holds : within first b ≡ true

opened : (fs : List Form) (b : ℕ) → can_begin fs b ≡ true → Opened fs b
opened [] b e = absurd (false≢true e)
opened ((first, rest) ∷ fs) b e = go (within first b) refl (opened fs b) e
  where
    go : (k : Bool) → within first b ≡ k → (can_begin fs b ≡ true → Opened fs b) → (k || can_begin fs b) ≡ true → Opened ((first, rest) ∷ fs) b
    go true w more e = record { first = first; row = rw w this; holds = w }
    go false w more e =
        let o = more e in
        record { first = o.first; row = rw w (other o.row); holds = o.holds }

sound : (due : List Range) (p : Bytes) → characters due p ≡ true → Begun due p
sound [] [] e = record { start = []; left = []; is = refl; each = none; octets = end }
sound (r ∷ due) [] e = absurd (false≢true e)
sound (r ∷ due) (b ∷ p) e =
    let rest = sound due p (and_right (within r b) _ e) in
    record { start = b ∷ rest.start; left = rest.left; is = ap (λ (q : Bytes). b ∷ q) rest.is; each = byte (and_left (within r b) _ e) rest.each; octets = rest.octets }
sound [] (b ∷ p) e =
    let o = opened forms b (and_left (can_begin forms b) _ e) in
    let rest = sound (following forms b) p (and_right (can_begin forms b) _ e) in
    record { start = []; left = b ∷ p; is = refl; each = none; octets = subst Octets (ap (λ (q : Bytes). b ∷ q) rest.is) (char o.row (byte o.holds rest.each) rest.octets) }

pub characters-octets : (p : Bytes) → characters [] p ≡ true → Octets p
characters-octets p e = go (sound [] p e)
  where
    go : Begun [] p → Octets p
    go g = first g.start g.each g.is
      where
        first : (s : Bytes) → Each [] s → s ++ g.left ≡ p → Octets p
        first [] none q = subst Octets q g.octets
        first (_ ∷ _) x q = elim x [ ]

-- no two rows share a first byte: for each row and each byte
bytes : Range → Bool
bytes (low to high) = leb high 255

alone : Range → List Range → ℕ → Bool
alone first rest b = not (within first b) || same_ranges (following forms b) rest

apart : List Form → Bool
apart [] = true
apart ((first, rest) ∷ fs) = bytes first && below (alone first rest) 256 && apart fs

all_apart : apart forms ≡ true
unfolding apart alone below same_ranges bytes
all_apart = refl

is_byte : (r : Range) (b : ℕ) → bytes r ≡ true → within r b ≡ true → b < 256
unfolding bytes
is_byte (low to high) b e w = omega (arith, leb-true high 255 e, leb-true b high (and_right (leb low b) (leb b high) w))

row_of : {fs : List Form} {first : Range} {rest : List Range} (b : ℕ) → Row fs first rest → apart fs ≡ true → within first b ≡ true → following forms b ≡ rest
unfolding apart alone
row_of b (this {first} {rest} {fs}) e w =
    let here = and_left (bytes first && below (alone first rest) 256) (apart fs) e in
    let h : b < 256 = is_byte first b (and_left (bytes first) _ here) w in
    let t : alone first rest b ≡ true = passes (alone first rest) 256 (and_right (bytes first) _ here) b h in
    same-ranges (following forms b) rest (rw w at t)
row_of b (other {f} {fs = fs} r) e w = row_of b r (and_right (bytes f.0 && below (alone f.0 f.1) 256) (apart fs) e) w

row_opens : {fs : List Form} {first : Range} {rest : List Range} (b : ℕ) → Row fs first rest → within first b ≡ true → can_begin fs b ≡ true
row_opens b this w = rw w
row_opens b (other {f} r) w = rw (row_opens b r w) (or-true (within f.0 b))

passed : (due : List Range) (c p : Bytes) → Each due c → characters [] p ≡ true → characters due (c ++ p) ≡ true
passed [] [] p none e = e
passed [] (b ∷ c) p x e = elim x [ ]
passed (r ∷ due) [] p x e = elim x [ ]
passed (r ∷ due) (b ∷ c) p (byte w each) e = and_both (within r b) _ w (passed due c p each e)

pub octets-characters : (p : Bytes) → Octets p → characters [] p ≡ true
octets-characters [] end = refl
octets-characters q (char {first} {rest} {c} {p} row (byte {b = b} {c = d} w each) octets) =
    and_both (can_begin forms b) _ (row_opens b row w)
    (rw (row_of b row all_apart w) (passed rest d p each (octets-characters p octets)))
