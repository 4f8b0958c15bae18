-- Document 01, "Names, stamps and part numbers", with document 02's E2, paths in UTF-8, and E7, ten thousand parts. Assumes nothing.
-- Rules for what a request may name stand apart from rules for what a store may hold; of paths they are the same.
use Rattle.std.specs.Prelude.{ℕ, Bool, true, false, not, ◌&&◌, ◌||◌, cond, List, [], ◌∷◌, ◌++◌, leb, eqb, length}

-- "Data is 0 or more bytes."
abbrev pub Bytes : Type 0
Bytes = List ℕ

-- the bytes from the first number to the last
infix 70 ◌to◌
pub data Range : Type 0 where
  ◌to◌ : ℕ → ℕ → Range

-- the byte b is one of them
abbrev pub within : Range → ℕ → Bool
within (low to high) b = leb low b && leb b high

-- a row of RFC 3629's grammar (section 4): the range of a character's first byte, and the ranges of the bytes after it
abbrev pub Form : Type 0
Form = Range × List Range

-- "UTF8-tail = %x80-BF"
abbrev pub tail : Range
tail = 0x80 to 0xBF

-- "UTF8-1 = %x00-7F", of which a path has document 01's bytes, "each from 33 to 126"
abbrev pub utf8-1 : List Form
utf8-1 = (33 to 126, []) ∷ []

-- "UTF8-2 = %xC2-DF UTF8-tail", of which a path has "code points from 160 upward": after C2, the first of these is A0
abbrev pub utf8-2 : List Form
utf8-2 = (0xC2 to 0xC2, 0xA0 to 0xBF ∷ []) ∷ (0xC3 to 0xDF, tail ∷ []) ∷ []

-- "UTF8-3 = %xE0 %xA0-BF UTF8-tail / %xE1-EC 2( UTF8-tail ) / %xED %x80-9F UTF8-tail / %xEE-EF 2( UTF8-tail )"
abbrev pub utf8-3 : List Form
utf8-3 =
    (0xE0 to 0xE0, 0xA0 to 0xBF ∷ tail ∷ [])
    ∷ (0xE1 to 0xEC, tail ∷ tail ∷ [])
    ∷ (0xED to 0xED, 0x80 to 0x9F ∷ tail ∷ [])
    ∷ (0xEE to 0xEF, tail ∷ tail ∷ [])
    ∷ []

-- "UTF8-4 = %xF0 %x90-BF 2( UTF8-tail ) / %xF1-F3 3( UTF8-tail ) / %xF4 %x80-8F 2( UTF8-tail )"
abbrev pub utf8-4 : List Form
utf8-4 =
    (0xF0 to 0xF0, 0x90 to 0xBF ∷ tail ∷ tail ∷ [])
    ∷ (0xF1 to 0xF3, tail ∷ tail ∷ tail ∷ [])
    ∷ (0xF4 to 0xF4, 0x80 to 0x8F ∷ tail ∷ tail ∷ [])
    ∷ []

-- "UTF8-char = UTF8-1 / UTF8-2 / UTF8-3 / UTF8-4": no two rows share a first byte
abbrev pub forms : List Form
forms = utf8-1 ++ utf8-2 ++ utf8-3 ++ utf8-4

-- whether a character of these forms can begin with b
abbrev pub can_begin : List Form → ℕ → Bool
can_begin [] b = false
can_begin ((first, rest) ∷ fs) b = within first b || can_begin fs b

-- what must stand after b then
abbrev pub following : List Form → ℕ → List Range
following [] b = []
following ((first, rest) ∷ fs) b = cond (within first b) rest (following fs b)

-- "UTF8-octets = *( UTF8-char )", after the bytes that are still due
abbrev pub characters : (due : List Range) → Bytes → Bool
characters [] [] = true
characters (r ∷ due) [] = false
characters [] (b ∷ p) = can_begin forms b && characters (following forms b) p
characters (r ∷ due) (b ∷ p) = within r b && characters due p

-- "no two adjacent "/"" (47), with `before` standing before the first byte
abbrev pub apart : (before : ℕ) → Bytes → Bool
apart before [] = true
apart before (b ∷ p) = not (eqb before 47 && eqb b 47) && apart b p

-- "A path is 1 to 128 bytes, .., with no two adjacent "/" and no "/" first.": as if a "/" stood before it; E2: "A path may hold, besides
-- today's bytes, well-formed UTF-8 of RFC 3629 for code points from 160 upward."
unfoldable pub path_ok : Bytes → Bool
path_ok p = leb 1 (length p) && leb (length p) 128 && characters [] p && apart 47 p

-- before E2: "each from 33 to 126 (decimal, as all numbers here)"
abbrev pub visible : Bytes → Bool
visible [] = true
visible (b ∷ p) = leb 33 b && leb b 126 && visible p

-- a path by document 01 alone, before E2
unfoldable pub former_path_ok : Bytes → Bool
former_path_ok p = leb 1 (length p) && leb (length p) 128 && visible p && apart 47 p

-- a path that GET, HEAD, DELETE or COPY's source may name
unfoldable pub request_path_ok : Bytes → Bool
request_path_ok p = path_ok p

-- a path that PUT, INITIATE or COPY's destination may make
unfoldable pub new_path_ok : Bytes → Bool
new_path_ok p = path_ok p

-- a path that O, or an upload in U, may have
unfoldable pub stored_path_ok : Bytes → Bool
stored_path_ok p = path_ok p

-- "A stamp is a 64-bit count of seconds since the start of 1970, at least 1."
unfoldable pub stamp_ok : ℕ → Bool
stamp_ok t = leb 1 t && leb t 18446744073709551615

-- "A part number is 1 to 11,000 (004's limit).": before E7 also what PART may name
unfoldable pub number_ok : ℕ → Bool
number_ok n = leb 1 n && leb n 11000

-- E7: "PART takes 1 to 10,000."; "The outside definition is 004 with 10,000 for 11,000": there, "Only 11,000 parts are allowed"
unfoldable pub request_part_ok : ℕ → Bool
request_part_ok n = leb 1 n && leb n 10000

-- a part number that an upload in U may hold; E7: "A higher part that an older store already holds"
unfoldable pub stored_part_ok : ℕ → Bool
stored_part_ok n = number_ok n

-- "An upload number is 32 bits wide, from 1": this is the last
abbrev pub last_upload_number : ℕ
last_upload_number = 4294967295
