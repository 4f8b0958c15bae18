-- E2's cases of the rule of paths, computed. Assumes nothing.
use Rattle.std.specs.Prelude.{ℕ, ◌≡◌, refl, true, false, [], ◌∷◌, ◌++◌, replicate}
use Rattle.machine.specs.Names.{Bytes, path_ok}

-- n letters "a"
abbrev pub letters : ℕ → Bytes
letters n = replicate n 97

-- "Käsestange": its second letter is C3 A4
pub kaesestange : path_ok (0x4B ∷ 0xC3 ∷ 0xA4 ∷ 0x73 ∷ 0x65 ∷ 0x73 ∷ 0x74 ∷ 0x61 ∷ 0x6E ∷ 0x67 ∷ 0x65 ∷ []) ≡ true
unfolding path_ok
kaesestange = refl

-- "pain-au-levain-épicé"
abbrev pub pain : Bytes
pain =
    0x70 ∷ 0x61 ∷ 0x69 ∷ 0x6E ∷ 0x2D ∷ 0x61 ∷ 0x75 ∷ 0x2D ∷ 0x6C ∷ 0x65 ∷ 0x76 ∷ 0x61 ∷ 0x69 ∷ 0x6E ∷ 0x2D
    ∷ 0xC3 ∷ 0xA9 ∷ 0x70 ∷ 0x69 ∷ 0x63 ∷ 0xC3 ∷ 0xA9 ∷ []

pub pain-au-levain : path_ok pain ≡ true
unfolding path_ok
pain-au-levain = refl

-- 128 bytes, of which the last three are a letter (E2 82 AC)
pub three-at-the-end : path_ok (letters 125 ++ 0xE2 ∷ 0x82 ∷ 0xAC ∷ []) ≡ true
unfolding path_ok
three-at-the-end = refl

-- a byte more is too long
pub of-129 : path_ok (letters 126 ++ 0xE2 ∷ 0x82 ∷ 0xAC ∷ []) ≡ false
unfolding path_ok
of-129 = refl

-- 128 bytes that end amid that letter
pub cut-after-two : path_ok (letters 126 ++ 0xE2 ∷ 0x82 ∷ []) ≡ false
unfolding path_ok
cut-after-two = refl

pub cut-after-one : path_ok (letters 127 ++ 0xE2 ∷ []) ≡ false
unfolding path_ok
cut-after-one = refl

-- surrogates as CESU-8 has them: ED A0 BD ED B8 80
pub surrogates : path_ok (0xED ∷ 0xA0 ∷ 0xBD ∷ 0xED ∷ 0xB8 ∷ 0x80 ∷ []) ≡ false
unfolding path_ok
surrogates = refl

-- "/" in two bytes and in three
pub overlong-slash : path_ok (0x61 ∷ 0xC0 ∷ 0xAF ∷ []) ≡ false
unfolding path_ok
overlong-slash = refl

pub overlong-slash-of-three : path_ok (0x61 ∷ 0xE0 ∷ 0x80 ∷ 0xAF ∷ []) ≡ false
unfolding path_ok
overlong-slash-of-three = refl

-- 10FFFF is the last code point
pub last-code-point : path_ok (0xF4 ∷ 0x8F ∷ 0xBF ∷ 0xBF ∷ []) ≡ true
unfolding path_ok
last-code-point = refl

pub past-the-last : path_ok (0xF4 ∷ 0x90 ∷ 0x80 ∷ 0x80 ∷ []) ≡ false
unfolding path_ok
past-the-last = refl

-- 160 is the first code point past ASCII
pub of-159 : path_ok (0xC2 ∷ 0x9F ∷ []) ≡ false
unfolding path_ok
of-159 = refl

pub of-160 : path_ok (0xC2 ∷ 0xA0 ∷ []) ≡ true
unfolding path_ok
of-160 = refl

-- bytes of UTF8-tail alone
pub lone-tail : path_ok (0x80 ∷ []) ≡ false
unfolding path_ok
lone-tail = refl

pub lone-tail-after-a-letter : path_ok (0xC3 ∷ 0xA4 ∷ 0xBF ∷ []) ≡ false
unfolding path_ok
lone-tail-after-a-letter = refl
