-- RFC 1321, The MD5 Message-Digest Algorithm. Numbers in parentheses are its sections. Assumes nothing.
use Rattle.std.specs.Prelude.{ℕ, zero, suc, ◌+◌, ◌-◌, ◌*◌, ◌/◌, ◌%◌, ◌^◌, List, [], ◌∷◌, ◌++◌, length, take, drop, replicate, bit_and, bit_or, bit_xor, slice_index}
use Rattle.base_number.specs.Number.{le, from_le}
use Rattle.base_md5.specs.declared.words.Digest.{Digest}
use Rattle.base_md5.specs.declared.block.Round.{Round}
use Rattle.base_md5.specs.declared.block.Round.TheVariants.{First, Second, Third, Fourth}

-- (2) X + Y, the sum of words modulo 2^32
abbrev pub add32 : ℕ → ℕ → ℕ
add32 x y = (x + y) % 2 ^ 32

-- (2) X <<< s, the word X rotated left by s bits, 0 < s < 32
abbrev pub rotl32 : ℕ → ℕ → ℕ
rotl32 x s = bit_or ((x * 2 ^ s) % 2 ^ 32) (x / 2 ^ (32 - s))

-- (2) not(X), the bit-wise complement of a word
abbrev pub not32 : ℕ → ℕ
not32 x = 2 ^ 32 - 1 - x

-- (3.1) how many zero bytes bring n bytes and the byte 128 to 56 modulo 64: in bits, to 448 modulo 512
unfoldable pub zeros : ℕ → ℕ
zeros n = (119 - n % 64) % 64

-- (3.1), (3.2) the message, a bit 1 and zeros, which begin with the byte 128, and the low-order 64 bits of the message's length in bits: two
-- words, low-order word first, and so eight bytes, low-order byte first
unfoldable pub padded : List ℕ → List ℕ
padded m = m ++ 128 ∷ (replicate (zeros (length m)) 0 ++ le 8 (8 * length m % 2 ^ 64))

-- (3.3) the four words at the start; low-order byte first, A is 01 23 45 67
abbrev pub initial : Digest
initial = record { a = 0x67452301; b = 0xefcdab89; c = 0x98badcfe; d = 0x10325476 }

-- (3.4) F, G, H and I, the function of each round
abbrev pub auxiliary : Round → ℕ → ℕ → ℕ → ℕ
auxiliary First x y z = bit_or (bit_and x y) (bit_and (not32 x) z)
auxiliary Second x y z = bit_or (bit_and x z) (bit_and y (not32 z))
auxiliary Third x y z = bit_xor (bit_xor x y) z
auxiliary Fourth x y z = bit_xor y (bit_or x (not32 z))

-- (3.4) T[1] to T[64]: T[i] is the whole part of 4294967296 times abs(sin(i)), i in radians
unfoldable pub sines : List ℕ
sines =
    0xd76aa478 ∷ 0xe8c7b756 ∷ 0x242070db ∷ 0xc1bdceee ∷ 0xf57c0faf ∷ 0x4787c62a ∷ 0xa8304613 ∷ 0xfd469501 ∷
    0x698098d8 ∷ 0x8b44f7af ∷ 0xffff5bb1 ∷ 0x895cd7be ∷ 0x6b901122 ∷ 0xfd987193 ∷ 0xa679438e ∷ 0x49b40821 ∷
    0xf61e2562 ∷ 0xc040b340 ∷ 0x265e5a51 ∷ 0xe9b6c7aa ∷ 0xd62f105d ∷ 0x02441453 ∷ 0xd8a1e681 ∷ 0xe7d3fbc8 ∷
    0x21e1cde6 ∷ 0xc33707d6 ∷ 0xf4d50d87 ∷ 0x455a14ed ∷ 0xa9e3e905 ∷ 0xfcefa3f8 ∷ 0x676f02d9 ∷ 0x8d2a4c8a ∷
    0xfffa3942 ∷ 0x8771f681 ∷ 0x6d9d6122 ∷ 0xfde5380c ∷ 0xa4beea44 ∷ 0x4bdecfa9 ∷ 0xf6bb4b60 ∷ 0xbebfbc70 ∷
    0x289b7ec6 ∷ 0xeaa127fa ∷ 0xd4ef3085 ∷ 0x04881d05 ∷ 0xd9d4d039 ∷ 0xe6db99e5 ∷ 0x1fa27cf8 ∷ 0xc4ac5665 ∷
    0xf4292244 ∷ 0x432aff97 ∷ 0xab9423a7 ∷ 0xfc93a039 ∷ 0x655b59c3 ∷ 0x8f0ccc92 ∷ 0xffeff47d ∷ 0x85845dd1 ∷
    0x6fa87e4f ∷ 0xfe2ce6e0 ∷ 0xa3014314 ∷ 0x4e0811a1 ∷ 0xf7537e82 ∷ 0xbd3af235 ∷ 0x2ad7d2bb ∷ 0xeb86d391 ∷ []

-- (3.4) an operation of the tables, as [ABCD k s i], [DABC k s i], [CDAB k s i] or [BCDA k s i]
pub data Operation : Type 0 where
  op : (k s i : ℕ) → Operation

-- (3.4) the sixteen operations of each round; the words stand as ABCD, DABC, CDAB, BCDA in turn
unfoldable pub table : Round → List Operation
table First =
    op 0 7 1 ∷ op 1 12 2 ∷ op 2 17 3 ∷ op 3 22 4 ∷
    op 4 7 5 ∷ op 5 12 6 ∷ op 6 17 7 ∷ op 7 22 8 ∷
    op 8 7 9 ∷ op 9 12 10 ∷ op 10 17 11 ∷ op 11 22 12 ∷
    op 12 7 13 ∷ op 13 12 14 ∷ op 14 17 15 ∷ op 15 22 16 ∷ []
table Second =
    op 1 5 17 ∷ op 6 9 18 ∷ op 11 14 19 ∷ op 0 20 20 ∷
    op 5 5 21 ∷ op 10 9 22 ∷ op 15 14 23 ∷ op 4 20 24 ∷
    op 9 5 25 ∷ op 14 9 26 ∷ op 3 14 27 ∷ op 8 20 28 ∷
    op 13 5 29 ∷ op 2 9 30 ∷ op 7 14 31 ∷ op 12 20 32 ∷ []
table Third =
    op 5 4 33 ∷ op 8 11 34 ∷ op 11 16 35 ∷ op 14 23 36 ∷
    op 1 4 37 ∷ op 4 11 38 ∷ op 7 16 39 ∷ op 10 23 40 ∷
    op 13 4 41 ∷ op 0 11 42 ∷ op 3 16 43 ∷ op 6 23 44 ∷
    op 9 4 45 ∷ op 12 11 46 ∷ op 15 16 47 ∷ op 2 23 48 ∷ []
table Fourth =
    op 0 6 49 ∷ op 7 10 50 ∷ op 14 15 51 ∷ op 5 21 52 ∷
    op 12 6 53 ∷ op 3 10 54 ∷ op 10 15 55 ∷ op 1 21 56 ∷
    op 8 6 57 ∷ op 15 10 58 ∷ op 6 15 59 ∷ op 13 21 60 ∷
    op 4 6 61 ∷ op 11 10 62 ∷ op 2 15 63 ∷ op 9 21 64 ∷ []

-- (3.4) X[k], the word k of the block x: four bytes, low-order byte first (2)
unfoldable pub word : List ℕ → ℕ → ℕ
word x k = from_le (take 4 (drop (k * 4) x))

-- (3.4) the sixteen words of the block x, X[0] to X[15]
unfoldable pub words_of : List ℕ → List ℕ
words_of x =
    word x 0 ∷ word x 1 ∷ word x 2 ∷ word x 3 ∷ word x 4 ∷ word x 5 ∷ word x 6 ∷ word x 7 ∷
    word x 8 ∷ word x 9 ∷ word x 10 ∷ word x 11 ∷ word x 12 ∷ word x 13 ∷ word x 14 ∷ word x 15 ∷ []

-- (3.4) [abcd k s i]: a = b + ((a + F(b,c,d) + X[k] + T[i]) <<< s), with x for X[k] and t for T[i]. The words are renamed after it, from abcd
-- to dabc, so that each operation is of the first word
unfoldable pub step : Round → ℕ → ℕ → ℕ → Digest → Digest
step r x s t v = record {
  a = v.d;
  b = add32 v.b (rotl32 (add32 (add32 (add32 v.a (auxiliary r v.b v.c v.d)) x) t) s);
  c = v.b;
  d = v.c;
}

-- (3.4) the same on the block x
unfoldable pub operation : Round → List ℕ → ℕ → ℕ → ℕ → Digest → Digest
operation r x k s t v = step r (word x k) s t v

-- (3.4) operations in the order of a table, with T[i] from the list, which counts from 0
unfoldable pub operations : Round → List ℕ → List Operation → Digest → Digest
operations r x [] v = v
operations r x (op k s i ∷ rest) v = operations r x rest (operation r x k s (slice_index sines (i - 1)) v)

-- (3.4) A = A + AA, B = B + BB, C = C + CC, D = D + DD
unfoldable pub added : Digest → Digest → Digest
added w v = record { a = add32 w.a v.a; b = add32 w.b v.b; c = add32 w.c v.c; d = add32 w.d v.d }

-- (3.4) one round on the block x
unfoldable pub round : Round → List ℕ → Digest → Digest
round r x v = operations r x (table r) v

-- (3.4) the block x: the four rounds, and then the words at its start added
unfoldable pub compress : List ℕ → Digest → Digest
compress x v = added (round Fourth x (round Third x (round Second x (round First x v)))) v

-- (3.4) the words after the first n blocks of m, of 16 words, 64 bytes, each
unfoldable pub chain : Digest → List ℕ → ℕ → Digest
chain v m zero = v
chain v m (suc n) = compress (take 64 (drop (n * 64) m)) (chain v m n)

-- the message digest of m, as four words
unfoldable pub md5 : List ℕ → Digest
md5 m = chain initial (padded m) (length (padded m) / 64)

-- (3.5) the digest as sixteen bytes: from the low-order byte of A to the high-order byte of D
unfoldable pub bytes_of : Digest → List ℕ
bytes_of v = le 4 v.a ++ (le 4 v.b ++ (le 4 v.c ++ le 4 v.d))

-- the digest whose sixteen bytes are b
unfoldable pub from_bytes : List ℕ → Digest
from_bytes b = record { a = word b 0; b = word b 1; c = word b 2; d = word b 3 }
