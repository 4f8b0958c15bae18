-- Numbers read high byte first compare as the bytes do; a number's bytes are turned by halves. Assumes nothing.
use Prim.Native.Nat.{ℕ, suc, ◌+◌, ◌*◌, ◌/◌, ◌%◌, ◌^◌, ◌≤◌, ◌<◌, compare, Ordering}
use mathlib.Core.Path.{◌≡◌, sym, ap, ap₂, ◌∙◌}
use mathlib.Core.List.{List, [], ◌∷◌, ◌++◌}
use native.Mathlib.Nat.{pow-zero, pow-succ', mul_assoc, mul_comm, mul-add, mul-le-mul_left, one-mul}
use native.Mathlib.Omega.{arith}
use lib.Dec.{lit<}
use lib.Pow.{pow-add}
use lib.ListN.{length, take, drop, length-append, length-drop, take-append-drop}
use lib.Seq.{length-take-le}
use Rattle.std.specs.Int.{w32, w64, swap_bytes}
use Rattle.base_number.specs.Number.{le, from_le, AreBytes}
use Rattle.base_number.proofs.NumberLaws.{bytes_take, bytes_drop, le-from_le}
use Rattle.base_order.specs.Order.{by_bytes}
use Rattle.base_order.specs.Big.{from_be}
use Rattle.base_order.proofs.OrderLaws.{cases, alike, below, bytes-alike, bytes-over, bytes-skip}

be-append : (xs ys : List ℕ) → from_be (xs ++ ys) ≡ 256 ^ length ys * from_be xs + from_be ys
unfolding from_be
be-append [] ys = omega arith
be-append (x ∷ xs) ys =
    let P = 256 ^ length xs in
    let Q = 256 ^ length ys in
    let e : 256 ^ length (xs ++ ys) * x ≡ Q * (P * x) =
    ap (λ (n : ℕ). 256 ^ n * x) (length-append xs ys) ∙ ap (λ (p : ℕ). p * x) (pow-add 256 (length xs) (length ys) ∙ mul_comm P Q) ∙ mul_assoc Q P x in
    omega (arith, be-append xs ys, mul-add Q (P * x) (from_be xs))

be-below : (xs : List ℕ) → AreBytes xs → from_be xs < 256 ^ length xs
unfolding from_be
be-below [] h = rw pow-zero (lit< tt)
be-below (x ∷ xs) h =
    let P = 256 ^ length xs in
    let x-small : x < 256 = h 0 in
    let top : P * x ≤ P * 255 = mul-le-mul_left P (omega arith) in
    rw pow-succ' (omega (arith, be-below xs (λ i. h (suc i)), mul_comm P 255))

-- what is first by bytes is the smaller number
be-less : (xs ys : List ℕ) → AreBytes xs → AreBytes ys → length xs ≡ length ys → by_bytes xs ys ≡ Prim.Native.Nat.Ordering.lt → from_be xs < from_be ys
unfolding from_be
be-less [] [] hx hy l e = absurd (let z : ◌≡◌ {A = ℕ} 0 1 = cc in omega arith)
be-less [] (y ∷ ys) hx hy l e = absurd (omega arith)
be-less (x ∷ xs) [] hx hy l e = absurd (omega arith)
be-less (x ∷ xs) (y ∷ ys) hx hy l e =
    let n : length xs ≡ length ys = omega arith in
    let P = 256 ^ length ys in
    let p : 256 ^ length xs ≡ P = ap (λ (k : ℕ). 256 ^ k) n in
    let small : from_be xs < P = rw p at (be-below xs (λ i. hx (suc i))) in
    cases (compare x y)
    (λ q. let up : P * suc x ≤ P * y = mul-le-mul_left P (below x y q) in rw p (omega (arith, mul-add P 1 x, mul_comm P 1, one-mul P)))
    (λ q. let same : x ≡ y = alike x y q in
    let rest : from_be xs < from_be ys = be-less xs ys (λ i. hx (suc i)) (λ i. hy (suc i)) n (simp q at e) in
    rw (p, same) (omega arith))
    (λ q. let z : ◌≡◌ {A = Ordering} Prim.Native.Nat.Ordering.gt Prim.Native.Nat.Ordering.lt = simp q at e in absurd (let w : ◌≡◌ {A = ℕ} 0 1 = cc in omega arith))

module _ (xs ys : List ℕ) (hx : AreBytes xs) (hy : AreBytes ys) (l : length xs ≡ length ys) where
  pub be-lt : from_be xs < from_be ys → by_bytes xs ys ≡ Prim.Native.Nat.Ordering.lt
  be-lt h =
      cases (by_bytes xs ys)
      (λ q. q)
      (λ q. absurd (omega (arith, ap from_be (bytes-alike xs ys q))))
      (λ q. absurd (omega (arith, be-less ys xs hy hx (sym l) (bytes-over xs ys q))))

  pub be-same : from_be xs ≡ from_be ys → xs ≡ ys
  be-same e =
      cases (by_bytes xs ys)
      (λ q. absurd (omega (arith, be-less xs ys hx hy l q)))
      (λ q. bytes-alike xs ys q)
      (λ q. absurd (omega (arith, be-less ys xs hy hx (sym l) (bytes-over xs ys q))))

-- a number whose bytes are turned is read from the bytes of the number high byte first
pub turned_4 : (x : ℕ) → swap_bytes w32 x ≡ from_be (le 4 x)
unfolding from_be le
turned_4 x = omega arith

pub turned_8 : (x : ℕ) → swap_bytes w64 x ≡ from_be (le 8 x)
unfolding from_be le
turned_8 x = omega arith

-- the w bytes that were read low byte first
pub turned-word : (w : ℕ) (b : List ℕ) (at x r : ℕ) → AreBytes b → at + w ≤ length b → x ≡ from_le (take w (drop at b)) → r ≡ from_be (le w x) → r ≡ from_be (take w (drop at b))
turned-word w b at x r hb room e f =
    let n : length (take w (drop at b)) ≡ w = length-take-le w (drop at b) (rw (length-drop at b) (omega arith)) in
    f ∙ ap (λ (y : ℕ). from_be (le w y)) e ∙ ap from_be (le-from_le w (take w (drop at b)) (bytes_take w (drop at b) (bytes_drop at b hb)) n)

-- words of one length tell, whatever follows
decided : (xs ys r s : List ℕ) → length xs ≡ length ys → by_bytes xs ys ≡ Prim.Native.Nat.Ordering.lt → by_bytes (xs ++ r) (ys ++ s) ≡ Prim.Native.Nat.Ordering.lt
decided [] [] r s l e = absurd (let z : ◌≡◌ {A = ℕ} 0 1 = cc in omega arith)
decided [] (y ∷ ys) r s l e = absurd (omega arith)
decided (x ∷ xs) [] r s l e = absurd (omega arith)
decided (x ∷ xs) (y ∷ ys) r s l e =
    cases (compare x y)
    (λ q. simp q)
    (λ q. simp q (decided xs ys r s (omega arith) (simp q at e)))
    (λ q. let z : ◌≡◌ {A = Ordering} Prim.Native.Nat.Ordering.gt Prim.Native.Nat.Ordering.lt = simp q at e in absurd (let w : ◌≡◌ {A = ℕ} 0 1 = cc in omega arith))

-- the number in the w bytes at k
abbrev pub word : (a : List ℕ) (k w : ℕ) → ℕ
word a k w = from_be (take w (drop k a))

-- a word that lies in a string
module _ (a : List ℕ) (k w : ℕ) (ha : AreBytes a) (in-a : k + w ≤ length a) where
  -- it has w bytes
  word-length : length (take w (drop k a)) ≡ w
  word-length = length-take-le w (drop k a) (rw (length-drop k a) (omega arith))

  -- which are bytes
  word_bytes : AreBytes (take w (drop k a))
  word_bytes = bytes_take w (drop k a) (bytes_drop k a ha)

  -- and is below the power of its width
  pub word_below : word a k w < 256 ^ w
  word_below = rw word-length at (be-below (take w (drop k a)) word_bytes)

-- strings that agree on their first k bytes, by the word of w that follows
module _ (a b : List ℕ) (k w : ℕ) (ha : AreBytes a) (hb : AreBytes b) (same : take k a ≡ take k b) (in-a : k + w ≤ length a) (in_b : k + w ≤ length b) where
  -- the words have one length
  lengths : length (take w (drop k a)) ≡ length (take w (drop k b))
  lengths = word-length a k w ha in-a ∙ sym (word-length b k w hb in_b)

  -- the string with the smaller word is first
  pub word_lt : word a k w < word b k w → by_bytes a b ≡ Prim.Native.Nat.Ordering.lt
  word_lt h =
      let one : by_bytes a b ≡ by_bytes (take k b ++ drop k a) (take k b ++ drop k b) =
      ap₂ by_bytes (sym (take-append-drop k a) ∙ ap (λ (l : List ℕ). l ++ drop k a) same) (sym (take-append-drop k b)) in
      let two : by_bytes (drop k a) (drop k b) ≡ Prim.Native.Nat.Ordering.lt =
      ap₂ by_bytes (sym (take-append-drop w (drop k a))) (sym (take-append-drop w (drop k b)))
      ∙ decided (take w (drop k a)) (take w (drop k b)) (drop w (drop k a)) (drop w (drop k b)) lengths
      (be-lt (take w (drop k a)) (take w (drop k b)) (word_bytes a k w ha in-a) (word_bytes b k w hb in_b) lengths h) in
      one ∙ bytes-skip (take k b) (drop k a) (drop k b) ∙ two

  -- equal words have equal bytes
  pub word_same : word a k w ≡ word b k w → take w (drop k a) ≡ take w (drop k b)
  word_same = be-same (take w (drop k a)) (take w (drop k b)) (word_bytes a k w ha in-a) (word_bytes b k w hb in_b) lengths
