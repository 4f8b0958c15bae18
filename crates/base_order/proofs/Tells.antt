-- Two numbers that compare as two byte strings do. Assumes nothing.
use Prim.Native.Nat.{Ordering}
use Prim.Native.Nat.{ℕ, ◌+◌, ◌-◌, ◌*◌, ◌≤◌, ◌<◌, compare}
use mathlib.Core.Path.{◌≡◌, refl, sym, ap}
use mathlib.Core.Logic.{⊎_elim}
use mathlib.Core.List.{List}
use native.Mathlib.Nat.{eq-or-lt_of_le}
use native.Mathlib.Omega.{arith}
use lib.ListN.{length, take, get_or}
use Rattle.base_number.specs.Number.{AreBytes}
use Rattle.base_order.specs.Order.{by_bytes}
use Rattle.base_order.specs.Compared.{Common, DecidingWord, Tells, order_of}
use Rattle.base_order.proofs.OrderLaws.{cases, alike, below, above, bytes-under}
use Rattle.base_order.proofs.Strings.{same_more, same-fewer, next-less, next-greater}
use Rattle.base_order.proofs.BigLaws.{word, word_below, word_lt, word_same}

-- equal numbers tell the same
pub tells_as : {a b : List ℕ} {n x y x' y' : ℕ} → x ≡ x' → y ≡ y' → Tells a b n x' y' → Tells a b n x y
tells_as p q t = rw (p, q) t

-- numbers tell where the string with the smaller one is first, either way round
tells : (a b : List ℕ) (n x y : ℕ) → (x < y → by_bytes a b ≡ Ordering.lt) → (y < x → by_bytes b a ≡ Ordering.lt) → (x ≡ y → take n a ≡ take n b) → Tells a b n x y
tells a b n x y l g e = record {
  less = λ h. sym (ap order_of (l h));
  greater = λ h. sym (ap order_of (bytes-under b a (g h)));
  same = e;
}

-- the first four of n bytes and the last four, as one number
abbrev pub halves : (a : List ℕ) (n : ℕ) → ℕ
halves a n = 4294967296 * word a 0 4 + word a (n - 4) 4

-- the first n bytes, four to eight, by their halves
module _ (a b : List ℕ) (n : ℕ) (ha : AreBytes a) (hb : AreBytes b) (la : n ≤ length a) (lb : n ≤ length b) (long : 4 ≤ n) (short : n ≤ 8) where
  -- a last half is below what the first one is weighed with
  small-a : word a (n - 4) 4 < 4294967296
  small-a = word_below a (n - 4) 4 ha (omega arith)

  -- the same of b
  small_b : word b (n - 4) 4 < 4294967296
  small_b = word_below b (n - 4) 4 hb (omega arith)

  -- where the first halves are the same, the bytes before the last half are
  front : word a 0 4 ≡ word b 0 4 → take (n - 4) a ≡ take (n - 4) b
  front e = same-fewer a b (n - 4) 4 (omega arith) (word_same a b 0 4 ha hb refl (omega arith) (omega arith) e)

  -- the string with the smaller number is first
  halves_lt : halves a n < halves b n → by_bytes a b ≡ Ordering.lt
  halves_lt h =
      cases (compare (word a 0 4) (word b 0 4))
      (λ q. word_lt a b 0 4 ha hb refl (omega arith) (omega arith) (below (word a 0 4) (word b 0 4) q))
      (λ q. let e = alike (word a 0 4) (word b 0 4) q in
      word_lt a b (n - 4) 4 ha hb (front e) (omega arith) (omega arith) (omega arith))
      (λ q. absurd (omega (arith, small-a, small_b, above (word a 0 4) (word b 0 4) q)))

  -- equal numbers have equal bytes
  halves-same : halves a n ≡ halves b n → take n a ≡ take n b
  halves-same h =
      let e : word a 0 4 ≡ word b 0 4 = omega (arith, small-a, small_b) in
      let f : word a (n - 4) 4 ≡ word b (n - 4) 4 = omega arith in
      let end : n - 4 + 4 ≡ n = omega arith in
      rw end at (same_more a b (n - 4) 4 (front e) (word_same a b (n - 4) 4 ha hb (front e) (omega arith) (omega arith) f))

-- what `compare` reads, by the number n of bytes that both have
module _ (a b : List ℕ) (n : ℕ) (ha : AreBytes a) (hb : AreBytes b) (la : n ≤ length a) (lb : n ≤ length b) where
  -- the deciding words tell
  pub words-tell : (k : ℕ) → DecidingWord a b n k → Tells a b n (word a k 8) (word b k 8)
  words-tell k d =
      tells a b n (word a k 8) (word b k 8)
      (word_lt a b k 8 ha hb d.alike (omega arith) (omega arith))
      (word_lt b a k 8 hb ha (sym d.alike) (omega arith) (omega arith))
      (λ e. let w = word_same a b k 8 ha hb d.alike (omega arith) (omega arith) e in
      ⊎_elim (λ end. rw end at (same_more a b k 8 d.alike w)) (λ more. absurd (d.differ more w)) (eq-or-lt_of_le d.inside))

  -- four to eight bytes, by their first four and their last four
  pub halves-tell : 4 ≤ n → n ≤ 8 → Tells a b n (halves a n) (halves b n)
  halves-tell h k =
      tells a b n (halves a n) (halves b n)
      (halves_lt a b n ha hb la lb h k)
      (halves_lt b a n hb ha lb la h k)
      (halves-same a b n ha hb la lb h k)

  -- the first bytes that differ tell
  pub bytes-tell : (i : ℕ) → Common a b n i → i < n → Tells a b n (get_or a i 0) (get_or b i 0)
  bytes-tell i m h = record {
    less = next-less a b i m.alike (omega arith) (omega arith);
    greater = next-greater a b i m.alike (omega arith) (omega arith);
    same = λ e. absurd (m.differ h e);
  }

-- where no byte differs, 0 and 0 tell
pub none_differ : (a b : List ℕ) (n i : ℕ) → Common a b n i → n ≤ i → Tells a b n 0 0
none_differ a b n i m h = record {
  less = λ z. absurd (omega arith);
  greater = λ z. absurd (omega arith);
  same = λ e. same-fewer a b n i h m.alike;
}
