-- Byte strings that agree on their first r bytes: how they compare is told by what follows. Assumes nothing.
use mathlib.Core.Path.{◌≡◌, refl, sym, ap, ap₂, ◌∙◌}
use mathlib.Core.Bool.{true, false}
use mathlib.Core.List.{List, [], ◌∷◌, ◌++◌}
use Prim.Native.Nat.{ℕ, suc, ◌+◌, ◌≤◌, ◌<◌}
use native.Mathlib.Numerals.{add-one}
use native.Mathlib.Omega.{arith}
use lib.ListN.{length, take, drop, get_or, length-drop, take-append-drop, drop_of_length-le}
use lib.Seq.{take-suc, take-add, take-take, drop-cons, length-take-le}
use Rattle.base_number.specs.Number.{from_le, AreBytes}
use Rattle.base_number.proofs.NumberLaws.{bytes_take, bytes_drop, from_le-same}
use Rattle.base_order.specs.Order.{by_bytes, same}
use Rattle.base_order.proofs.OrderLaws.{compare-below, compare-above, bytes-skip, same_false}
use Rattle.base_order.specs.Compared.{order_of}
use Rattle.std.specs.declared.cmp.Ordering.TheVariants.{Less, Equal, Greater}

-- a byte more in common
pub same_byte : (a b : List ℕ) (i : ℕ) → i < length a → i < length b → take i a ≡ take i b → get_or a i 0 ≡ get_or b i 0 → take (i + 1) a ≡ take (i + 1) b
same_byte a b i la lb alike e = rw (add-one i, take-suc a i 0 la, take-suc b i 0 lb, alike, e)

-- k bytes more in common
pub same_more : (a b : List ℕ) (i k : ℕ) → take i a ≡ take i b → take k (drop i a) ≡ take k (drop i b) → take (i + k) a ≡ take (i + k) b
same_more a b i k alike e = take-add i k a ∙ ap₂ ◌++◌ alike e ∙ sym (take-add i k b)

-- fewer bytes in common
pub same-fewer : (a b : List ℕ) (i k : ℕ) → i ≤ k → take k a ≡ take k b → take i a ≡ take i b
same-fewer a b i k h e = sym (take-take i k a h) ∙ ap (take i) e ∙ take-take i k b h

-- k bytes more in common, read as one number
pub same_word : (a b : List ℕ) (i k : ℕ) → AreBytes a → AreBytes b → i + k ≤ length a → i + k ≤ length b → take i a ≡ take i b
    → from_le (take k (drop i a)) ≡ from_le (take k (drop i b)) → take (i + k) a ≡ take (i + k) b
same_word a b i k ha hb la lb alike e =
    let na : length (take k (drop i a)) ≡ k = length-take-le k (drop i a) (rw (length-drop i a) (omega arith)) in
    let nb : length (take k (drop i b)) ≡ k = length-take-le k (drop i b) (rw (length-drop i b) (omega arith)) in
    let w : take k (drop i a) ≡ take k (drop i b) =
    from_le-same (take k (drop i a)) (take k (drop i b)) (bytes_take k (drop i a) (bytes_drop i a ha)) (bytes_take k (drop i b) (bytes_drop i b hb)) (na ∙ sym nb) e in
    same_more a b i k alike w

module _ (a b : List ℕ) (r : ℕ) (alike : take r a ≡ take r b) where
  from : (x y : List ℕ) → drop r a ≡ x → drop r b ≡ y → by_bytes a b ≡ by_bytes x y
  from x y p q =
      let wa : a ≡ take r b ++ x = cc (take-append-drop r a) in
      let wb : b ≡ take r b ++ y = cc (take-append-drop r b) in
      ap₂ by_bytes wa wb ∙ bytes-skip (take r b) x y

  -- both end
  pub both_end : length a ≤ r → length b ≤ r → Equal ≡ order_of (by_bytes a b)
  both_end la lb = sym (ap order_of (from [] [] (drop_of_length-le a la) (drop_of_length-le b lb)))

  -- a ends
  pub first_ends : length a ≤ r → r < length b → Less ≡ order_of (by_bytes a b)
  first_ends la lb = sym (ap order_of (from [] (get_or b r 0 ∷ drop (suc r) b) (drop_of_length-le a la) (drop-cons b r 0 lb)))

  -- b ends
  pub second-ends : r < length a → length b ≤ r → Greater ≡ order_of (by_bytes a b)
  second-ends la lb = sym (ap order_of (from (get_or a r 0 ∷ drop (suc r) a) [] (drop-cons a r 0 la) (drop_of_length-le b lb)))

  module _ (la : r < length a) (lb : r < length b) where
    next : by_bytes a b ≡ by_bytes (get_or a r 0 ∷ drop (suc r) a) (get_or b r 0 ∷ drop (suc r) b)
    next = from (get_or a r 0 ∷ drop (suc r) a) (get_or b r 0 ∷ drop (suc r) b) (drop-cons a r 0 la) (drop-cons b r 0 lb)

    pub next-less : get_or a r 0 < get_or b r 0 → Less ≡ order_of (by_bytes a b)
    next-less h = sym (ap order_of next ∙ rw (compare-below (get_or a r 0) (get_or b r 0) h))

    pub next-greater : get_or b r 0 < get_or a r 0 → Greater ≡ order_of (by_bytes a b)
    next-greater h = sym (ap order_of next ∙ rw (compare-above (get_or a r 0) (get_or b r 0) h))

-- two empty lists
pub both-empty : (a b : List ℕ) → length a ≡ 0 → length b ≡ 0 → true ≡ same a b
both-empty [] [] p q = refl
both-empty [] (y ∷ b) p q = absurd (omega arith)
both-empty (x ∷ a) b p q = absurd (omega arith)

-- lists that differ in length
pub other_length : (a b : List ℕ) → (length a ≡ length b → ⊥) → false ≡ same a b
other_length a b d = sym (same_false a b (λ e. d (ap length e)))
