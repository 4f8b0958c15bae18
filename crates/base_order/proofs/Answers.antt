-- What an answer of `compare`, and numbers that tell, say of the strings. Assumes nothing.
use Prim.Native.Nat.{ℕ, min, compare, Ordering}
use Rattle.std.specs.Ordering.{nat_cmp}
use mathlib.Core.Path.{◌≡◌, refl, sym, ap, ◌∙◌}
use mathlib.Core.Bool.{true, false}
use mathlib.Core.List.{List}
use native.Mathlib.Omega.{arith}
use borrow.Author.Tests.{eq-eqb, ne_eqb, lt-ltb, le-ltb}
use lib.Dec.{eqb, ltb}
use lib.ListN.{length, take}
use lib.Seq.{take_all}
use Rattle.base_order.specs.Order.{by_bytes, is_below, same}
use Rattle.std.specs.declared.cmp.Ordering.TheVariants.{Less, Equal, Greater}
use Rattle.base_order.specs.Compared.{Tells, order_of}
use Rattle.base_order.proofs.OrderLaws.{cases, alike, below, above, same_self}
use Rattle.base_order.proofs.Strings.{both_end, first_ends, second-ends}

pub answer-less : (o : Ordering) → order_of o ≡ Less → o ≡ Ordering.lt
answer-less Ordering.lt q = refl
answer-less Ordering.eq q = cc
answer-less Ordering.gt q = cc

pub answer-equal : (o : Ordering) → order_of o ≡ Equal → o ≡ Ordering.eq
answer-equal Ordering.lt q = cc
answer-equal Ordering.eq q = refl
answer-equal Ordering.gt q = cc

pub answer-greater : (o : Ordering) → order_of o ≡ Greater → o ≡ Ordering.gt
answer-greater Ordering.lt q = cc
answer-greater Ordering.eq q = cc
answer-greater Ordering.gt q = refl

-- what an answer tells of the test "before"
pub below_less : (a b : List ℕ) → Less ≡ order_of (by_bytes a b) → true ≡ is_below a b
below_less a b q = rw (answer-less (by_bytes a b) (sym q))

pub below-greater : (a b : List ℕ) → Greater ≡ order_of (by_bytes a b) → false ≡ is_below a b
below-greater a b q = rw (answer-greater (by_bytes a b) (sym q))

-- where one begins the other, their lengths tell
pub lengths-tell : (a b : List ℕ) (n : ℕ) → n ≡ min (length a) (length b) → take n a ≡ take n b → nat_cmp (length a) (length b) ≡ order_of (by_bytes a b)
lengths-tell a b n m s =
    cases (compare (length a) (length b))
    (λ q. let l = below _ _ q in rw (lt-ltb (length a) (length b) l) (first_ends a b n s (omega arith) (omega arith)))
    (λ q. let l = alike _ _ q in rw (le-ltb (length a) (length b) (omega arith), eq-eqb (length a) (length b) l) (both_end a b n s (omega arith) (omega arith)))
    (λ q. let l = above _ _ q in rw (le-ltb (length a) (length b) (omega arith), ne_eqb (length a) (length b) (λ e. omega arith)) (second-ends a b n s (omega arith) (omega arith)))

-- where one begins the other, the shorter is before
pub below_length : (a b : List ℕ) (n : ℕ) → n ≡ min (length a) (length b) → take n a ≡ take n b → ltb (length a) (length b) ≡ is_below a b
below_length a b n m s =
    cases (compare (length a) (length b))
    (λ q. let l = below _ _ q in rw (lt-ltb (length a) (length b) l) (below_less a b (first_ends a b n s (omega arith) (omega arith))))
    (λ q. let l = alike _ _ q in rw (le-ltb (length a) (length b) (omega arith)) (not-below (both_end a b n s (omega arith) (omega arith))))
    (λ q. let l = above _ _ q in rw (le-ltb (length a) (length b) (omega arith)) (below-greater a b (second-ends a b n s (omega arith) (omega arith))))
  where
    not-below : Equal ≡ order_of (by_bytes a b) → false ≡ is_below a b
    not-below q = rw (answer-equal (by_bytes a b) (sym q))

-- strings of one length are the same where the numbers that tell are
pub same-told : (a b : List ℕ) (n x y : ℕ) → Tells a b n x y → n ≡ length a → n ≡ length b → eqb x y ≡ same a b
same-told a b n x y t la lb =
    cases (compare x y)
    (λ q. let l = below x y q in rw (ne_eqb x y (λ e. omega arith), answer-less (by_bytes a b) (sym (t.less l))))
    (λ q. let e = alike x y q in rw (eq-eqb x y e) (sym (ap (same a) (sym (whole e)) ∙ same_self a)))
    (λ q. let l = above x y q in rw (ne_eqb x y (λ e. omega arith), answer-greater (by_bytes a b) (sym (t.greater l))))
  where
    whole : x ≡ y → a ≡ b
    whole e = sym (take_all n a (omega arith)) ∙ t.same e ∙ take_all n b (omega arith)
