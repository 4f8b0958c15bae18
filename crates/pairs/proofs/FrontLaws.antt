-- The pair that bytes begin with, in the order of the code's tests. Assumes nothing.
use Prim.Native.Nat.{ℕ, ◌+◌, ◌-◌, ◌≤◌, ◌<◌}
use mathlib.Core.Path.{◌≡◌, ap, ◌∙◌}
use mathlib.Core.Bool.{Bool, true, false, ◌&&◌}
use native.Mathlib.Omega.{arith}
use borrow.Author.Tests.{lt-ltb, le-ltb}
use lib.Dec.{leb}
use lib.ListN.{length, take, drop, get_or}
use Rattle.machine.specs.Names.{Bytes}
use Rattle.machine.specs.Pairs.{key_ok, value_ok, pair_ok, front_middle, front_size, front_key, front_value, front_fits, front_pair}
use Rattle.machine.proofs.PairBytes.{middle-inside}

module _ (bs : Bytes) where
  -- it is not there, its value's length is not there, or it is all there or cut off
  pub fits-none : length bs < 1 → false ≡ front_fits bs
  unfolding front_fits
  fits-none h = rw (le-ltb (front_middle bs) (length bs) (omega arith))

  pub fits-short : (m : ℕ) → m ≡ front_middle bs → length bs ≤ m → false ≡ front_fits bs
  unfolding front_fits
  fits-short m e h = rw (le-ltb (front_middle bs) (length bs) (omega arith))

  pub size_is : (m v : ℕ) → m ≡ front_middle bs → v ≡ get_or bs m 0 → m + 1 + v ≡ front_size bs
  unfolding front_size
  size_is m v e r = let w : v ≡ get_or bs (front_middle bs) 0 = r ∙ ap (λ (k : ℕ). get_or bs k 0) e in omega arith

  pub fits-value : (m v : ℕ) → m ≡ front_middle bs → m < length bs → v ≡ get_or bs m 0 → leb (m + 1 + v) (length bs) ≡ front_fits bs
  unfolding front_fits
  fits-value m v e h r = rw (lt-ltb (front_middle bs) (length bs) (omega arith)) (ap (λ (k : ℕ). leb k (length bs)) (size_is m v e r))

  pub there : front_fits bs ≡ true → 0 < length bs
  there fit = let m = middle-inside bs fit in omega arith

  pub key-is : (m : ℕ) → m ≡ front_middle bs → take (m - 1) (drop 1 bs) ≡ front_key bs
  unfolding front_key
  key-is m e = let q : m - 1 ≡ get_or bs 0 0 = omega arith in ap (λ (n : ℕ). take n (drop 1 bs)) q

  pub from-within : front_middle bs + 1 ≤ front_size bs
  unfolding front_size
  from-within = omega arith

  pub value-is : (m s : ℕ) → m ≡ front_middle bs → s ≡ front_size bs → take (s - (m + 1)) (drop (m + 1) bs) ≡ front_value bs
  unfolding front_value front_size
  value-is m s e r =
      let q : s - (m + 1) ≡ get_or bs (front_middle bs) 0 = omega arith in
      ap (λ (n : ℕ). take n (drop (m + 1) bs)) q ∙ ap (λ (n : ℕ). take (get_or bs (front_middle bs) 0) (drop (n + 1) bs)) e

  -- it is there and keeps the rule
  pub ok-cut : front_fits bs ≡ false → false ≡ (front_fits bs && pair_ok (front_pair bs))
  ok-cut f = rw f

  pub ok-key : front_fits bs ≡ true → key_ok (front_key bs) ≡ false → false ≡ (front_fits bs && pair_ok (front_pair bs))
  unfolding pair_ok
  ok-key f k = rw (f, k)

  pub ok-value : (r : Bool) → front_fits bs ≡ true → key_ok (front_key bs) ≡ true → r ≡ value_ok (front_value bs) → r ≡ (front_fits bs && pair_ok (front_pair bs))
  unfolding pair_ok
  ok-value r f k v = rw (f, k) v
