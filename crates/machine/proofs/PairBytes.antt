-- Bytes read as pairs, one pair at a time, and pairs written as bytes: they are read back, and how long they are.
-- Assumes nothing.
use Prim.Native.Nat.{ℕ, zero, suc, ◌+◌, ◌-◌, ◌*◌, ◌≤◌, ◌<◌}
use mathlib.Core.Path.{◌≡◌, refl, sym, ap, ap₂, ◌∙◌}
use mathlib.Core.Bool.{true, false, cond}
use mathlib.Core.List.{List, [], ◌∷◌, ◌++◌, append_assoc}
use native.Mathlib.Omega.{arith}
use borrow.Author.Tests.{ltb-true, leb-true, lt-ltb, le-leb}
use lib.Dec.{ltb, leb}
use lib.ListN.{length, take, drop, get_or, length-append, length-drop}
use lib.Seq.{take_at, drop_at, get_or_at, length-take-le, drop-drop}
use Rattle.machine.specs.Map.{Map}
use Rattle.machine.specs.Names.{Bytes}
use Rattle.machine.specs.Pairs.{Pair, pairs_held, pair_record, encode_pairs, front_middle, front_size, front_key, front_value, front_fits, front_pair, bad_pair, read_pairs, pair_list}
use Rattle.machine.proofs.Options.{both}

-- Read ---------------------------------------------------------------------------------------------------------------------

-- more than enough is enough
more-pairs : (n m : ℕ) (bs : Bytes) → length bs ≤ n → length bs ≤ m → read_pairs n bs ≡ read_pairs m bs
unfolding read_pairs front_size
more-pairs zero zero bs h k = refl
more-pairs zero (suc m) [] h k = refl
more-pairs zero (suc m) (b ∷ bs) h k = absurd (omega arith)
more-pairs (suc n) zero [] h k = refl
more-pairs (suc n) zero (b ∷ bs) h k = absurd (omega arith)
more-pairs (suc n) (suc m) [] h k = refl
more-pairs (suc n) (suc m) (b ∷ bs) h k =
    let s = front_size (b ∷ bs) in
    let l : length (drop s (b ∷ bs)) ≡ length (b ∷ bs) - s = length-drop s (b ∷ bs) in
    ap (λ (r : List Pair). cond (front_fits (b ∷ bs)) (front_pair (b ∷ bs) ∷ r) (bad_pair ∷ []))
    (more-pairs n m (drop s (b ∷ bs)) (omega arith) (omega arith))

pub no_pairs : (bs : Bytes) → length bs ≤ 0 → pair_list bs ≡ []
unfolding pair_list read_pairs
no_pairs [] h = refl
no_pairs (b ∷ bs) h = absurd (omega arith)

pub cut_off : (bs : Bytes) → 0 < length bs → front_fits bs ≡ false → pair_list bs ≡ bad_pair ∷ []
unfolding pair_list read_pairs
cut_off [] h e = absurd (omega arith)
cut_off (b ∷ bs) h e = rw e

-- the first pair, and those that the bytes after it stand for
pub front-pair : (bs : Bytes) → 0 < length bs → front_fits bs ≡ true → pair_list bs ≡ front_pair bs ∷ pair_list (drop (front_size bs) bs)
unfolding pair_list read_pairs front_size
front-pair [] h e = absurd (omega arith)
front-pair (b ∷ bs) h e =
    let s = front_size (b ∷ bs) in
    let l : length (drop s (b ∷ bs)) ≡ length (b ∷ bs) - s = length-drop s (b ∷ bs) in
    rw e (ap (λ (r : List Pair). front_pair (b ∷ bs) ∷ r) (more-pairs (length bs) (length (drop s (b ∷ bs))) (drop s (b ∷ bs)) (omega arith) (omega arith)))

-- a pair that is not cut off: its value's length and its end stand inside, and it is two bytes longer than key and value
module _ (bs : Bytes) (fit : front_fits bs ≡ true) where
  inside : (front_middle bs < length bs) × (front_size bs ≤ length bs)
  unfolding front_fits
  inside = let w = both (ltb (front_middle bs) (length bs)) (leb (front_size bs) (length bs)) fit in (ltb-true _ _ w.0, leb-true _ _ w.1)

  pub middle-inside : front_middle bs < length bs
  middle-inside = inside.0

  pub front-inside : front_size bs ≤ length bs
  front-inside = inside.1

  pub front-size : front_size bs ≡ length (front_key bs) + length (front_value bs) + 2
  unfolding front_size front_key front_value
  front-size =
      let m = front_middle bs in
      let a = middle-inside in
      let z : m + 1 + get_or bs m 0 ≤ length bs = front-inside in
      let k = length-take-le (get_or bs 0 0) (drop 1 bs) (omega (arith, length-drop 1 bs)) in
      let v = length-take-le (get_or bs m 0) (drop (m + 1) bs) (omega (arith, length-drop (m + 1) bs)) in
      omega arith

-- Written ------------------------------------------------------------------------------------------------------------------

-- bytes that begin with a pair
module _ (k v rest : Bytes) where
  abbrev whole : Bytes
  whole = length k ∷ (k ++ (length v ∷ (v ++ rest)))

  middle-is : get_or whole (1 + length k) 0 ≡ length v
  middle-is = get_or_at (length k ∷ k) (length v) (v ++ rest) 0 (1 + length k) (omega arith)

  whole_length : length whole ≡ 2 + length k + length v + length rest
  whole_length = omega (arith, length-append k (length v ∷ (v ++ rest)), length-append v rest)

  size_is : front_size whole ≡ 2 + length k + length v
  unfolding front_size
  size_is = omega (arith, middle-is)

  fits-is : front_fits whole ≡ true
  unfolding front_fits
  fits-is =
      let a : ltb (front_middle whole) (length whole) ≡ true = lt-ltb (front_middle whole) (length whole) (omega (arith, whole_length)) in
      let b : leb (front_size whole) (length whole) ≡ true = le-leb (front_size whole) (length whole) (omega (arith, whole_length, size_is)) in
      rw (a, b)

  key-is : front_key whole ≡ k
  unfolding front_key
  key-is = take_at k (length v ∷ (v ++ rest)) (length k) refl

  after-middle : (n : ℕ) → n ≡ 2 + length k → drop n whole ≡ v ++ rest
  after-middle n e =
      let s : whole ≡ (length k ∷ (k ++ (length v ∷ []))) ++ (v ++ rest) = ap (λ (t : Bytes). length k ∷ t) (sym (append_assoc k (length v ∷ []) (v ++ rest))) in
      ap (drop n) s ∙ drop_at (length k ∷ (k ++ (length v ∷ []))) (v ++ rest) n (omega (arith, length-append k (length v ∷ [])))

  value-is : front_value whole ≡ v
  unfolding front_value
  value-is = ap₂ (λ (n : ℕ) (t : Bytes). take n t) middle-is (after-middle (front_middle whole + 1) (omega arith)) ∙ take_at v rest (length v) refl

  rest-is : drop (front_size whole) whole ≡ rest
  rest-is =
      ap (λ (n : ℕ). drop n whole) size_is
      ∙ sym (drop-drop (length v) (2 + length k) whole)
      ∙ ap (drop (length v)) (after-middle (2 + length k) refl)
      ∙ drop_at v rest (length v) refl

  whole_pair : pair_list whole ≡ (k, v) ∷ pair_list rest
  whole_pair = front-pair whole (omega (arith, whole_length)) fits-is ∙ (λ i. (key-is i, value-is i) ∷ pair_list (rest-is i))

-- the pairs that GET and HEAD write are those that PUT would read
pub pairs-decode : (m : Map Bytes Bytes) → pair_list (encode_pairs m) ≡ m
unfolding encode_pairs
pairs-decode [] = no_pairs [] (omega arith)
pairs-decode (e ∷ m) =
    let s : pair_record e.0 e.1 ++ encode_pairs m ≡ whole e.0 e.1 (encode_pairs m) =
    ap (λ (t : Bytes). length e.0 ∷ t) (append_assoc e.0 (length e.1 ∷ e.1) (encode_pairs m)) in
    ap pair_list s ∙ whole_pair e.0 e.1 (encode_pairs m) ∙ ap (λ (t : List Pair). e ∷ t) (pairs-decode m)

pub length-pair : (k v : Bytes) → length (pair_record k v) ≡ 2 + length k + length v
length-pair k v = omega (arith, length-append k (length v ∷ v))

pub length-encode : (m : Map Bytes Bytes) → length (encode_pairs m) ≡ 2 * length m + pairs_held m
unfolding encode_pairs
length-encode [] = refl
length-encode (e ∷ m) = omega (arith, length-append (pair_record e.0 e.1) (encode_pairs m), length-pair e.0 e.1, length-encode m)
