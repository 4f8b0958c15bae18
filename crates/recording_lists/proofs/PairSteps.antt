-- Pairs, one by one, in the bytes that the store takes. Assumes nothing.
use Prim.Native.Nat.{ℕ, suc, ◌+◌, ◌*◌, ◌-◌, min, ◌≤◌, ◌<◌}
use mathlib.Core.Path.{◌≡◌, refl, sym, ap, ap₂, ◌∙◌}
use mathlib.Core.List.{[], ◌∷◌, ◌++◌, append_assoc, append-nil}
use native.Mathlib.Omega.{arith}
use lib.Dec.{ltb, eqb}
use lib.ListN.{length, take, drop, get_or, set, length-append, length-take, take-append-drop}
use lib.Seq.{take_at, drop_at, set_split, take-take, take-append-le, length-take-le}
use Rattle.machine.specs.Names.{Bytes}
use Rattle.recording.specs.Read.{Read, got, no, and_then, map_read, hex_pair, hex_on, read_string}
use Rattle.recording.proofs.Readers.{by-test, no-got, got-value, got-rest}
use Rattle.recording_read.proofs.Places.{past-at, past-not}
use Rattle.recording_lists.specs.Packed.{counted, cut, string_after}

-- What was read before a function was applied ---------------------------------------------------------------------------

module _ {X Y : Type 0} (f : X → Y) where
  pub record MappedRead (r : Read X) (y : Y) (rest : Bytes) : Type 0 where
    pub value : X
    pub here : got value rest ≡ r
    pub so : y ≡ f value

  pub unmapped : (r : Read X) (y : Y) (rest : Bytes) → got y rest ≡ and_then r (λ x l. got (f x) l) → MappedRead r y rest
  unmapped (got x l) y rest e = record { value = x; here = ap (got x) (got-rest e); so = got-value e }
  unmapped no y rest e = no-got (sym e)

  pub unmapped-no : (r : Read X) → no ≡ and_then r (λ x l. got (f x) l) → no ≡ r
  unmapped-no (got x l) e = no-got e
  unmapped-no no e = refl

-- Digit pairs after other bytes ----------------------------------------------------------------------------------------

hex-before : (bs cs l : Bytes) → hex_on (bs ++ cs) l ≡ and_then (hex_on cs l) (λ xs m. got (bs ++ xs) m)
unfolding hex_on
hex-before bs cs [] = refl
hex-before bs cs (h ∷ []) = by-test (eqb h 34) (λ t. rw t) (λ t. rw t)
hex-before bs cs (h ∷ (l ∷ r)) =
    by-test (eqb h 34) (λ t. rw t)
    (λ t. by-test (ltb (hex_pair h l) 256)
    (λ u. rw (t, u) (ap (λ (m : Bytes). hex_on m r) (append_assoc bs cs (hex_pair h l ∷ [])) ∙ hex-before bs (cs ++ hex_pair h l ∷ []) r))
    (λ u. rw (t, u)))

pub hex-after : (bs l : Bytes) → hex_on bs l ≡ map_read (λ xs. bs ++ xs) (hex_on []) l
hex-after bs l = ap (λ (m : Bytes). hex_on m l) (sym (append-nil bs)) ∙ hex-before bs [] l

-- The byte of length before them ---------------------------------------------------------------------------------------

module _ (l out xs : Bytes) (n len : ℕ) (room : n + 1 ≤ length out) (fits : len ≤ length l) (e : take len l ≡ take (n + 1) out ++ xs) where
  pub string-length : len ≡ n + 1 + length xs
  string-length = omega (arith, ap length e, length-take-le len l fits, length-append (take (n + 1) out) xs, length-take-le (n + 1) out room)

  after : l ≡ take (n + 1) out ++ (xs ++ drop len l)
  after = sym (take-append-drop len l) ∙ ap (λ (m : Bytes). m ++ drop len l) e ∙ append_assoc (take (n + 1) out) xs (drop len l)

  pub store-counted : (j : ℕ) → j ≡ min (length xs) 255 → take (n + 1 + j) (set l n j) ≡ take n out ++ counted xs
  unfolding counted
  store-counted j is =
      let k : length (take (n + 1) out) ≡ n + 1 = length-take-le (n + 1) out room in
      let rest : Bytes = drop len l in
      let a : take n l ≡ take n out = ap (take n) after ∙ take-append-le n (take (n + 1) out) (xs ++ rest) (omega arith) ∙ take-take n (n + 1) out (omega arith) in
      let b : drop (suc n) l ≡ cut xs ++ (drop 255 xs ++ rest) =
      ap (drop (suc n)) after ∙ drop_at (take (n + 1) out) (xs ++ rest) (suc n) (omega arith)
      ∙ ap (λ (m : Bytes). m ++ rest) (sym (take-append-drop 255 xs)) ∙ append_assoc (cut xs) (drop 255 xs) rest in
      let j' : j ≡ length (cut xs) = omega (arith, length-take 255 xs) in
      ap (take (n + 1 + j)) (
      set_split l n j (omega (arith, string-length))
      ∙ ap₂ (λ (x y : Bytes). x ++ j ∷ y) a b
      ∙ sym (append_assoc (take n out) (j ∷ cut xs) (drop 255 xs ++ rest)))
      ∙ take_at (take n out ++ j ∷ cut xs) (drop 255 xs ++ rest) (n + 1 + j)
      (omega (arith, length-append (take n out) (j ∷ cut xs), length-take-le n out (omega arith)))
      ∙ ap (λ (k : ℕ). take n out ++ k ∷ cut xs) j'

-- One counted string ---------------------------------------------------------------------------------------------------

module _ (s out : Bytes) (at n : ℕ) where
  pub no-quote : (at < length s → get_or s at 0 ≡ 34 → ⊥) → no ≡ string_after (take n out) (drop at s)
  unfolding read_string
  no-quote other = ap (λ (r : Read Bytes). and_then r (λ xs m. got (take n out ++ counted xs) m)) (sym (past-not (hex_on []) s at 34 other))

  module _ (here : at < length s) (quote : get_or s at 0 ≡ 34) where
    pub string-at : hex_on [] (drop (at + 1) s) ≡ read_string (drop at s)
    unfolding read_string
    string-at = sym (past-at (hex_on []) s at 34 here quote)

    pub no-string : no ≡ hex_on (take (n + 1) out) (drop (at + 1) s) → no ≡ string_after (take n out) (drop at s)
    no-string e =
        let d = unmapped-no (λ xs. take (n + 1) out ++ xs) (hex_on [] (drop (at + 1) s)) (e ∙ hex-after (take (n + 1) out) (drop (at + 1) s)) in
        ap (λ (r : Read Bytes). and_then r (λ xs m. got (take n out ++ counted xs) m)) (d ∙ string-at)

    module _ (l : Bytes) (len next : ℕ) (room : n + 1 ≤ length out) (fits : len ≤ length l) (e : got (take len l) (drop next s) ≡ hex_on (take (n + 1) out) (drop (at + 1) s)) where
      pub read : MappedRead (λ xs. take (n + 1) out ++ xs) (hex_on [] (drop (at + 1) s)) (take len l) (drop next s)
      read = unmapped (λ xs. take (n + 1) out ++ xs) (hex_on [] (drop (at + 1) s)) (take len l) (drop next s) (e ∙ hex-after (take (n + 1) out) (drop (at + 1) s))

      pub read_length : len ≡ n + 1 + length read.value
      read_length = string-length l out read.value n len room fits read.so

      pub a-string : (j : ℕ) → j ≡ min (len - n - 1) 255 → got (take (n + 1 + j) (set l n j)) (drop next s) ≡ string_after (take n out) (drop at s)
      a-string j is =
          ap (λ (m : Bytes). got m (drop next s)) (store-counted l out read.value n len room fits read.so j (omega (arith, read_length)))
          ∙ ap (λ (r : Read Bytes). and_then r (λ xs m. got (take n out ++ counted xs) m)) (read.here ∙ string-at)

-- its room
pub no_longer : (n len x j : ℕ) → len ≡ n + 1 + x → j ≡ min (len - n - 1) 255 → n + 1 + j ≤ len
no_longer n len x j e is = omega arith

pub room-left : (n len j left at all : ℕ) → at < all → n + 1 + j ≤ len → 2 * len + left ≤ 2 * (n + 1) + (all - (at + 1)) - 1 → 2 * (n + 1 + j) + left ≤ 2 * n + (all - at)
room-left n len j left at all h f r = omega arith
