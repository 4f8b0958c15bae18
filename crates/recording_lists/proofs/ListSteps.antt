-- A list of numbers, one by one. Assumes nothing.
use Prim.Native.Nat.{ℕ, zero, suc, ◌+◌, ◌-◌, ◌≤◌, ◌<◌}
use mathlib.Core.Path.{◌≡◌, sym, ap, ◌∙◌}
use mathlib.Core.List.{List, [], ◌∷◌, ◌++◌, append_assoc, append-nil}
use native.Mathlib.Omega.{arith}
use lib.ListN.{length, take, drop, get_or, length-append, length-drop}
use lib.Seq.{take_at, length-take-le}
use borrow.Author.Tests.{eq-eqb, ne_eqb}
use Rattle.base_number.specs.Number.{le, replaced_at}
use Rattle.base_number.proofs.NumberLaws.{length-le}
use Rattle.base_text.specs.Text.{decimal}
use Rattle.base_text.proofs.TextLaws.{one-or-more, length-digits-one, length-digits-more}
use Rattle.machine.specs.Names.{Bytes}
use Rattle.recording.specs.Read.{Read, got, no, Reader, and_then, map_read, items_on, read_number, first_number, inside_numbers}
use Rattle.recording.proofs.Digits.{number-only}
use Rattle.recording_lists.specs.Packed.{narrowed, packed}
use Rattle.recording_read.proofs.Places.{at_place, at-end, within_or_not}

-- A number is at least one byte ----------------------------------------------------------------------------------------

some-digit : (n : ℕ) → 1 ≤ length (decimal n)
unfolding decimal
some-digit n = one-or-more n (λ s. omega (arith, length-digits-one 19 n s)) (λ m. omega (arith, length-digits-more 19 n m))

pub advances : (s : Bytes) (at v next : ℕ) → got v (drop next s) ≡ read_number (drop at s) → length s - next < length s - at
advances s at v next e =
    let o = number-only (drop at s) v (drop next s) (sym e) in
    omega (arith, ap length o.0, length-append (decimal v) (drop next s), length-drop at s, length-drop next s, some-digit v)

-- One item at a place --------------------------------------------------------------------------------------------------

module _ {X : Type 0} (r : Reader X) (f : ℕ) (xs : List X) (s : Bytes) (i : ℕ) where
  pub no_item : (i < length s → get_or s i 0 ≡ 32 → ⊥) → items_on r (suc f) xs (drop i s) ≡ got xs (drop i s)
  no_item n = within_or_not s i (λ h. rw (at_place s i h, ne_eqb (get_or s i 0) 32 (n h))) (λ h. rw (at-end s i h))

  module _ (h : i < length s) (e : get_or s i 0 ≡ 32) where
    pub item-at : items_on r (suc f) xs (drop i s) ≡ and_then (r (drop (i + 1) s)) (λ x. items_on r f (xs ++ x ∷ []))
    item-at = rw (at_place s i h, eq-eqb (get_or s i 0) 32 e)

-- The bytes ------------------------------------------------------------------------------------------------------------

packed_more : (ns : List ℕ) (v : ℕ) → packed (ns ++ v ∷ []) ≡ packed ns ++ le 2 (narrowed v)
unfolding packed
packed_more [] v = append-nil (le 2 (narrowed v))
packed_more (n ∷ ns) v = ap (λ (m : Bytes). le 2 (narrowed n) ++ m) (packed_more ns v) ∙ sym (append_assoc (le 2 (narrowed n)) (packed ns) (le 2 (narrowed v)))

front : (b x : Bytes) (n : ℕ) → n ≤ length b → length x ≡ 2 → take (n + 2) (replaced_at b n x 2) ≡ take n b ++ x
front b x n h l = take_at (take n b ++ x) (drop (n + 2) b) (n + 2) (omega (arith, length-append (take n b) x, length-take-le n b h))

-- What is known before each space --------------------------------------------------------------------------------------

pub record SoFar (all : Read (List ℕ)) (s out : Bytes) (n i : ℕ) : Type 0 where
  pub ns : List ℕ
  pub left : ℕ
  pub enough : length s - i ≤ left
  pub room : n + (length s - i) ≤ length s
  pub bytes : take n out ≡ packed ns
  pub here : items_on read_number (suc left) ns (drop i s) ≡ all

-- the first number
module _ (s out out' : Bytes) (at v next : ℕ) (e : got v (drop next s) ≡ read_number (drop at s)) where
  pub begin : 1 ≤ at → 2 ≤ length out → out' ≡ replaced_at out 0 (le 2 (narrowed v)) 2 → SoFar (inside_numbers (drop at s)) s out' 2 next
  unfolding packed
  begin pos big w = record {
    ns = v ∷ [];
    left = length (drop next s);
    enough = omega (arith, length-drop next s);
    room = omega (arith, advances s at v next e);
    bytes = ap (take 2) w ∙ front out (le 2 (narrowed v)) 0 (omega arith) (length-le 2 (narrowed v)) ∙ sym (append-nil (le 2 (narrowed v)));
    here = ap (λ (r : Read ℕ). first_number r (drop at s)) e;
  }

-- no number
pub nothing : (s out : Bytes) (at : ℕ) → no ≡ read_number (drop at s) → got [] (drop at s) ≡ map_read packed inside_numbers (drop at s)
unfolding packed
nothing s out at e = rw (← e)

module _ (all : Read (List ℕ)) (s out : Bytes) (n i : ℕ) (so : SoFar all s out n i) where
  pub finish : (i < length s → get_or s i 0 ≡ 32 → ⊥) → got (take n out) (drop i s) ≡ and_then all (λ ns l. got (packed ns) l)
  finish other =
      ap (λ (m : Bytes). got m (drop i s)) so.bytes
      ∙ ap (λ (r : Read (List ℕ)). and_then r (λ ns l. got (packed ns) l)) (sym (no_item read_number so.left so.ns s i other) ∙ so.here)

  -- a space, and what is read after it
  module _ (h : i < length s) (space : get_or s i 0 ≡ 32) where
    pub fail : no ≡ read_number (drop (i + 1) s) → no ≡ and_then all (λ ns l. got (packed ns) l)
    fail e =
        ap (λ (r : Read (List ℕ)). and_then r (λ ns l. got (packed ns) l))
        (ap (λ (r : Read ℕ). and_then r (λ x. items_on read_number so.left (so.ns ++ x ∷ []))) e ∙ sym (item-at read_number so.left so.ns s i h space) ∙ so.here)

    module _ (v next : ℕ) (e : got v (drop next s) ≡ read_number (drop (i + 1) s)) where
      pub fits : n + 2 ≤ length s
      fits = omega (arith, advances s (i + 1) v next e, so.room)

      pub step : (out' : Bytes) → n ≤ length out → out' ≡ replaced_at out n (le 2 (narrowed v)) 2 → SoFar all s out' (n + 2) next
      step out' big w = go so.left so.enough so.here
        where
          go : (k : ℕ) → length s - i ≤ k → items_on read_number (suc k) so.ns (drop i s) ≡ all → SoFar all s out' (n + 2) next
          go zero enough here = absurd (omega arith)
          go (suc k) enough here = record {
            ns = so.ns ++ v ∷ [];
            left = k;
            enough = omega (arith, advances s (i + 1) v next e);
            room = omega (arith, advances s (i + 1) v next e, so.room);
            bytes = ap (take (n + 2)) w ∙ front out (le 2 (narrowed v)) n big (length-le 2 (narrowed v)) ∙ ap (λ (m : Bytes). m ++ le 2 (narrowed v)) so.bytes ∙ sym (packed_more so.ns v);
            here = ap (λ (r : Read ℕ). and_then r (λ x. items_on read_number (suc k) (so.ns ++ x ∷ []))) e ∙ sym (item-at read_number (suc k) so.ns s i h space) ∙ here;
          }
