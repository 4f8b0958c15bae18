-- The laws of bytes at a place after bytes are written over another: what a table of fields stands on. Assumes nothing.
use mathlib.Core.Path.{◌≡◌, sym, ap, ◌∙◌}
use mathlib.Core.List.{List, ◌++◌, append_assoc}
use Prim.Native.Nat.{ℕ, ◌+◌, ◌-◌, ◌≤◌}
use native.Mathlib.Omega.{arith}
use lib.ListN.{length, take, drop, length-append, length-drop}
use lib.Seq.{take_at, drop_at, drop-drop, drop-append-add, take-add, length-take-le}
use Rattle.base_number.specs.Number.{le}
pub use Rattle.base_number.specs.Number.{replaced_at}

-- the k bytes at i, as `get_u16`, `get_u32` and `get_u64` read them
abbrev pub part : List ℕ → ℕ → ℕ → List ℕ
part b i k = take k (drop i b)

-- a part, by either order of take and drop
pub drop-take : (i n : ℕ) (l : List ℕ) → i ≤ n → i ≤ length l → drop i (take n l) ≡ take (n - i) (drop i l)
drop-take i n l le room =
    let q : n ≡ i + (n - i) = omega arith in
    ap (λ (k : ℕ). drop i (take k l)) q ∙ ap (drop i) (take-add i (n - i) l) ∙ drop_at (take i l) (take (n - i) (drop i l)) i (length-take-le i l room)

module _ (b : List ℕ) (at : ℕ) (s : List ℕ) (n : ℕ) (len : length s ≡ n) (room : at + n ≤ length b) where
  head-length : length (take at b ++ s) ≡ at + n
  head-length = omega (arith, length-append (take at b) s, length-take-le at b (omega arith))

  pub over-length : length (replaced_at b at s n) ≡ length b
  over-length = omega (arith, length-append (take at b ++ s) (drop (at + n) b), head-length, length-drop (at + n) b)

-- the same where the bytes of b are told in parts: x before the place, the n bytes there, and y after
module _ (b x old y : List ℕ) (at n : ℕ) (told : b ≡ x ++ (old ++ y)) (place : length x ≡ at) (width : length old ≡ n) where
  pub field-take : take at b ≡ x
  field-take = ap (take at) told ∙ take_at x (old ++ y) at place

  pub field-drop : drop (at + n) b ≡ y
  field-drop =
      ap (drop (at + n)) (told ∙ sym (append_assoc x old y))
      ∙ drop_at (x ++ old) y (at + n) (omega (arith, length-append x old))

  -- the field as it stands
  pub field-read : part b at n ≡ old
  field-read = ap (λ (l : List ℕ). take n (drop at l)) told ∙ ap (take n) (drop_at x (old ++ y) at place) ∙ take_at old y n width

  -- the field after `new` is written over it
  pub field-written : (b' new : List ℕ) → b' ≡ replaced_at b at new n → b' ≡ x ++ (new ++ y)
  field-written b' new e =
      e
      ∙ ap (λ (l : List ℕ). l ++ new ++ drop (at + n) b) field-take
      ∙ ap (λ (l : List ℕ). x ++ new ++ l) field-drop
      ∙ append_assoc x new y

-- fields written one after the other from the front: y after x
pub front-next : (b b₁ b₂ x y : List ℕ) (at n : ℕ) → b₁ ≡ x ++ drop at b → length x ≡ at → b₂ ≡ replaced_at b₁ at y n → b₂ ≡ (x ++ y) ++ drop (at + n) b
front-next b b₁ b₂ x y at n told place e =
    let front : take at b₁ ≡ x = ap (take at) told ∙ take_at x (drop at b) at place in
    let q : at + n ≡ length x + n = omega arith in
    let back : drop (at + n) b₁ ≡ drop (at + n) b = ap (drop (at + n)) told ∙ ap (λ (k : ℕ). drop k (x ++ drop at b)) q ∙ drop-append-add x (drop at b) n ∙ drop-drop n at b in
    e ∙ ap (λ (l : List ℕ). l ++ y ++ drop (at + n) b₁) front ∙ ap (λ (l : List ℕ). (x ++ y) ++ l) back
