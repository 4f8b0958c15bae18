-- The steps of a rotation: what is left to rotate after each gives what was to be given before it. Assumes nothing.
use mathlib.Core.Path.{◌≡◌, refl, sym, ap, ◌∙◌}
use mathlib.Core.List.{List, [], ◌∷◌, ◌++◌, append_assoc}
use Prim.Native.Nat.{ℕ, ◌+◌, ◌-◌, ◌≤◌}
use native.Mathlib.Omega.{arith}
use lib.ListN.{length, take, drop, length-append, length-drop, take-append-drop}
use lib.Seq.{paste, drop-drop, length-take-le}
use Rattle.base_number.proofs.Fields.{field-written}
use Rattle.base_buffer.specs.Buffer.{rotated}
use Rattle.base_buffer.proofs.Parts.{rotated-parts}
use Rattle.base_buffer.proofs.Swapping.{swapped, swap-parts}

drop-part : (b : List ℕ) (i n : ℕ) → drop i b ≡ take n (drop i b) ++ drop (i + n) b
drop-part b i n = sym (take-append-drop n (drop i b)) ∙ ap (λ (l : List ℕ). take n (drop i b) ++ l) (drop-drop n i b)

empty : (l : List ℕ) → length l ≤ 0 → l ≡ []
empty [] h = refl
empty (x ∷ l) h = let z : ◌≡◌ {A = ℕ} 0 1 = omega arith in absurd (omega arith)

-- b in four: what stands before, the blocks x and y, and what stands after
module _ (b : List ℕ) (at l r : ℕ) (room : at + l + r ≤ length b) where
  abbrev pre : List ℕ
  pre = take at b

  abbrev x : List ℕ
  x = take l (drop at b)

  abbrev y : List ℕ
  y = take r (drop (at + l) b)

  abbrev z : List ℕ
  z = drop (at + l + r) b

  told : b ≡ pre ++ (x ++ (y ++ z))
  told =
      sym (take-append-drop at b)
      ∙ ap (λ (u : List ℕ). pre ++ u) (drop-part b at l ∙ ap (λ (u : List ℕ). x ++ u) (drop-part b (at + l) r))

  length-pre : length pre ≡ at
  length-pre = length-take-le at b (omega arith)

  length-x : length x ≡ l
  length-x = length-take-le l (drop at b) (rw (length-drop at b) (omega arith))

  length-y : length y ≡ r
  length-y = length-take-le r (drop (at + l) b) (rw (length-drop (at + l) b) (omega arith))

  -- the places of the blocks after the rotation
  abbrev u : List ℕ
  u = take r (x ++ y)

  abbrev v : List ℕ
  v = drop r (x ++ y)

  length_both : length (x ++ y) ≡ l + r
  length_both = omega (arith, length-append x y, length-x, length-y)

  length-u : length u ≡ r
  length-u = length-take-le r (x ++ y) (omega (arith, length_both))

  length-v : length v ≡ l
  length-v = omega (arith, length-drop r (x ++ y), length_both)

  places : b ≡ pre ++ (u ++ (v ++ z))
  places =
      told
      ∙ ap (λ (s : List ℕ). pre ++ s) (sym (append_assoc x y z) ∙ ap (λ (s : List ℕ). s ++ z) (sym (take-append-drop r (x ++ y))) ∙ append_assoc u v z)

  length-through : (s : List ℕ) → length s ≡ r → length (pre ++ s) ≡ at + r
  length-through s e = omega (arith, length-append pre s, length-pre)

  module _ (b₁ b₂ h : List ℕ) where
    -- x is held, y moved to its place, and x written after it
    pub small-left : h ≡ x → b₁ ≡ paste b at (drop (at + l) b) r → b₂ ≡ take (at + r) b₁ ++ h ++ drop (at + r + length h) b₁ → b₂ ≡ rotated b at l r
    small-left eh one two =
        let e₁ : b₁ ≡ pre ++ (y ++ (v ++ z)) = field-written b pre u (v ++ z) at r places length-pre length-u b₁ y one in
        let lh : length v ≡ length h = length-v ∙ sym (ap length eh ∙ length-x) in
        field-written b₁ (pre ++ y) v z (at + r) (length h) (e₁ ∙ sym (append_assoc pre y (v ++ z))) (length-through y length-y) lh b₂ h two
        ∙ append_assoc pre y (h ++ z)
        ∙ ap (λ (s : List ℕ). pre ++ (y ++ (s ++ z))) eh

    -- y is held, x moved to its place, and y written before it
    pub small-right : h ≡ y → b₁ ≡ paste b (at + r) (drop at b) l → b₂ ≡ take at b₁ ++ h ++ drop (at + length h) b₁ → b₂ ≡ rotated b at l r
    small-right eh one two =
        let e₁ : b₁ ≡ (pre ++ u) ++ (x ++ z) = field-written b (pre ++ u) v z (at + r) l (places ∙ sym (append_assoc pre u (v ++ z))) (length-through u length-u) length-v b₁ x one in
        let lh : length u ≡ length h = length-u ∙ sym (ap length eh ∙ length-y) in
        field-written b₁ pre u (x ++ z) at (length h) (e₁ ∙ append_assoc pre u (x ++ z)) length-pre lh b₂ h two
        ∙ ap (λ (s : List ℕ). pre ++ (s ++ (x ++ z))) eh

  module _ (b' : List ℕ) where
    -- x is swapped with the last l bytes of y, and comes to its place
    pub swap-left : l ≤ r → b' ≡ swapped b at (at + r) l → rotated b' at l (r - l) ≡ rotated b at l r
    swap-left le e =
        let y₁ : List ℕ = take (r - l) y in
        let y₂ : List ℕ = drop (r - l) y in
        let l₁ : length y₁ ≡ r - l = length-take-le (r - l) y (omega (arith, length-y)) in
        let l₂ : length y₂ ≡ l = omega (arith, length-drop (r - l) y, length-y) in
        let ey : y ≡ y₁ ++ y₂ = sym (take-append-drop (r - l) y) in
        let eb : b ≡ pre ++ (x ++ (y₁ ++ (y₂ ++ z))) =
        told ∙ ap (λ (s : List ℕ). pre ++ (x ++ (s ++ z))) ey ∙ ap (λ (s : List ℕ). pre ++ (x ++ s)) (append_assoc y₁ y₂ z) in
        let e₁ : b' ≡ pre ++ (y₂ ++ (y₁ ++ (x ++ z))) = e ∙ swap-parts b pre x y₁ y₂ z at (at + r) l eb length-pre length-x l₂ (omega arith) in
        rotated-parts b' pre y₂ y₁ (x ++ z) at l (r - l) e₁ length-pre l₂ l₁ (rotated b' at l (r - l)) refl
        ∙ ap (λ (s : List ℕ). pre ++ s) (sym (append_assoc y₁ y₂ (x ++ z)) ∙ ap (λ (s : List ℕ). s ++ (x ++ z)) (sym ey))

    -- y is swapped with the first r bytes of x, and comes to its place
    pub swap-right : r ≤ l → b' ≡ swapped b at (at + l) r → rotated b' (at + r) (l - r) r ≡ rotated b at l r
    swap-right le e =
        let x₁ : List ℕ = take r x in
        let x₂ : List ℕ = drop r x in
        let l₁ : length x₁ ≡ r = length-take-le r x (omega (arith, length-x)) in
        let l₂ : length x₂ ≡ l - r = omega (arith, length-drop r x, length-x) in
        let ex : x ≡ x₁ ++ x₂ = sym (take-append-drop r x) in
        let eb : b ≡ pre ++ (x₁ ++ (x₂ ++ (y ++ z))) =
        told ∙ ap (λ (s : List ℕ). pre ++ (s ++ (y ++ z))) ex ∙ ap (λ (s : List ℕ). pre ++ s) (append_assoc x₁ x₂ (y ++ z)) in
        let e₁ : b' ≡ (pre ++ y) ++ (x₂ ++ (x₁ ++ z)) =
        e ∙ swap-parts b pre x₁ x₂ y z at (at + l) r eb length-pre l₁ length-y (omega arith) ∙ sym (append_assoc pre y (x₂ ++ (x₁ ++ z))) in
        rotated-parts b' (pre ++ y) x₂ x₁ z (at + r) (l - r) r e₁ (length-through y length-y) l₂ l₁ (rotated b' (at + r) (l - r) r) refl
        ∙ append_assoc pre y (x₁ ++ (x₂ ++ z))
        ∙ ap (λ (s : List ℕ). pre ++ (y ++ s)) (sym (append_assoc x₁ x₂ z) ∙ ap (λ (s : List ℕ). s ++ z) (sym ex))

  -- where a block is empty, nothing is left to do
  pub none_left : l ≤ 0 → b ≡ rotated b at l r
  none_left h =
      let q : x ≡ [] = empty x (omega (arith, length-x)) in
      told ∙ ap (λ (s : List ℕ). pre ++ (s ++ (y ++ z))) q ∙ sym (ap (λ (s : List ℕ). pre ++ (y ++ (s ++ z))) q)

  pub none_right : r ≤ 0 → b ≡ rotated b at l r
  none_right h =
      let q : y ≡ [] = empty y (omega (arith, length-y)) in
      told ∙ ap (λ (s : List ℕ). pre ++ (x ++ (s ++ z))) q ∙ sym (ap (λ (s : List ℕ). pre ++ (s ++ (x ++ z))) q)
