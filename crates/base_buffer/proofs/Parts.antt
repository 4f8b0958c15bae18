-- Laws for callers: what a splice and a rotation leave of a buffer that is told in parts. Each takes what the callee ensures, and gives the parts
-- after it. For `copy_at` it is `field-written`, of crate base_number. Assumes nothing.
use mathlib.Core.Path.{◌≡◌, sym, ap, ap₂, ◌∙◌}
use mathlib.Core.List.{List, ◌++◌, append_assoc}
use Prim.Native.Nat.{ℕ, ◌+◌, ◌-◌}
use native.Mathlib.Omega.{arith}
use lib.ListN.{length, take, drop, length-append}
use Rattle.base_number.proofs.Fields.{field-take, field-drop, field-read}
use Rattle.base_buffer.specs.Buffer.{spliced, rotated}

-- two neighbouring parts, y of n bytes and z of m bytes, after x
module _ (b x y z w : List ℕ) (at n m : ℕ) (told : b ≡ x ++ (y ++ (z ++ w))) (place : length x ≡ at) (first : length y ≡ n) (second : length z ≡ m) where
  before : take at b ≡ x
  before = field-take b x y (z ++ w) at n told place first

  one : take n (drop at b) ≡ y
  one = field-read b x y (z ++ w) at n told place first

  regrouped : b ≡ (x ++ y) ++ (z ++ w)
  regrouped = told ∙ sym (append_assoc x y (z ++ w))

  place-two : length (x ++ y) ≡ at + n
  place-two = omega (arith, length-append x y)

  two : take m (drop (at + n) b) ≡ z
  two = field-read b (x ++ y) z w (at + n) m regrouped place-two second

  after : drop (at + n + m) b ≡ w
  after = field-drop b (x ++ y) z w (at + n) m regrouped place-two second

  -- `rotate` exchanges them
  pub rotated-parts : (b' : List ℕ) → b' ≡ rotated b at n m → b' ≡ x ++ (z ++ (y ++ w))
  rotated-parts b' e =
      e
      ∙ ap₂ (λ (u v : List ℕ). u ++ (v ++ (take n (drop at b) ++ drop (at + n + m) b))) before two
      ∙ ap₂ (λ (u v : List ℕ). x ++ (z ++ (u ++ v))) one after

  -- `splice` puts src where y was, and z after it
  pub spliced-parts : (b' src : List ℕ) (used : ℕ) → at + n + m ≡ used → b' ≡ spliced b at n used src → b' ≡ x ++ (src ++ (z ++ drop (used - n + length src) b))
  spliced-parts b' src used end e =
      let q : used - (at + n) ≡ m = omega arith in
      let t : take (used - (at + n)) (drop (at + n) b) ≡ z = ap (λ (k : ℕ). take k (drop (at + n) b)) q ∙ two in
      e ∙ ap₂ (λ (u v : List ℕ). u ++ (src ++ (v ++ drop (used - n + length src) b))) before t
