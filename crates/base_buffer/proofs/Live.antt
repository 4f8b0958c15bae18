-- Laws for callers whose buffer is `live`, then free bytes: what a rotation and a splice within `live` leave. Each takes what
-- the callee ensures. With an empty y a splice inserts, with an empty src it removes. Assumes nothing.
use mathlib.Core.Path.{◌≡◌, refl, sym, ap, ◌∙◌}
use mathlib.Core.List.{List, ◌++◌, append_assoc}
use Prim.Native.Nat.{ℕ, ◌+◌, ◌-◌}
use native.Mathlib.Omega.{arith}
use lib.ListN.{length, drop, length-append}
use Rattle.base_buffer.specs.Buffer.{spliced, rotated}
use Rattle.base_buffer.proofs.Parts.{rotated-parts, spliced-parts}

module _ (b b' live live' free : List ℕ) (told : b ≡ live ++ free) where
  pub rotated-live : (x y z w : List ℕ) (at left right : ℕ) → live ≡ x ++ (y ++ (z ++ w)) → live' ≡ x ++ (z ++ (y ++ w)) → length x ≡ at → length y ≡ left → length z ≡ right
      → b' ≡ rotated b at left right → b' ≡ live' ++ free
  rotated-live x y z w at l r p q place first second e =
      let t : b ≡ x ++ (y ++ (z ++ (w ++ free))) = told ∙ ap (λ (s : List ℕ). s ++ free) p ∙ simp append_assoc in
      rotated-parts b x y z (w ++ free) at l r t place first second b' e ∙ sym (ap (λ (s : List ℕ). s ++ free) q ∙ simp append_assoc)

  pub spliced-live : (x y z src : List ℕ) (at n used : ℕ) → live ≡ x ++ (y ++ z) → live' ≡ x ++ (src ++ z) → length x ≡ at → length y ≡ n → length live ≡ used
      → b' ≡ spliced b at n used src → b' ≡ live' ++ drop (length live') b
  spliced-live x y z src at n used p q place first end e =
      let t : b ≡ x ++ (y ++ (z ++ free)) = told ∙ ap (λ (s : List ℕ). s ++ free) p ∙ simp append_assoc in
      let l : at + n + length z ≡ used = omega (arith, ap length p, length-append x (y ++ z), length-append y z) in
      let k : used - n + length src ≡ length live' = omega (arith, ap length q, length-append x (src ++ z), length-append src z) in
      spliced-parts b x y z free at n (length z) t place first refl b' src used l e
      ∙ ap (λ (i : ℕ). x ++ (src ++ (z ++ drop i b))) k
      ∙ sym (ap (λ (s : List ℕ). s ++ drop (length live') b) q ∙ simp append_assoc)
