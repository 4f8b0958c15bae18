-- The laws of prefixes and suffixes. Assumes nothing.
use Prim.Native.Nat.{ℕ, ◌-◌, ◌<◌}
use mathlib.Core.Path.{◌≡◌, sym, ap, ◌∙◌}
use mathlib.Core.Bool.{true, false}
use mathlib.Core.List.{List, ◌++◌}
use native.Mathlib.Omega.{arith}
use lib.ListN.{length, take, drop, length-take, length-drop, take-append-drop}
use Rattle.base_order.specs.Order.{begins, ends}
use Rattle.base_order.proofs.OrderLaws.{same_true, same_false}

pub begins-true : (p s : List ℕ) → begins p s ≡ true → s ≡ p ++ drop (length p) s
unfolding begins
begins-true p s e =
    sym (take-append-drop (length p) s)
    ∙ ap (λ (l : List ℕ). l ++ drop (length p) s) (same_true (take (length p) s) p e)

-- a string has no prefix that is longer
pub begins-short : (p s : List ℕ) → length s < length p → begins p s ≡ false
unfolding begins
begins-short p s h = same_false (take (length p) s) p (λ e. omega (arith, ap length e, length-take (length p) s))

-- a string has no suffix that is longer
pub ends-short : (p s : List ℕ) → length s < length p → ends p s ≡ false
unfolding ends
ends-short p s h = same_false (drop (length s - length p) s) p (λ e. omega (arith, ap length e, length-drop (length s - length p) s))
