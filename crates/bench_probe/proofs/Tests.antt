-- What the tests of the exported functions show. Assumes nothing.
use mathlib.Core.Path.{◌≡◌, sym, ap, ◌∙◌}
use mathlib.Core.Bool.{Bool, true, false, not}
use mathlib.Core.List.{List, ◌++◌, append-nil}
use Prim.Native.Nat.{ℕ, ◌+◌}
use native.Mathlib.Nat.{le_of_eq}
use lib.ListN.{length, take, drop, drop_of_length-le}
use borrow.Author.Tests.{not-true, not-false}

-- the test t answered r, and was taken as failed, or as passed
pub failed : {r t : Bool} → r ≡ t → not r ≡ true → t ≡ false
failed {r} e h = sym e ∙ not-true r h

pub passed : {r t : Bool} → r ≡ t → not r ≡ false → t ≡ true
passed {r} e h = sym e ∙ not-false r h

-- all of a buffer written over
pub whole : (b s : List ℕ) (n : ℕ) → length b ≡ n → take 0 b ++ s ++ drop n b ≡ s
whole b s n e = ap (λ (l : List ℕ). s ++ l) (drop_of_length-le b (le_of_eq e)) ∙ append-nil s
