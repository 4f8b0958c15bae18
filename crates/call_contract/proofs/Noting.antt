-- What a call that reads notes of the rows in a pass, to read it back after: two bytes each. Assumes nothing.
use Prim.Native.Nat.{ℕ, ◌+◌, ◌≤◌, ◌<◌}
use mathlib.Core.Path.{◌≡◌, sym, ap, ◌∙◌}
use mathlib.Core.Bool.{Bool}
use mathlib.Core.List.{List, ◌++◌, append_assoc}
use native.Mathlib.Omega.{arith}
use lib.ListN.{length, take, drop, length-drop, take-append-drop}
use lib.Seq.{take-append-le, drop-append-le, take_at, drop_at, length-take-le}
use Rattle.base_number.specs.Number.{le, from_le, replaced_at}
use Rattle.base_number.proofs.NumberLaws.{length-le, from_le-le}
use Rattle.machine.specs.Map.{Map, keep}
use Rattle.machine.proofs.MapKeep.{keep_append}

-- two bytes that stand before those written stay
pub read-before : (b s : List ℕ) (at k n : ℕ) → k + 2 ≤ at → at ≤ length b → take 2 (drop k (replaced_at b at s n)) ≡ take 2 (drop k b)
read-before b s at k n before inside =
    let x = take at b in
    let lx : length x ≡ at = length-take-le at b inside in
    let front : (y : List ℕ) → take 2 (drop k (x ++ y)) ≡ take 2 (drop k x) = λ y. ap (take 2) (drop-append-le k x y (omega arith)) ∙ take-append-le 2 (drop k x) y (rw (length-drop k x) (omega arith)) in
    ap (λ (z : List ℕ). take 2 (drop k z)) (append_assoc x s (drop (at + n) b))
    ∙ front (s ++ drop (at + n) b)
    ∙ sym (ap (λ (z : List ℕ). take 2 (drop k z)) (sym (take-append-drop at b)) ∙ front (drop at b))

-- those written are read back
pub read_here : (b : List ℕ) (at v : ℕ) → at + 2 ≤ length b → v < 65536 → from_le (take 2 (drop at (replaced_at b at (le 2 v) 2))) ≡ v
read_here b at v inside small =
    let x = take at b in
    let y = drop (at + 2) b in
    ap (λ (z : List ℕ). from_le (take 2 (drop at z))) (append_assoc x (le 2 v) y)
    ∙ ap (λ (z : List ℕ). from_le (take 2 z)) (drop_at x (le 2 v ++ y) at (length-take-le at b (omega arith)))
    ∙ ap from_le (take_at (le 2 v) y 2 (length-le 2 v))
    ∙ from_le-le 2 v small

-- the first k entries that pass a test are those among the first j entries, where these have k
pub keep-front : {K X : Type 0} (f : K → X → Bool) (m : Map K X) (j k : ℕ) → length (keep f (take j m)) ≡ k → take k (keep f m) ≡ keep f (take j m)
keep-front f m j k e =
    ap (take k) (ap (keep f) (sym (take-append-drop j m)) ∙ keep_append f (take j m) (drop j m))
    ∙ take_at (keep f (take j m)) (keep f (drop j m)) k e
