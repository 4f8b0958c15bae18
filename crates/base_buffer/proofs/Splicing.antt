-- A splice is a move and a copy, of other bytes or of some of the same buffer. Assumes nothing.
use mathlib.Core.Path.{◌≡◌, sym, ap, ap₂, ◌∙◌}
use mathlib.Core.List.{List, [], ◌++◌, append_assoc}
use Prim.Native.Nat.{ℕ, ◌+◌, ◌-◌, ◌≤◌}
use native.Mathlib.Omega.{arith}
use lib.ListN.{length, take, drop, length-drop}
use lib.Seq.{paste, drop_at, drop-drop, take-append-le, drop-append-le, take-take, length-take-le}
use Rattle.base_number.proofs.Fields.{drop-take}
use Rattle.base_buffer.specs.Buffer.{spliced}
use Rattle.base_buffer.proofs.Moving.{part_of}

-- the bytes after are moved, and src is copied in
pub move-copy : (b b₁ b₂ src : List ℕ) (at n used : ℕ) → at + n ≤ used → used ≤ length b → used + length src ≤ length b + n
    → b₁ ≡ paste b (at + length src) (drop (at + n) b) (used - (at + n)) → b₂ ≡ take at b₁ ++ src ++ drop (at + length src) b₁ → b₂ ≡ spliced b at n used src
move-copy b b₁ b₂ src at n used an ub room one two =
    let m : ℕ = length src in
    let mid : List ℕ = take (used - (at + n)) (drop (at + n) b) in
    let tail : List ℕ = drop (used - n + m) b in
    let q : at + m + (used - (at + n)) ≡ used - n + m = omega arith in
    let lt : length (take (at + m) b) ≡ at + m = length-take-le (at + m) b (omega arith) in
    let is : b₁ ≡ take (at + m) b ++ (mid ++ tail) =
    one ∙ ap (λ (k : ℕ). take (at + m) b ++ mid ++ drop k b) q ∙ append_assoc (take (at + m) b) mid tail in
    let front : take at b₁ ≡ take at b =
    ap (take at) is ∙ take-append-le at (take (at + m) b) (mid ++ tail) (omega arith) ∙ take-take at (at + m) b (omega arith) in
    let back : drop (at + m) b₁ ≡ mid ++ tail = ap (drop (at + m)) is ∙ drop_at (take (at + m) b) (mid ++ tail) (at + m) lt in
    two
    ∙ ap (λ (l : List ℕ). l ++ src ++ drop (at + m) b₁) front
    ∙ ap (λ (l : List ℕ). take at b ++ src ++ l) back
    ∙ append_assoc (take at b) src (mid ++ tail)

-- with no src, the move is all
pub move-only : (b b' : List ℕ) (at n used : ℕ) → at + n ≤ used
    → b' ≡ paste b at (drop (at + n) b) (used - (at + n)) → b' ≡ spliced b at n used []
move-only b b' at n used an one =
    let q : at + (used - (at + n)) ≡ used - n + 0 = omega arith in
    one
    ∙ ap (λ (k : ℕ). take at b ++ take (used - (at + n)) (drop (at + n) b) ++ drop k b) q
    ∙ append_assoc (take at b) (take (used - (at + n)) (drop (at + n) b)) (drop (used - n + 0) b)

-- bytes that a move to `to` leaves where they stand
part-before : (b b₁ s : List ℕ) (to k from m : ℕ) → to ≤ length b → length b₁ ≡ length b → from + m ≤ to
    → b₁ ≡ paste b to s k → take m (drop from b₁) ≡ take m (drop from b)
part-before b b₁ s to k from m room keeps le one =
    let rest : List ℕ = take k s ++ drop (to + k) b in
    let e : b₁ ≡ take to b ++ rest = one ∙ append_assoc (take to b) (take k s) (drop (to + k) b) in
    let lt : length (take to b) ≡ to = length-take-le to b room in
    let front : take (from + m) b₁ ≡ take (from + m) b =
    ap (take (from + m)) e ∙ take-append-le (from + m) (take to b) rest (omega arith) ∙ take-take (from + m) to b le in
    part_of b₁ from m (omega arith) ∙ ap (drop from) front ∙ sym (part_of b from m (omega arith))

-- and those that it moves, i bytes into them
part_moved : (b b₁ : List ℕ) (to source k i m : ℕ) → to ≤ length b → source + k ≤ length b → i + m ≤ k
    → b₁ ≡ paste b to (drop source b) k → take m (drop (to + i) b₁) ≡ take m (drop (source + i) b)
part_moved b b₁ to source k i m room inside le one =
    let s : List ℕ = drop source b in
    let tail : List ℕ = drop (to + k) b in
    let moved : List ℕ = take k s in
    let ls : length s ≡ length b - source = length-drop source b in
    let lm : length moved ≡ k = length-take-le k s (omega arith) in
    let back : drop to b₁ ≡ moved ++ tail =
    ap (drop to) (one ∙ append_assoc (take to b) moved tail) ∙ drop_at (take to b) (moved ++ tail) to (length-take-le to b room) in
    let part : drop i moved ≡ take (k - i) (drop i s) = drop-take i k s (omega arith) (omega arith) in
    let lp : m ≤ length (drop i moved) = rw (length-drop i moved) (omega arith) in
    ap (take m) (sym (drop-drop i to b₁) ∙ ap (drop i) back ∙ drop-append-le i moved tail (omega arith))
    ∙ take-append-le m (drop i moved) tail lp
    ∙ ap (take m) part
    ∙ take-take m (k - i) (drop i s) (omega arith)
    ∙ ap (take m) (drop-drop i source b)

-- the bytes after are moved, and m bytes copied in, which stood at `from` before the move
module _ (b b₁ b₂ : List ℕ) (at n used from m : ℕ) (an : at + n ≤ used) (ub : used ≤ length b) (room : used + m ≤ length b + n) (fu : from + m ≤ used)
    (one : b₁ ≡ paste b (at + m) (drop (at + n) b) (used - (at + n))) where
  abbrev part : List ℕ
  part = take m (drop from b)

  move_read : (source : ℕ) → take m (drop source b₁) ≡ part → b₂ ≡ take at b₁ ++ take m (drop source b₁) ++ drop (at + m) b₁ → b₂ ≡ spliced b at n used part
  move_read source read two =
      let lp : length part ≡ m = length-take-le m (drop from b) (rw (length-drop from b) (omega arith)) in
      move-copy b b₁ b₂ part at n used an ub (omega arith) (one ∙ ap (λ (k : ℕ). paste b (at + k) (drop (at + n) b) (used - (at + n))) (sym lp))
      (two ∙ ap₂ (λ (l : List ℕ) (k : ℕ). take at b₁ ++ l ++ drop (at + k) b₁) read (sym lp))

  -- they stood before
  pub copy-before : from + m ≤ at → length b₁ ≡ length b → b₂ ≡ take at b₁ ++ take m (drop from b₁) ++ drop (at + m) b₁ → b₂ ≡ spliced b at n used part
  copy-before le keeps two =
      move_read from (part-before b b₁ (drop (at + n) b) (at + m) (used - (at + n)) from m (omega arith) keeps (omega arith) one) two

  -- they stood after, and were moved
  pub copy-after : at + n ≤ from → b₂ ≡ take at b₁ ++ take m (drop (from + m - n) b₁) ++ drop (at + m) b₁ → b₂ ≡ spliced b at n used part
  copy-after le two =
      let i : ℕ = from - (at + n) in
      let p : at + m + i ≡ from + m - n = omega arith in
      let q : at + n + i ≡ from = omega arith in
      let read = part_moved b b₁ (at + m) (at + n) (used - (at + n)) i m (omega arith) (omega arith) (omega arith) one in
      move_read (from + m - n) (ap (λ (k : ℕ). take m (drop k b₁)) (sym p) ∙ read ∙ ap (λ (k : ℕ). take m (drop k b)) q) two
