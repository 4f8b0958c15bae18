-- What the larger changes of a buffer leave. Assumes nothing.
use Rattle.std.specs.Prelude.{ℕ, ◌+◌, ◌-◌, List, ◌++◌, length, take, drop}

-- the n bytes at `at` give way to src, and those after them up to `used` follow it
abbrev pub spliced : (b : List ℕ) (at n used : ℕ) (src : List ℕ) → List ℕ
spliced b at n used src =
    take at b ++ (src ++ (take (used - (at + n)) (drop (at + n) b) ++ drop (used - n + length src) b))

-- the `left` bytes from `at` on and the `right` bytes after them, in the other order
abbrev pub rotated : (b : List ℕ) (at left right : ℕ) → List ℕ
rotated b at left right =
    take at b ++ (take right (drop (at + left) b) ++ (take left (drop at b) ++ drop (at + left + right) b))
