-- What is read at a place of the tables, on plain lists. Assumes nothing.
use Prim.Native.Nat.{ℕ, ◌+◌, ◌-◌, ◌*◌, ◌≤◌}
use mathlib.Core.Path.{◌≡◌, refl, ◌∙◌}
use mathlib.Core.Bool.{true, ◌&&◌, cond}
use mathlib.Core.List.{List}
use native.Mathlib.Omega.{arith}
use borrow.Author.Tests.{le-leb}
use lib.Dec.{leb}
use lib.ListN.{length, take, drop, length-take, length-drop}
use Rattle.pairs_stored.specs.Stored.{block_ok}
use Rattle.pairs_stored.proofs.Blocks.{block_none}
use Rattle.mem_row.specs.declared.Head.{Head}
use Rattle.mem_row.specs.Row.{head_at, span_at, inside, head_length, span}
use Rattle.mem_scan_rows.specs.Scan.{reading_of}
use Rattle.std.specs.Prelude.{Option, Some, None}

-- the tests of `read_row`
pub reading-is : (t : List ℕ) (at : ℕ) (a : List ℕ) (base : ℕ) (h : Head) (n : ℕ) → h ≡ head_at (drop at t) → n ≡ span h
    → reading_of (drop at t) (drop base a) ≡ cond (leb head_length (length t - at) && (leb n (length t - at) && leb h.size (length a - base))) (Some h) None
unfolding reading_of inside span_at
reading-is t at a base h n e f = rw (length-drop at t, length-drop base a, f, e)

-- a row is read where it ends in t, and its data in a
pub row_fits : (t : List ℕ) (at : ℕ) (a : List ℕ) (base : ℕ) (h : Head) → h ≡ head_at (drop at t) → at + span h ≤ length t → base + h.size ≤ length a
    → reading_of (drop at t) (drop base a) ≡ Some h
row_fits t at a base h e l m =
    reading-is t at a base h (span h) e refl
    ∙ rw (le-leb head_length (length t - at) (omega arith), le-leb (span h) (length t - at) (omega arith), le-leb h.size (length a - base) (omega arith))

-- a row without pairs may stand
pub no_pairs : (most n : ℕ) (t content : List ℕ) → n ≡ 0 → leb n most && block_ok (take (2 * n) t) content ≡ true
no_pairs most n t content e = rw (le-leb n most (omega arith), block_none (take (2 * n) t) content (omega (arith, length-take (2 * n) t)))
