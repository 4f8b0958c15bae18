-- The rows of the tables before E6, which had no pairs: their bytes and their reader, with nothing of crates `mem_row` and `mem_layout`. Assumes nothing.
use Rattle.std.specs.Prelude.{ℕ, zero, suc, ◌+◌, Bool, true, ◌&&◌, List, [], ◌∷◌, ◌++◌, leb, length, take, drop}
use Rattle.base_number.specs.Number.{le, from_le}

-- a row with its data, which stand in the arena
pub record FormerRow : Type 0 where
  pub number : ℕ
  pub stamp : ℕ
  pub kind : ℕ
  pub count : ℕ
  pub digest : List ℕ
  pub path : List ℕ
  pub content : List ℕ

-- the bytes of a row: size 4, number 4, stamp 8, kind 1, path length 1, count 2, digest 16, path
unfoldable pub former_row_bytes : FormerRow → List ℕ
former_row_bytes r =
    le 4 (length r.content)
    ++ le 4 r.number
    ++ le 8 r.stamp
    ++ le 1 r.kind
    ++ le 1 (length r.path)
    ++ le 2 r.count
    ++ r.digest
    ++ r.path

-- the number in `width` bytes from `at` on, low byte first
abbrev pub number_at : (at width : ℕ) → List ℕ → ℕ
number_at at width t = from_le (take width (drop at t))

-- the row at the front of t, each field at its offset, with its data at the front of a
unfoldable pub former_row_at : (t a : List ℕ) → FormerRow
former_row_at t a =
    record {
      number = number_at 4 4 t;
      stamp = number_at 8 8 t;
      kind = number_at 16 1 t;
      count = number_at 18 2 t;
      digest = take 16 (drop 20 t);
      path = take (number_at 17 1 t) (drop 36 t);
      content = take (number_at 0 4 t) a;
    }

-- what stands after that row, and after its data
abbrev pub former_past_row : List ℕ → List ℕ
former_past_row t = drop (36 + number_at 17 1 t) t

abbrev pub former_past_data : (t a : List ℕ) → List ℕ
former_past_data t a = drop (number_at 0 4 t) a

-- the row is all in t, and its data all in a
unfoldable pub former_inside : (t a : List ℕ) → Bool
former_inside t a = leb 36 (length t) && (leb (36 + number_at 17 1 t) (length t) && leb (number_at 0 4 t) (length a))

-- n rows from the front of t on, with their data from the front of a on; and what stands after them
unfoldable pub former_rows_at : ℕ → (t a : List ℕ) → List FormerRow
former_rows_at zero t a = []
former_rows_at (suc n) t a = former_row_at t a ∷ former_rows_at n (former_past_row t) (former_past_data t a)

unfoldable pub tables_after : ℕ → List ℕ → List ℕ
tables_after zero t = t
tables_after (suc n) t = tables_after n (former_past_row t)

unfoldable pub arena_after : ℕ → (t a : List ℕ) → List ℕ
arena_after zero t a = a
arena_after (suc n) t a = arena_after n (former_past_row t) (former_past_data t a)

-- n rows stand at the front of t by a rule: `ok σ r` says that r may stand at the state σ of the rule, and `next σ r` is the state after it
module _ (S : Type 0) (ok : S → FormerRow → Bool) (next : S → FormerRow → S) where
  unfoldable pub former_good : ℕ → S → (t a : List ℕ) → Bool
  former_good zero σ t a = true
  former_good (suc n) σ t a =
      former_inside t a && (ok σ (former_row_at t a) && former_good n (next σ (former_row_at t a)) (former_past_row t) (former_past_data t a))
