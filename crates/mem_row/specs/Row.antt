-- The rows of the tables: how they are written, and what stands at a place. Assumes nothing.
use Rattle.std.specs.Prelude.{ℕ, zero, suc, ◌+◌, ◌*◌, ◌%◌, ◌/◌, ◌<◌, ◌≡◌, Bool, true, ◌&&◌, List, [], ◌∷◌, ◌++◌, leb, length, get_or, take, drop}
use Rattle.mem_row.specs.declared.Head.{Head}
use Rattle.mem_row.specs.Fields.{fields, numbers_at, WithinWidths}

-- a row with its block in the arena: `content` is the pairs' keys and values, then the data
pub record Row : Type 0 where
  pub number : ℕ
  pub stamp : ℕ
  pub kind : ℕ
  pub count : ℕ
  pub digest : List ℕ
  pub path : List ℕ
  pub pairs : ℕ
  pub lengths : List ℕ
  pub content : List ℕ

-- size 4, number 4, stamp 8, kind and pairs 1, path length 1, count 2
abbrev pub widths : List ℕ
widths = 4 ∷ 4 ∷ 8 ∷ 1 ∷ 1 ∷ 2 ∷ []

abbrev pub numbers_of : Head → List ℕ
numbers_of h = h.size ∷ h.number ∷ h.stamp ∷ (h.kind + 4 * h.pairs) ∷ h.pathlen ∷ h.count ∷ []

-- how many bytes the numbers take, and the numbers with the digest
abbrev pub numbers_length : ℕ
numbers_length = 20

abbrev pub head_length : ℕ
head_length = 36

-- how many bytes a row takes whose path has 128 bytes and which has 8 pairs, the most
abbrev pub longest_row : ℕ
longest_row = 180

-- how many bytes the row with a head takes
abbrev pub span : Head → ℕ
span h = head_length + h.pathlen + 2 * h.pairs

-- the bytes of a row: its numbers, its digest, its path, and two length bytes for each pair
unfoldable pub row_bytes : Head → (digest path lengths : List ℕ) → List ℕ
row_bytes h digest path lengths = fields widths (numbers_of h) ++ (digest ++ (path ++ lengths))

-- the head of a row, and its bytes
abbrev pub head_of : Row → Head
head_of r =
    record {
      size = length r.content;
      number = r.number;
      stamp = r.stamp;
      kind = r.kind;
      pairs = r.pairs;
      pathlen = length r.path;
      count = r.count;
    }

abbrev pub encode_row : Row → List ℕ
encode_row r = row_bytes (head_of r) r.digest r.path r.lengths

-- rows end to end, and their data end to end
unfoldable pub encode_rows : List Row → List ℕ
encode_rows [] = []
encode_rows (r ∷ rs) = encode_row r ++ encode_rows rs

unfoldable pub contents_of : List Row → List ℕ
contents_of [] = []
contents_of (r ∷ rs) = r.content ++ contents_of rs

-- a row that its bytes can hold
pub record Encodable (r : Row) : Type 0 where
  pub fits : WithinWidths widths (numbers_of (head_of r))
  pub digest : length r.digest ≡ 16
  pub kind : r.kind < 4
  pub lengths : length r.lengths ≡ 2 * r.pairs

abbrev pub EncodableAll : List Row → Type 0
EncodableAll [] = Unit {0}
EncodableAll (r ∷ rs) = Encodable r × EncodableAll rs

-- What stands at the front of t, whatever its bytes are ------------------------------------------------------------------

abbrev pub head_from : List ℕ → Head
head_from v =
    record {
      size = get_or v 0 0;
      number = get_or v 1 0;
      stamp = get_or v 2 0;
      kind = get_or v 3 0 % 4;
      pairs = get_or v 3 0 / 4;
      pathlen = get_or v 4 0;
      count = get_or v 5 0;
    }

unfoldable pub head_at : List ℕ → Head
head_at t = head_from (numbers_at widths t)

unfoldable pub digest_at : List ℕ → List ℕ
digest_at t = take 16 (drop numbers_length t)

unfoldable pub path_at : List ℕ → List ℕ
path_at t = take (head_at t).pathlen (drop head_length t)

unfoldable pub lengths_at : List ℕ → List ℕ
lengths_at t = take (2 * (head_at t).pairs) (drop (head_length + (head_at t).pathlen) t)

unfoldable pub span_at : List ℕ → ℕ
span_at t = span (head_at t)

-- the row at the front of t, with its data at the front of a
unfoldable pub row_at : (t a : List ℕ) → Row
row_at t a =
    record {
      number = (head_at t).number;
      stamp = (head_at t).stamp;
      kind = (head_at t).kind;
      count = (head_at t).count;
      digest = digest_at t;
      path = path_at t;
      pairs = (head_at t).pairs;
      lengths = lengths_at t;
      content = take (head_at t).size a;
    }

-- the row is all in t, and its data all in a
unfoldable pub inside : (t a : List ℕ) → Bool
inside t a = leb head_length (length t) && (leb (span_at t) (length t) && leb (head_at t).size (length a))

-- n rows from the front of t on, with their data from the front of a on; and what stands after them
unfoldable pub rows_at : ℕ → (t a : List ℕ) → List Row
rows_at zero t a = []
rows_at (suc n) t a = row_at t a ∷ rows_at n (drop (span_at t) t) (drop (head_at t).size a)

unfoldable pub past_rows : ℕ → List ℕ → List ℕ
past_rows zero t = t
past_rows (suc n) t = past_rows n (drop (span_at t) t)

unfoldable pub past_data : ℕ → (t a : List ℕ) → List ℕ
past_data zero t a = a
past_data (suc n) t a = past_data n (drop (span_at t) t) (drop (head_at t).size a)

-- Rows by a rule: `ok σ r` says that r may stand at the state σ of the rule, and `next σ r` is the state after it -----------

module _ (S : Type 0) (ok : S → Row → Bool) (next : S → Row → S) where
  -- n rows stand at the front of t by the rule
  unfoldable pub good : ℕ → S → (t a : List ℕ) → Bool
  good zero σ t a = true
  good (suc n) σ t a = inside t a && (ok σ (row_at t a) && good n (next σ (row_at t a)) (drop (span_at t) t) (drop (head_at t).size a))
