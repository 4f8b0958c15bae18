-- Rows of parts in listed order, for the digest of their digests. Assumes nothing.
use Rattle.std.specs.Prelude.{ℕ, ◌≡◌, List, ◌++◌, length}
use Rattle.machine.specs.State.{Part}
use Rattle.mem_row.specs.Row.{encode_rows, EncodableAll}
use Rattle.mem_join_order.specs.Region.{listed_rows}

-- the rows of `count` parts at `at` in the tables
pub record OrderedAt (t : List ℕ) (at count : ℕ) : Type 0 where
  pub numbers : List ℕ
  pub listed : List Part
  pub before : List ℕ
  pub after : List ℕ
  pub tables : t ≡ before ++ (encode_rows (listed_rows numbers listed) ++ after)
  pub starts : length before ≡ at
  pub numbered : length numbers ≡ count
  pub many : length listed ≡ count
  pub encodable : EncodableAll (listed_rows numbers listed)
