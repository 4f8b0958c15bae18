-- Rows of parts that stand in the tables, with their data in the arena, and the same rows in listed order. Assumes nothing.
use Rattle.std.specs.Prelude.{ℕ, ◌*◌, ◌≤◌, ◌≡◌, Bool, true, List, [], ◌∷◌, ◌++◌, length, take}
use Rattle.std.proofs.Math.Option.{some}
use Rattle.machine.specs.Map.{Map, by_number, lookup, remove, place}
use Rattle.machine.specs.State.{Part}
use Rattle.machine.specs.Steps.{take_listed, contents, digests}
use Rattle.base_md5.specs.declared.words.Digest.{Digest}
use Rattle.base_md5.specs.Md5.{md5}
use Rattle.mem_row.specs.Row.{Row, encode_row, encode_rows, contents_of, EncodableAll}
use Rattle.mem_layout.specs.Memory.{part_row, part_rows}
use Rattle.machine.specs.PartLists.{part_list}
use Rattle.mem_join_order.specs.declared.Found.{Found}

-- rows of parts at `at` in the tables, with their data at `base` in the arena
pub record Region (t a : List ℕ) (at base : ℕ) : Type 0 where
  pub parts : Map ℕ Part
  pub before : List ℕ
  pub after : List ℕ
  pub tables : t ≡ before ++ (encode_rows (part_rows parts) ++ after)
  pub starts : length before ≡ at
  pub arena-before : List ℕ
  pub arena-after : List ℕ
  pub arena : a ≡ arena-before ++ (contents_of (part_rows parts) ++ arena-after)
  pub arena-starts : length arena-before ≡ base
  pub encodable : EncodableAll (part_rows parts)

-- part n is one of them
pub record PartAt (t a : List ℕ) (at base n : ℕ) : Type 0 where
  pub region : Region t a at base
  pub part : Part
  pub found : lookup by_number n region.parts ≡ some part

-- how many bytes of rows and of data stand before part n of m, and the size of its data
abbrev pub found_in : (m : Map ℕ Part) (n : ℕ) → Part → Found
found_in m n y =
    record {
      rows = length (encode_rows (part_rows (take (place by_number n m) m)));
      bytes = length (contents_of (part_rows (take (place by_number n m) m)));
      size = length y.content;
    }

-- part n has come to stand before the others
pub record Brought (t a : List ℕ) (at base n : ℕ) (k : PartAt t a at base n) (t' a' : List ℕ) (size : ℕ) : Type 0 where
  pub tables : t' ≡ k.region.before ++ (encode_row (part_row n k.part) ++ (encode_rows (part_rows (remove by_number n k.region.parts)) ++ k.region.after))
  pub arena : a' ≡ k.region.arena-before ++ (k.part.content ++ (contents_of (part_rows (remove by_number n k.region.parts)) ++ k.region.arena-after))
  pub size_is : size ≡ length k.part.content

-- the rows of parts in listed order
unfoldable pub listed_rows : (numbers : List ℕ) → List Part → List Row
listed_rows [] ys = []
listed_rows (n ∷ ns) [] = []
listed_rows (n ∷ ns) (y ∷ ys) = part_row n y ∷ listed_rows ns ys

-- the list names each of them one time
pub record ListedAt (t a : List ℕ) (at base : ℕ) (list : List ℕ) : Type 0 where
  pub region : Region t a at base
  pub listed : List Part
  pub fits : take_listed (part_list list) region.parts ≡ some listed
  pub even : length list ≡ 2 * length (part_list list)

-- the numbers of parts, in their order
unfoldable pub part_numbers : Map ℕ Part → List ℕ
part_numbers [] = []
part_numbers (e ∷ m) = e.0 ∷ part_numbers m

-- where `ascends` is true, the list has the numbers of these parts in their order
abbrev pub InOrder : (ascends : Bool) (list : List ℕ) → Map ℕ Part → Type 0
InOrder ascends list m = ascends ≡ true → part_list list ≡ part_numbers m

-- what `arrange` asks
pub record Arrangeable (t a : List ℕ) (at base : ℕ) (list : List ℕ) (ascends : Bool) : Type 0 where
  pub listed_at : ListedAt t a at base list
  pub in_order : InOrder ascends list listed_at.region.parts
  pub few : length list ≤ 512

-- tables and arena with the parts in listed order
module _ (t a : List ℕ) (at base : ℕ) (list : List ℕ) (k : ListedAt t a at base list) where
  unfoldable pub ordered_tables : List ℕ
  ordered_tables = k.region.before ++ (encode_rows (listed_rows (part_list list) k.listed) ++ k.region.after)

  unfoldable pub ordered_arena : List ℕ
  ordered_arena = k.region.arena-before ++ (contents k.listed ++ k.region.arena-after)

-- the parts in listed order, and the digest of their digests
pub record Arranged (t a : List ℕ) (at base : ℕ) (list : List ℕ) (k : ListedAt t a at base list) (t' a' : List ℕ) (digest : Digest) : Type 0 where
  pub tables : t' ≡ ordered_tables t a at base list k
  pub arena : a' ≡ ordered_arena t a at base list k
  pub digest-is : digest ≡ md5 (digests k.listed)
