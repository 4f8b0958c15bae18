-- A part brought to the front of those that remain. Assumes nothing.
use Prim.Native.Nat.{ℕ, suc, ◌+◌, ◌≤◌}
use mathlib.Core.Path.{◌≡◌, sym, ap, ◌∙◌}
use mathlib.Core.List.{List, ◌∷◌, ◌++◌, append_assoc}
use native.Mathlib.Omega.{arith}
use lib.ListN.{length, take, drop}
use Rattle.base_order.proofs.OrderLaws.{numbers}
use Rattle.machine.specs.Map.{Map, by_number, remove, place}
use Rattle.machine.specs.State.{Part}
use Rattle.machine.proofs.MapPlaces.{split-found, remove-old}
use Rattle.base_buffer.specs.Buffer.{rotated}
use Rattle.base_buffer.proofs.Parts.{rotated-parts}
use Rattle.mem_row.specs.Row.{encode_row, head_length}
use Rattle.mem_layout.specs.Memory.{part_row}
use Rattle.mem_join_order.specs.declared.Found.{Found}
use Rattle.mem_join_order.specs.Region.{Region, PartAt, found_in, Brought}
use Rattle.mem_join_order.proofs.Rows.{row_bytes, data_bytes, row-bytes-append, data-bytes-append, Here, row_here, tables-split, arena-split}

module _ (t a : List ℕ) (at base n : ℕ) (k : PartAt t a at base n) where
  abbrev r : Region t a at base
  r = k.region

  abbrev m : Map ℕ Part
  m = r.parts

  -- the parts below n, and those above it
  abbrev xs : Map ℕ Part
  xs = take (place by_number n m) m

  abbrev zs : Map ℕ Part
  zs = drop (suc (place by_number n m)) m

  split : m ≡ xs ++ ((n, k.part) ∷ zs)
  split = split-found numbers n k.part m k.found

  rest : remove by_number n m ≡ xs ++ zs
  rest = remove-old numbers n k.part m k.found

  here : Here t a at base xs (n, k.part)
  here = row_here t a at base r xs (n, k.part) zs split

  module _ (f : Found) (found : f ≡ found_in m n k.part) where
    rows : f.rows ≡ length (row_bytes xs)
    rows = ap (λ (x : Found). x.rows) found

    bytes : f.bytes ≡ length (data_bytes xs)
    bytes = ap (λ (x : Found). x.bytes) found

    size : f.size ≡ length k.part.content
    size = ap (λ (x : Found). x.size) found

    pub rows_inside : at + f.rows + head_length ≤ length t
    rows_inside = let i = here.inside in omega (arith, rows)

    pub bytes_inside : base + f.bytes + f.size ≤ length a
    bytes_inside = let i = here.arena-inside in omega (arith, bytes, size)

    pub brought : (t' a' : List ℕ) → t' ≡ rotated t at f.rows head_length → a' ≡ rotated a base f.bytes f.size → Brought t a at base n k t' a' f.size
    brought t' a' e e' =
        let row = encode_row (part_row n k.part) in
        record {
          tables =
              rotated-parts t r.before (row_bytes xs) row (row_bytes zs ++ r.after) at f.rows head_length (tables-split t a at base r xs (n, k.part) zs split) r.starts (sym rows) here.span t' e
              ∙ ap (λ (l : List ℕ). r.before ++ (row ++ l)) (sym (ap (λ (l : List ℕ). l ++ r.after) (ap row_bytes rest ∙ row-bytes-append xs zs) ∙ append_assoc (row_bytes xs) (row_bytes zs) r.after));
          arena =
              rotated-parts a r.arena-before (data_bytes xs) k.part.content (data_bytes zs ++ r.arena-after) base f.bytes f.size (arena-split t a at base r xs (n, k.part) zs split) r.arena-starts (sym bytes) (sym size) a' e'
              ∙ ap (λ (l : List ℕ). r.arena-before ++ (k.part.content ++ l)) (sym (ap (λ (l : List ℕ). l ++ r.arena-after) (ap data_bytes rest ∙ data-bytes-append xs zs) ∙ append_assoc (data_bytes xs) (data_bytes zs) r.arena-after));
          size_is = size;
        }
