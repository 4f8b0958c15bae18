-- The search for a part's row, row by row. Assumes nothing.
use Prim.Native.Nat.{Ordering}
use Prim.Native.Nat.{ℕ, ◌+◌, ◌≤◌}
use mathlib.Core.Path.{◌≡◌, refl, sym, ap, ◌∙◌}
use mathlib.Core.List.{List, [], ◌∷◌, ◌++◌, append_assoc}
use mathlib.Core.Option.{some}
use native.Mathlib.Omega.{arith}
use lib.ListN.{length, take, drop}
use lib.Seq.{take_at}
use Rattle.base_order.proofs.OrderLaws.{numbers, cases}
use Rattle.machine.specs.Map.{Map, by_number, lookup, place}
use Rattle.machine.specs.State.{Part}
use Rattle.machine.proofs.MapSplits.{Below, place-append}
use Rattle.machine.proofs.Options.{none-some}
use Rattle.mem_row.specs.declared.Head.{Head}
use Rattle.mem_row.specs.Row.{encode_rows, contents_of, head_at, head_of, head_length}
use Rattle.mem_layout.specs.Memory.{part_row, part_rows}
use Rattle.mem_join_order.specs.Region.{PartAt, found_in}
use Rattle.mem_join_order.proofs.Rows.{row_bytes, data_bytes, length-rows-snoc, length-data-snoc, Here, row_here}

-- the parts passed have numbers below n, and e is the next
pub record Passed (t a : List ℕ) (at base n : ℕ) (k : PartAt t a at base n) (rows bytes : ℕ) : Type 0 where
  pub passed : Map ℕ Part
  pub next : ℕ × Part
  pub rest : Map ℕ Part
  pub split : k.region.parts ≡ passed ++ (next ∷ rest)
  pub below : Below by_number n passed
  pub found : lookup by_number n (next ∷ rest) ≡ some k.part
  pub rows_are : rows ≡ length (row_bytes passed)
  pub bytes-are : bytes ≡ length (data_bytes passed)

-- what a search finds is not at the end
pub next-entry : (n : ℕ) (y : Part) (m : Map ℕ Part) → lookup by_number n m ≡ some y → (e : ℕ × Part) × (zs : Map ℕ Part) × (m ≡ e ∷ zs)
next-entry n y [] f = absurd (none-some f)
next-entry n y (e ∷ zs) f = (e, zs, refl)

below-snoc : (n : ℕ) (e : ℕ × Part) (xs : Map ℕ Part) → Below by_number n xs → by_number n e.0 ≡ Ordering.gt → Below by_number n (xs ++ (e ∷ []))
below-snoc n e [] b g = (g, tt)
below-snoc n e (x ∷ xs) b g = (b.0, below-snoc n e xs b.1 g)

module _ (t a : List ℕ) (at base n : ℕ) (k : PartAt t a at base n) where
  pub passed_none : Passed t a at base n k 0 0
  unfolding part_rows encode_rows contents_of
  passed_none =
      let m = next-entry n k.part k.region.parts k.found in
      record {
        passed = [];
        next = m.0;
        rest = m.1;
        split = m.2;
        below = tt;
        found = ap (lookup by_number n) (sym m.2) ∙ k.found;
        rows_are = refl;
        bytes-are = refl;
      }

  module _ (rows bytes : ℕ) (p : Passed t a at base n k rows bytes) where
    abbrev e : ℕ × Part
    e = p.next

    here : Here t a at base p.passed e
    here = row_here t a at base k.region p.passed e p.rest p.split

    pub next-inside : at + rows + head_length ≤ length t
    next-inside = let i = here.inside in let q = p.rows_are in omega arith

    module _ (head : Head) (read : head ≡ head_at (drop (at + rows) t)) where
      pub same : head ≡ head_of (part_row e.0 e.1)
      same = read ∙ ap (λ (r : ℕ). head_at (drop (at + r) t)) p.rows_are ∙ here.head

      number : head.number ≡ e.0
      number = ap (λ (h : Head). h.number) same

      size : head.size ≡ length e.1.content
      size = ap (λ (h : Head). h.size) same

      pub arena-inside : base + bytes + head.size ≤ length a
      arena-inside = let i = here.arena-inside in let q = p.bytes-are in let z = size in omega arith

      -- it is the part that is sought
      pub found_here : head.number ≡ n → record { rows = rows; bytes = bytes; size = head.size } ≡ found_in k.region.parts n k.part
      found_here q =
          let own : by_number n e.0 ≡ Ordering.eq = ap (by_number n) (sym number ∙ q) ∙ numbers.self n in
          let m = k.region.parts in
          let one : place by_number n (e ∷ p.rest) ≡ 0 = rw own in
          let at-is : length p.passed ≡ place by_number n m = omega (arith, ap (place by_number n) p.split, place-append numbers n p.passed (e ∷ p.rest) p.below) in
          let front : p.passed ≡ take (place by_number n m) m = sym (ap (take (place by_number n m)) p.split ∙ take_at p.passed (e ∷ p.rest) (place by_number n m) at-is) in
          let got : some e.1 ≡ some k.part = rw own at p.found in
          let part : e.1 ≡ k.part = cc in
          let r = p.rows_are ∙ ap (λ (xs : Map ℕ Part). length (row_bytes xs)) front in
          let b = p.bytes-are ∙ ap (λ (xs : Map ℕ Part). length (data_bytes xs)) front in
          let z = size ∙ ap (λ (y : Part). length y.content) part in
          λ i. record { rows = r i; bytes = b i; size = z i }

      -- it is another: the search goes on after it
      pub passed-next : (head.number ≡ n → ⊥) → Passed t a at base n k (rows + head_length) (bytes + head.size)
      passed-next other =
          cases (by_number n e.0)
          (λ q. absurd (none-some (rw q at p.found)))
          (λ q. absurd (other (number ∙ sym (numbers.alike n e.0 q))))
          (λ q. further q)
        where
          further : by_number n e.0 ≡ Ordering.gt → Passed t a at base n k (rows + head_length) (bytes + head.size)
          further q =
              let f : lookup by_number n p.rest ≡ some k.part = rw q at p.found in
              let m = next-entry n k.part p.rest f in
              let r = p.rows_are in
              let b = p.bytes-are in
              record {
                passed = p.passed ++ (e ∷ []);
                next = m.0;
                rest = m.1;
                split = p.split ∙ ap (λ (l : Map ℕ Part). p.passed ++ (e ∷ l)) m.2 ∙ sym (append_assoc p.passed (e ∷ []) (m.0 ∷ m.1));
                below = below-snoc n e p.passed p.below q;
                found = ap (lookup by_number n) (sym m.2) ∙ f;
                rows_are = omega (arith, length-rows-snoc p.passed e here.span);
                bytes-are = omega (arith, length-data-snoc p.passed e, size);
              }
