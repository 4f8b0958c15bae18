-- The parts brought into listed order, one by one: what is to come of those that remain does not change. Assumes nothing.
use Prim.Native.Nat.{ℕ, suc, ◌+◌, ◌*◌, ◌≤◌, ◌<◌}
use mathlib.Core.Path.{◌≡◌, refl, sym, ap, ap₂, ◌∙◌, subst}
use mathlib.Core.List.{List, [], ◌∷◌, ◌++◌, append_assoc}
use mathlib.Core.Option.{some}
use native.Mathlib.Nat.{not-suc-le-zero}
use native.Mathlib.Omega.{arith}
use lib.ListN.{length, take, drop, length-append, length-drop}
use lib.Seq.{drop-drop}
use Rattle.base_number.specs.Number.{from_le}
use Rattle.base_order.proofs.OrderLaws.{numbers}
use Rattle.machine.specs.Map.{Map, by_number, lookup, remove, place}
use Rattle.machine.specs.State.{Part}
use Rattle.machine.specs.Steps.{take_listed, contents}
use Rattle.machine.proofs.Options.{none-some}
use Rattle.machine.proofs.MapPlaces.{split-found, remove-old}
use Rattle.machine.proofs.ListFits.{fit-cons}
use Rattle.mem_row.specs.Row.{encode_row, encode_rows, contents_of, head_length, EncodableAll}
use Rattle.mem_layout.specs.Memory.{part_row, part_rows}
use Rattle.machine.specs.PartLists.{part_list}
use Rattle.mem_join_order.specs.Region.{Region, PartAt, Brought, listed_rows, ListedAt, ordered_tables, ordered_arena}
use Rattle.mem_join_order.proofs.Rows.{row_here, encodable-without}

-- the first number of a list with no odd byte
pub record First (bs : List ℕ) : Type 0 where
  pub inside : 2 ≤ length bs
  pub numbers : part_list bs ≡ from_le (take 2 bs) ∷ part_list (drop 2 bs)
  pub even : length (drop 2 bs) ≡ 2 * length (part_list (drop 2 bs))

pub first : (bs : List ℕ) → 0 < length bs → length bs ≡ 2 * length (part_list bs) → First bs
unfolding part_list from_le
first [] h e = absurd (not-suc-le-zero h)
first (x ∷ []) h e = absurd (omega arith)
first (x ∷ (y ∷ bs)) h e = record { inside = omega arith; numbers = ap (λ (n : ℕ). n ∷ part_list bs) (omega arith); even = omega arith }

pub encodable-remove : (n : ℕ) (y : Part) (m : Map ℕ Part) → lookup by_number n m ≡ some y → EncodableAll (part_rows m) → EncodableAll (part_rows (remove by_number n m))
encodable-remove n y m f h =
    let xs = take (place by_number n m) m in
    let zs = drop (suc (place by_number n m)) m in
    subst (λ (l : Map ℕ Part). EncodableAll (part_rows l)) (sym (remove-old numbers n y m f))
    (encodable-without xs zs (n, y) (subst (λ (l : Map ℕ Part). EncodableAll (part_rows l)) (split-found numbers n y m f) h))

none_left : (l : List ℕ) (m : Map ℕ Part) (ys : List Part) → length l ≤ 0 → take_listed (part_list l) m ≡ some ys → (m ≡ []) × (ys ≡ []) × (part_list l ≡ [])
unfolding part_list
none_left [] [] ys h f = let e : ys ≡ [] = cc in (refl, e, refl)
none_left [] (x ∷ m) ys h f = absurd (none-some f)
none_left (b ∷ l) m ys h f = absurd (not-suc-le-zero h)

pub within : (t a : List ℕ) (at base : ℕ) → Region t a at base → (at ≤ length t) × (base ≤ length a)
within t a at base k =
    let l = k.starts in
    let m = k.arena-starts in (
      omega (arith, ap length k.tables, length-append k.before (encode_rows (part_rows k.parts) ++ k.after)),
      omega (arith, ap length k.arena, length-append k.arena-before (contents_of (part_rows k.parts) ++ k.arena-after)),
    )

-- What stands there after some turns: the list's rest names what remains, and comes to the same in the end.
pub record Turned (t a : List ℕ) (at base : ℕ) (list : List ℕ) (k : ListedAt t a at base list) (t' a' : List ℕ) (at' base' : ℕ) (list' : List ℕ) : Type 0 where
  pub rest : ListedAt t' a' at' base' list'
  pub tables : ordered_tables t' a' at' base' list' rest ≡ ordered_tables t a at base list k
  pub arena : ordered_arena t' a' at' base' list' rest ≡ ordered_arena t a at base list k

module _ (t a : List ℕ) (at base : ℕ) (list : List ℕ) (k : ListedAt t a at base list) where
  pub turned_none : Turned t a at base list k t a at base list
  turned_none = record { rest = k; tables = refl; arena = refl }

  -- no part is left
  pub ordered : length list ≤ 0 → (t ≡ ordered_tables t a at base list k) × (a ≡ ordered_arena t a at base list k)
  unfolding part_rows encode_rows contents_of listed_rows ordered_tables ordered_arena
  ordered h =
      let z = none_left list k.region.parts k.listed h k.fits in
      let rows : encode_rows (part_rows k.region.parts) ≡ encode_rows (listed_rows (part_list list) k.listed) =
      ap (λ (m : Map ℕ Part). encode_rows (part_rows m)) z.0 ∙ sym (ap (λ (ns : List ℕ). encode_rows (listed_rows ns k.listed)) z.2) in
      let bytes : contents_of (part_rows k.region.parts) ≡ contents k.listed = ap (λ (m : Map ℕ Part). contents_of (part_rows m)) z.0 ∙ sym (ap contents z.1) in (
        k.region.tables ∙ ap (λ (l : List ℕ). k.region.before ++ (l ++ k.region.after)) rows,
        k.region.arena ∙ ap (λ (l : List ℕ). k.region.arena-before ++ (l ++ k.region.arena-after)) bytes,
      )

  -- the next number's part, brought to the front
  module _ (more : 0 < length list) (n : ℕ) (told : n ≡ from_le (take 2 list)) where
    pub number : First list
    number = first list more k.even

    named : part_list list ≡ n ∷ part_list (drop 2 list)
    named = number.numbers ∙ ap (λ (i : ℕ). i ∷ part_list (drop 2 list)) (sym told)

    abbrev r : Region t a at base
    r = k.region

    abbrev picked : (x : Part) × (ys : List Part) × (lookup by_number n r.parts ≡ some x) × (take_listed (part_list (drop 2 list)) (remove by_number n r.parts) ≡ some ys) × (x ∷ ys ≡ k.listed)
    picked = fit-cons n (part_list (drop 2 list)) r.parts k.listed (ap (λ (ns : List ℕ). take_listed ns r.parts) (sym named) ∙ k.fits)

    pub next-part : PartAt t a at base n
    next-part = record { region = r; part = picked.0; found = picked.2 }

    abbrev x : Part
    x = picked.0

    row-span : length (encode_row (part_row n x)) ≡ head_length
    row-span =
        let m = r.parts in
        (row_here t a at base r (take (place by_number n m) m) (n, x) (drop (suc (place by_number n m)) m) (split-found numbers n x m picked.2)).span

    rows-turned : encode_row (part_row n x) ++ encode_rows (listed_rows (part_list (drop 2 list)) picked.1) ≡ encode_rows (listed_rows (part_list list) k.listed)
    unfolding encode_rows listed_rows
    rows-turned = sym (ap₂ (λ (ns : List ℕ) (ys : List Part). encode_rows (listed_rows ns ys)) named (sym picked.4))

    pub turned-next : (t' a' : List ℕ) (size : ℕ) → Brought t a at base n next-part t' a' size → Turned t a at base list k t' a' (at + head_length) (base + size) (drop 2 list)
    unfolding ordered_tables ordered_arena next-part
    turned-next t' a' size b =
        let row = encode_row (part_row n x) in
        let span : length row ≡ head_length = row-span in
        let l = r.starts in
        let l' = r.arena-starts in
        let z = b.size_is in
        let ns = part_list (drop 2 list) in
        record {
          rest = record {
            region = record {
              parts = remove by_number n r.parts;
              before = r.before ++ row;
              after = r.after;
              tables = b.tables ∙ sym (append_assoc r.before row _);
              starts = omega (arith, length-append r.before row);
              arena-before = r.arena-before ++ x.content;
              arena-after = r.arena-after;
              arena = b.arena ∙ sym (append_assoc r.arena-before x.content _);
              arena-starts = omega (arith, length-append r.arena-before x.content);
              encodable = encodable-remove n x r.parts picked.2 r.encodable;
            };
            listed = picked.1;
            fits = picked.3;
            even = number.even;
          };
          tables =
              append_assoc r.before row (encode_rows (listed_rows ns picked.1) ++ r.after)
              ∙ ap (λ (l : List ℕ). r.before ++ l) (sym (append_assoc row (encode_rows (listed_rows ns picked.1)) r.after) ∙ ap (λ (l : List ℕ). l ++ r.after) rows-turned);
          arena =
              append_assoc r.arena-before x.content (contents picked.1 ++ r.arena-after)
              ∙ ap (λ (l : List ℕ). r.arena-before ++ l) (sym (append_assoc x.content (contents picked.1) r.arena-after) ∙ ap (λ (ys : List Part). contents ys ++ r.arena-after) picked.4);
        }

-- One turn, at byte i of the list.
module _ (t a : List ℕ) (at base : ℕ) (list : List ℕ) (k : ListedAt t a at base list) (t₁ a₁ : List ℕ) (at₁ base₁ i : ℕ) (m : Turned t a at base list k t₁ a₁ at₁ base₁ (drop i list))
    (more : i < length list) where
  rest_more : 0 < length (drop i list)
  rest_more = rw length-drop (omega arith)

  pub number-inside : i + 2 ≤ length list
  number-inside = let h = (first (drop i list) rest_more m.rest.even).inside in omega (arith, length-drop i list)

  module _ (n : ℕ) (told : n ≡ from_le (take 2 (drop i list))) where
    pub turn-part : PartAt t₁ a₁ at₁ base₁ n
    turn-part = next-part t₁ a₁ at₁ base₁ (drop i list) m.rest rest_more n told

    pub turn : (t₂ a₂ : List ℕ) (size : ℕ) → Brought t₁ a₁ at₁ base₁ n turn-part t₂ a₂ size → Turned t a at base list k t₂ a₂ (at₁ + head_length) (base₁ + size) (drop (i + 2) list)
    unfolding turn-part
    turn t₂ a₂ size b =
        let next = turned-next t₁ a₁ at₁ base₁ (drop i list) m.rest rest_more n told t₂ a₂ size b in
        subst (λ (l : List ℕ). Turned t a at base list k t₂ a₂ (at₁ + head_length) (base₁ + size) l) (drop-drop 2 i list)
        (record { rest = next.rest; tables = next.tables ∙ m.tables; arena = next.arena ∙ m.arena })

-- The last turn.
pub turned-all : (t a : List ℕ) (at base : ℕ) (list : List ℕ) (k : ListedAt t a at base list) (t' a' : List ℕ) (at' base' i : ℕ) → Turned t a at base list k t' a' at' base' (drop i list) → length list ≤ i
    → (t' ≡ ordered_tables t a at base list k) × (a' ≡ ordered_arena t a at base list k)
turned-all t a at base list k t' a' at' base' i m h =
    let o = ordered t' a' at' base' (drop i list) m.rest (rw length-drop (omega arith)) in
    (o.0 ∙ m.tables, o.1 ∙ m.arena)
