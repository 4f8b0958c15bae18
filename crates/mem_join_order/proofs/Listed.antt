-- The rows of parts in listed order: as many as the list has numbers, each encodable. Assumes nothing.
use Prim.Native.Nat.{ℕ, suc, ◌/◌}
use mathlib.Core.Path.{◌≡◌, refl, sym, ap, ◌∙◌, subst}
use mathlib.Core.List.{List, [], ◌∷◌, ◌++◌}
use mathlib.Core.Option.{some}
use native.Mathlib.Omega.{arith}
use lib.ListN.{length, take, drop}
use Rattle.mem_row.specs.Row.{Row, encode_rows, contents_of, EncodableAll}
use Rattle.base_order.proofs.OrderLaws.{numbers, compare_self}
use Rattle.machine.specs.Map.{Map, by_number, remove, place}
use Rattle.machine.specs.State.{Part}
use Rattle.machine.specs.Steps.{take_listed, contents}
use Rattle.machine.proofs.Options.{none-some}
use Rattle.machine.proofs.MapPlaces.{split-found}
use Rattle.machine.proofs.ListFits.{fit-cons}
use Rattle.mem_layout.specs.Memory.{part_row, part_rows}
use Rattle.machine.specs.PartLists.{part_list}
use Rattle.mem_join_order.specs.Region.{listed_rows, ListedAt, part_numbers, ordered_tables, ordered_arena}
use Rattle.mem_join_order.specs.Digests.{OrderedAt}
use Rattle.mem_join_order.proofs.Rows.{encodable-append-right, encodable-head}
use Rattle.mem_join_order.proofs.Ordering.{encodable-remove}

-- as many parts as numbers
pub fit_count : (ns : List ℕ) (m : Map ℕ Part) (ys : List Part) → take_listed ns m ≡ some ys → length ns ≡ length ys
fit_count [] [] ys f = let e : [] ≡ ys = cc in ap length e
fit_count [] (e ∷ m) ys f = absurd (none-some f)
fit_count (n ∷ ns) m ys f = let c = fit-cons n ns m ys f in ap suc (fit_count ns (remove by_number n m) c.1 c.3) ∙ ap length c.4

pub listed-encodable : (ns : List ℕ) (m : Map ℕ Part) (ys : List Part) → take_listed ns m ≡ some ys → EncodableAll (part_rows m) → EncodableAll (listed_rows ns ys)
unfolding listed_rows
listed-encodable [] m ys f h = tt
listed-encodable (n ∷ ns) m ys f h =
    let c = fit-cons n ns m ys f in
    let xs = take (place by_number n m) m in
    let zs = drop (suc (place by_number n m)) m in
    let here = subst (λ (l : Map ℕ Part). EncodableAll (part_rows l)) (split-found numbers n c.0 m c.2) h in
    subst (λ (l : List Part). EncodableAll (listed_rows (n ∷ ns) l)) c.4
    (encodable-head (n, c.0) zs (encodable-append-right xs ((n, c.0) ∷ zs) here), listed-encodable ns (remove by_number n m) c.1 c.3 (encodable-remove n c.0 m c.2 h))

module _ (t a : List ℕ) (at base : ℕ) (list : List ℕ) (k : ListedAt t a at base list) where
  pub half : length list / 2 ≡ length k.listed
  half = let e = k.even in omega (arith, fit_count (part_list list) k.region.parts k.listed k.fits)

  pub ordered_at : (t' : List ℕ) → t' ≡ ordered_tables t a at base list k → OrderedAt t' at (length list / 2)
  unfolding ordered_tables
  ordered_at t' e =
      let c = fit_count (part_list list) k.region.parts k.listed k.fits in
      record {
        numbers = part_list list;
        listed = k.listed;
        before = k.region.before;
        after = k.region.after;
        tables = e;
        starts = k.region.starts;
        numbered = omega (arith, half);
        many = sym half;
        encodable = listed-encodable (part_list list) k.region.parts k.listed k.fits k.region.encodable;
      }

  pub ordered-listed : (t' : List ℕ) (e : t' ≡ ordered_tables t a at base list k) → (ordered_at t' e).listed ≡ k.listed
  unfolding ordered_at
  ordered-listed t' e = refl

-- Parts that stand in listed order ---------------------------------------------------------------------------------------

in-order-rows : (m : Map ℕ Part) (ys : List Part) → take_listed (part_numbers m) m ≡ some ys → (part_rows m ≡ listed_rows (part_numbers m) ys) × (contents_of (part_rows m) ≡ contents ys)
unfolding part_numbers part_rows listed_rows contents_of
in-order-rows [] ys f = let e : [] ≡ ys = cc in (refl, ap contents e)
in-order-rows (e ∷ m) ys f =
    let c = fit-cons e.0 (part_numbers m) (e ∷ m) ys f in
    let here : e.1 ≡ c.0 = let z = rw (compare_self e.0) at c.2 in cc in
    let k = in-order-rows m c.1 (rw (compare_self e.0) at c.3) in (
      (λ i. part_row e.0 (here i) ∷ k.0 i) ∙ ap (λ (l : List Part). listed_rows (e.0 ∷ part_numbers m) l) c.4,
      (λ i. (here i).content ++ k.1 i) ∙ ap contents c.4,
    )

pub in_order : (t a : List ℕ) (at base : ℕ) (list : List ℕ) (k : ListedAt t a at base list) → part_list list ≡ part_numbers k.region.parts
    → (t ≡ ordered_tables t a at base list k) × (a ≡ ordered_arena t a at base list k)
unfolding ordered_tables ordered_arena
in_order t a at base list k e =
    let r = k.region in
    let z = in-order-rows r.parts k.listed (ap (λ (ns : List ℕ). take_listed ns r.parts) (sym e) ∙ k.fits) in (
      r.tables ∙ ap (λ (rs : List Row). r.before ++ (encode_rows rs ++ r.after)) (z.0 ∙ ap (λ (ns : List ℕ). listed_rows ns k.listed) (sym e)),
      r.arena ∙ ap (λ (l : List ℕ). r.arena-before ++ (l ++ r.arena-after)) z.1,
    )
