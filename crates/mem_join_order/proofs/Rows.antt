-- A row among the rows of parts. Assumes nothing.
use Prim.Native.Nat.{ℕ, ◌+◌, ◌≤◌}
use mathlib.Core.Path.{◌≡◌, refl, sym, ap, ◌∙◌, subst}
use mathlib.Core.List.{List, [], ◌∷◌, ◌++◌, append_assoc}
use native.Mathlib.Omega.{arith}
use lib.ListN.{length, drop, length-append}
use lib.Seq.{drop_at}
use Rattle.machine.specs.Map.{Map}
use Rattle.machine.specs.State.{Part}
use Rattle.mem_row.specs.Row.{Row, encode_row, encode_rows, contents_of, head_at, head_of, head_length, Encodable, EncodableAll}
use Rattle.mem_row.proofs.RowLaws.{encode-append, contents-append, encodable-right, length-row, head-back}
use Rattle.mem_layout.specs.Memory.{part_row, part_rows}
use Rattle.mem_find.proofs.Splits.{part-rows-append}
use Rattle.mem_join_order.specs.Region.{Region}

abbrev pub row_bytes : Map ℕ Part → List ℕ
row_bytes m = encode_rows (part_rows m)

abbrev pub data_bytes : Map ℕ Part → List ℕ
data_bytes m = contents_of (part_rows m)

pub row-bytes-append : (xs zs : Map ℕ Part) → row_bytes (xs ++ zs) ≡ row_bytes xs ++ row_bytes zs
row-bytes-append xs zs = ap encode_rows (part-rows-append xs zs) ∙ encode-append (part_rows xs) (part_rows zs)

pub data-bytes-append : (xs zs : Map ℕ Part) → data_bytes (xs ++ zs) ≡ data_bytes xs ++ data_bytes zs
data-bytes-append xs zs = ap contents_of (part-rows-append xs zs) ∙ contents-append (part_rows xs) (part_rows zs)

pub row-bytes-cons : (e : ℕ × Part) (zs : Map ℕ Part) → row_bytes (e ∷ zs) ≡ encode_row (part_row e.0 e.1) ++ row_bytes zs
unfolding part_rows encode_rows
row-bytes-cons e zs = refl

pub data-bytes-cons : (e : ℕ × Part) (zs : Map ℕ Part) → data_bytes (e ∷ zs) ≡ e.1.content ++ data_bytes zs
unfolding part_rows contents_of
data-bytes-cons e zs = refl

pub encodable-append-right : (xs zs : Map ℕ Part) → EncodableAll (part_rows (xs ++ zs)) → EncodableAll (part_rows zs)
encodable-append-right xs zs f = encodable-right (part_rows xs) (part_rows zs) (subst EncodableAll (part-rows-append xs zs) f)

pub encodable-without : (xs zs : Map ℕ Part) (e : ℕ × Part) → EncodableAll (part_rows (xs ++ (e ∷ zs))) → EncodableAll (part_rows (xs ++ zs))
unfolding part_rows
encodable-without [] zs e f = f.1
encodable-without (x ∷ xs) zs e f = (f.0, encodable-without xs zs e f.1)

pub encodable-head : (e : ℕ × Part) (zs : Map ℕ Part) → EncodableAll (part_rows (e ∷ zs)) → Encodable (part_row e.0 e.1)
unfolding part_rows
encodable-head e zs f = f.0

-- one part more
pub length-rows-snoc : (xs : Map ℕ Part) (e : ℕ × Part) → length (encode_row (part_row e.0 e.1)) ≡ head_length → length (row_bytes (xs ++ (e ∷ []))) ≡ length (row_bytes xs) + head_length
unfolding part_rows encode_rows
length-rows-snoc xs e span =
    omega (arith, ap length (row-bytes-append xs (e ∷ [])), length-append (row_bytes xs) (row_bytes (e ∷ [])), length-append (encode_row (part_row e.0 e.1)) [])

pub length-data-snoc : (xs : Map ℕ Part) (e : ℕ × Part) → length (data_bytes (xs ++ (e ∷ []))) ≡ length (data_bytes xs) + length e.1.content
unfolding part_rows contents_of
length-data-snoc xs e = omega (arith, ap length (data-bytes-append xs (e ∷ [])), length-append (data_bytes xs) (data_bytes (e ∷ [])), length-append e.1.content [])

-- the row of part e, after those of xs
pub record Here (t a : List ℕ) (at base : ℕ) (xs : Map ℕ Part) (e : ℕ × Part) : Type 0 where
  pub span : length (encode_row (part_row e.0 e.1)) ≡ head_length
  pub inside : at + length (row_bytes xs) + head_length ≤ length t
  pub head : head_at (drop (at + length (row_bytes xs)) t) ≡ head_of (part_row e.0 e.1)
  pub arena-inside : base + length (data_bytes xs) + length e.1.content ≤ length a

module _ (t a : List ℕ) (at base : ℕ) (k : Region t a at base) (xs : Map ℕ Part) (e : ℕ × Part) (zs : Map ℕ Part) (split : k.parts ≡ xs ++ (e ∷ zs)) where
  abbrev row : Row
  row = part_row e.0 e.1

  pub tables-split : t ≡ k.before ++ (row_bytes xs ++ (encode_row row ++ (row_bytes zs ++ k.after)))
  tables-split =
      k.tables
      ∙ ap (λ (l : List ℕ). k.before ++ (l ++ k.after)) (ap row_bytes split ∙ row-bytes-append xs (e ∷ zs) ∙ ap (λ (l : List ℕ). row_bytes xs ++ l) (row-bytes-cons e zs))
      ∙ simp append_assoc

  pub arena-split : a ≡ k.arena-before ++ (data_bytes xs ++ (e.1.content ++ (data_bytes zs ++ k.arena-after)))
  arena-split =
      k.arena
      ∙ ap (λ (l : List ℕ). k.arena-before ++ (l ++ k.arena-after)) (ap data_bytes split ∙ data-bytes-append xs (e ∷ zs) ∙ ap (λ (l : List ℕ). data_bytes xs ++ l) (data-bytes-cons e zs))
      ∙ simp append_assoc

  row-encodable : Encodable row
  row-encodable = encodable-head e zs (encodable-append-right xs (e ∷ zs) (subst (λ (m : Map ℕ Part). EncodableAll (part_rows m)) split k.encodable))

  pub row_here : Here t a at base xs e
  row_here =
      let rest = row_bytes zs ++ k.after in
      let span : length (encode_row row) ≡ head_length = length-row row row-encodable in
      let front : length (k.before ++ row_bytes xs) ≡ at + length (row_bytes xs) = omega (arith, length-append k.before (row_bytes xs), k.starts) in
      let told : t ≡ (k.before ++ row_bytes xs) ++ (encode_row row ++ rest) = tables-split ∙ sym (append_assoc k.before (row_bytes xs) (encode_row row ++ rest)) in
      record {
        span = span;
        inside = omega (arith, ap length told, length-append (k.before ++ row_bytes xs) (encode_row row ++ rest), length-append (encode_row row) rest);
        head = ap head_at (ap (drop (at + length (row_bytes xs))) told ∙ drop_at (k.before ++ row_bytes xs) (encode_row row ++ rest) (at + length (row_bytes xs)) front) ∙ head-back row row-encodable rest [];
        arena-inside = omega (
          arith,
          ap length arena-split,
          length-append k.arena-before (data_bytes xs ++ (e.1.content ++ (data_bytes zs ++ k.arena-after))),
          length-append (data_bytes xs) (e.1.content ++ (data_bytes zs ++ k.arena-after)),
          length-append e.1.content (data_bytes zs ++ k.arena-after),
          k.arena-starts,
        );
      }
