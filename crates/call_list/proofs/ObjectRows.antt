-- The row of an object, and what LIST writes for it. Assumes nothing.
use Prim.Native.Nat.{ℕ, ◌+◌, ◌-◌, ◌*◌, ◌≤◌, ◌<◌}
use mathlib.Core.Path.{◌≡◌, refl, sym, ap, ◌∙◌}
use mathlib.Core.Bool.{Bool, true, false, cond}
use mathlib.Core.List.{List, [], ◌∷◌, ◌++◌, append-nil}
use native.Mathlib.Numerals.{add-one}
use native.Mathlib.Omega.{arith}
use lib.ListN.{length, take, drop, length-append}
use Rattle.base_number.specs.Number.{le, AreBytes}
use Rattle.base_order.proofs.OrderLaws.{bytes}
use Rattle.machine.specs.Map.{Map, records}
use Rattle.machine.specs.Names.{Bytes}
use Rattle.machine.specs.Pairs.{pairs_held}
use Rattle.machine.specs.Etags.{text}
use Rattle.machine.specs.State.{Object, State}
use Rattle.machine.specs.Steps.{is_listed, listed, list_record}
use Rattle.machine.specs.Valid.{ObjectOk}
use Rattle.machine.proofs.MapKeep.{keep-suc, records-append}
use Rattle.machine.proofs.MapScan.{lookup_key}
use Rattle.machine.proofs.MapLaws.{every-lookup}
use Rattle.pairs_stored.specs.Stored.{pair_bytes, sum_of}
use Rattle.pairs_stored.proofs.StoredLaws.{length-bytes}
use Rattle.mem_row.specs.declared.Head.{Head}
use Rattle.mem_row.specs.Row.{Row, encode_rows, head_at, digest_at, path_at, lengths_at, head_of, span}
use Rattle.mem_row.proofs.RowLaws.{path-back, digest-back}
use Rattle.mem_layout.specs.Header.{header_length}
use Rattle.mem_layout.specs.Memory.{object_rows, Stands, whole, state_of}
use Rattle.mem_layout.proofs.WholeLaws.{whole-stands}
use Rattle.mem_layout.proofs.ObjectLaws.{object-back}
use Rattle.mem_find.proofs.RowsAt.{At, row-at}
use Rattle.mem_find.proofs.PairSizes.{object-pairs-size}
use Rattle.mem_find.proofs.ObjectAt.{blank, entry, row, front, rest, split, next-front}
use Rattle.call_list.specs.Rows.{text_at, record_at, listed_bytes}

module _ (t a : List ℕ) (s : State) (h : Stands t a s) (i at : ℕ) (here : at ≡ header_length + length (encode_rows (object_rows (take i s.O)))) (l : i < length s.O) where
  row_here : At t a s h (front s i) (row s i) (rest s i)
  row_here = row-at t a s h (front s i) (row s i) (rest s i) (split s i l)

  head-here : head_at (drop at t) ≡ head_of (row s i)
  unfolding front
  head-here = ap (λ (n : ℕ). head_at (drop n t)) here ∙ row_here.head

  pub row_inside : at + span (head_at (drop at t)) ≤ length t
  unfolding front
  row_inside = omega (arith, ap (λ (x : Head). span x) head-here, row_here.inside)

  pub row_next : at + span (head_at (drop at t)) ≡ header_length + length (encode_rows (object_rows (take (i + 1) s.O)))
  unfolding front
  row_next =
      let q : header_length + length (encode_rows (front s i ++ (row s i ∷ []))) ≡ at + span (head_at (drop at t)) = omega (arith, row_here.next, ap (λ (x : Head). span x) head-here) in
      sym (ap (λ (rs : List Row). header_length + length (encode_rows rs)) (next-front s i l) ∙ q)

  path-here : path_at (drop at t) ≡ (entry s i).0
  unfolding front
  path-here = ap (λ (n : ℕ). path_at (drop n t)) here ∙ ap path_at row_here.row ∙ path-back (row s i) row_here.encodable _ []

  digest-here : digest_at (drop at t) ≡ (row s i).digest
  unfolding front
  digest-here = ap (λ (n : ℕ). digest_at (drop n t)) here ∙ ap digest_at row_here.row ∙ digest-back (row s i) row_here.encodable _ []

  -- its block: the pairs, then the data
  pairs-here : sum_of (lengths_at (drop at t)) ≡ pairs_held (entry s i).1.pairs
  unfolding front
  pairs-here = object-pairs-size t a s h (front s i) (rest s i) at here (entry s i).0 (entry s i).1 row_here

  block_here : (head_at (drop at t)).size ≡ pairs_held (entry s i).1.pairs + length (entry s i).1.content
  block_here =
      let x = (entry s i).1 in
      ap (λ (y : Head). y.size) head-here ∙ length-append (pair_bytes x.pairs) x.content ∙ ap (λ (n : ℕ). n + length x.content) (length-bytes x.pairs)

  pub pairs-inside : sum_of (lengths_at (drop at t)) ≤ (head_at (drop at t)).size
  pairs-inside = omega (arith, pairs-here, block_here)

  data-here : (head_at (drop at t)).size - sum_of (lengths_at (drop at t)) ≡ length (entry s i).1.content
  data-here = omega (arith, pairs-here, block_here)

  ok : ObjectOk (entry s i).0 (entry s i).1
  ok = every-lookup bytes ObjectOk (entry s i).0 (entry s i).1 s.O h.valid.object (lookup_key bytes blank i s.O h.valid.objects l)

  pub record-here : record_at (drop at t) ≡ list_record (entry s i).0 (entry s i).1
  unfolding record_at text_at list_record
  record-here =
      rw (data-here, head-here, path-here, digest-here)
      (ap (λ (x : Object). length (entry s i).0 ∷ (entry s i).0 ++ (le 4 (length (entry s i).1.content) ++ (le 8 (entry s i).1.created ++ length (text x.etag) ∷ text x.etag))) (object-back (entry s i).1 ok.etag (entry s i).0))

  module _ (prefix suffix : Bytes) where
    abbrev m : Map Bytes Object
    m = listed prefix suffix (take i s.O)

    abbrev more : Map Bytes Object
    more = cond (is_listed prefix suffix (entry s i).0) (entry s i ∷ []) []

    listed_next : listed prefix suffix (take (i + 1) s.O) ≡ m ++ more
    unfolding listed
    listed_next = ap (λ (n : ℕ). listed prefix suffix (take n s.O)) (add-one i) ∙ keep-suc (λ p x. is_listed prefix suffix p) blank i s.O l

    pub bytes_next : records list_record (listed prefix suffix (take (i + 1) s.O)) ≡ records list_record m ++ listed_bytes prefix suffix (drop at t)
    unfolding listed_bytes
    bytes_next =
        ap (records list_record) listed_next
        ∙ records-append list_record m more
        ∙ ap (λ (y : List ℕ). records list_record m ++ y) (rw (path-here, record-here) (go (is_listed prefix suffix (entry s i).0)))
      where
        go : (b : Bool) → records list_record (cond b (entry s i ∷ []) []) ≡ cond b (list_record (entry s i).0 (entry s i).1) []
        go true = append-nil (list_record (entry s i).0 (entry s i).1)
        go false = refl

    pub count_next : length (listed prefix suffix (take (i + 1) s.O)) ≡ length m + cond (is_listed prefix suffix (path_at (drop at t))) 1 0
    count_next = ap length listed_next ∙ length-append m more ∙ ap (λ (n : ℕ). length m + n) (rw path-here (go (is_listed prefix suffix (entry s i).0)))
      where
        go : (b : Bool) → length (cond b (entry s i ∷ []) []) ≡ cond b 1 0
        go true = refl
        go false = refl

-- the first i objects measured: the next row begins at `at`, and LIST has so many records and bytes of them
pub record Walked (s : State) (prefix suffix : Bytes) (i at count size : ℕ) : Type 0 where
  pub within : i ≤ length s.O
  pub rows : at ≡ header_length + length (encode_rows (object_rows (take i s.O)))
  pub counted : count ≡ length (listed prefix suffix (take i s.O))
  pub sized : size ≡ length (records list_record (listed prefix suffix (take i s.O)))
  pub few : count ≤ i
  pub small : size ≤ 307 * i

pub walked_none : (s : State) (prefix suffix : Bytes) → Walked s prefix suffix 0 header_length 0 0
unfolding encode_rows object_rows listed
walked_none s prefix suffix = record { within = omega arith; rows = refl; counted = refl; sized = refl; few = omega arith; small = omega arith }

-- the next row, where there is one
pub record RowHere (t : List ℕ) (s : State) (i at : ℕ) : Type 0 where
  pub more : i < length s.O
  pub few : i < 256
  pub inside : at + span (head_at (drop at t)) ≤ length t
  pub low : at < 65536

module _ (t a : List ℕ) (b : AreBytes t) (whole_is : whole t a ≡ true) (prefix suffix : Bytes) (i at count size : ℕ) (w : Walked (state_of t a) prefix suffix i at count size)
    (objects : ℕ) (e : objects ≡ length (state_of t a).O) where
  abbrev s₀ : State
  s₀ = state_of t a

  abbrev h₀ : Stands t a s₀
  h₀ = whole-stands t a b whole_is

  module _ (l : i < objects) where
    pub row-here : RowHere t s₀ i at
    row-here =
        let more : i < length s₀.O = omega arith in
        let inside = row_inside t a s₀ h₀ i at w.rows more in
        let p = h₀.valid.paths in
        let z = h₀.size in
        record { more = more; few = omega arith; inside = inside; low = omega arith }

    module _ (n : ℕ) (n-is : n ≡ span (head_at (drop at t))) where
      -- it has a record
      pub walked-listed : (k : ℕ) → is_listed prefix suffix (path_at (drop at t)) ≡ true → k ≡ length (record_at (drop at t)) → k ≤ 307 → Walked s₀ prefix suffix (i + 1) (at + n) (count + 1) (size + k)
      unfolding listed_bytes
      walked-listed k is f small =
          let x = w.counted in
          let y = w.sized in
          let p = w.few in
          let q = w.small in
          let r = row-here.more in
          let it : listed_bytes prefix suffix (drop at t) ≡ record_at (drop at t) = rw is in
          record {
            within = omega arith;
            rows = omega (arith, row_next t a s₀ h₀ i at w.rows r);
            counted = omega (arith, rw is at (count_next t a s₀ h₀ i at w.rows r prefix suffix));
            sized = omega (arith, ap length (bytes_next t a s₀ h₀ i at w.rows r prefix suffix), length-append (records list_record (listed prefix suffix (take i s₀.O))) (listed_bytes prefix suffix (drop at t)), ap length it);
            few = omega arith;
            small = omega arith;
          }

      -- it has none
      pub walked-passed : is_listed prefix suffix (path_at (drop at t)) ≡ false → Walked s₀ prefix suffix (i + 1) (at + n) count size
      unfolding listed_bytes
      walked-passed is =
          let x = w.counted in
          let y = w.sized in
          let p = w.few in
          let q = w.small in
          let r = row-here.more in
          let it : listed_bytes prefix suffix (drop at t) ≡ [] = rw is in
          record {
            within = omega arith;
            rows = omega (arith, row_next t a s₀ h₀ i at w.rows r);
            counted = omega (arith, rw is at (count_next t a s₀ h₀ i at w.rows r prefix suffix));
            sized = omega (arith, ap length (bytes_next t a s₀ h₀ i at w.rows r prefix suffix), length-append (records list_record (listed prefix suffix (take i s₀.O))) (listed_bytes prefix suffix (drop at t)), ap length it);
            few = omega arith;
            small = omega arith;
          }
