-- The places of the rows that LIST has: written in the pass that measures, read in that which writes. Assumes nothing.
use Prim.Native.Nat.{ℕ, ◌+◌, ◌*◌, ◌≤◌, ◌<◌}
use mathlib.Core.Path.{◌≡◌, refl, sym, ap, ◌∙◌}
use mathlib.Core.Bool.{Bool, true, false, cond}
use mathlib.Core.Logic.{⊎_elim}
use mathlib.Core.List.{List, ◌++◌}
use native.Mathlib.Nat.{eq-or-lt_of_le}
use native.Mathlib.Omega.{arith}
use lib.ListN.{length, take, drop, length-append, take-append-drop}
use Rattle.base_number.specs.Number.{le, from_le, replaced_at, written}
use Rattle.machine.specs.Map.{Map, records}
use Rattle.machine.specs.Names.{Bytes}
use Rattle.machine.specs.State.{Object, State}
use Rattle.machine.specs.Steps.{is_listed, listed, list_record}
use Rattle.machine.proofs.MapKeep.{records-append}
use Rattle.pairs_stored.specs.Stored.{sum_of}
use Rattle.mem_row.specs.Row.{head_at, path_at, lengths_at, span}
use Rattle.mem_layout.specs.Memory.{Stands}
use Rattle.call_contract.proofs.Noting.{read-before, read_here, keep-front}
use Rattle.call_list.specs.Rows.{record_at, listed_bytes, list_bytes, row_of, ListedAt, AllListed}
use Rattle.call_list.proofs.ObjectRows.{Walked, row_inside, pairs-inside, bytes_next, count_next}
use Rattle.call_list.proofs.Front.{front-grows}

pub no_place : (s : State) (prefix suffix : Bytes) (places : List ℕ) → AllListed s prefix suffix places 0
no_place s prefix suffix places k l = absurd (omega arith)

-- a row measured: where it has a record, its place is the next
module _ (t a : List ℕ) (s : State) (h : Stands t a s) (prefix suffix : Bytes) (places : List ℕ) (i at count size : ℕ) (w : Walked s prefix suffix i at count size) (l : i < length s.O)
    (all : AllListed s prefix suffix places count) (inside : 2 * count + 2 ≤ length places) (small : at < 65536) where
  -- the places after the row's was written
  abbrev noted : List ℕ
  noted = replaced_at places (2 * count) (le 2 at) 2

  pub placed : is_listed prefix suffix (path_at (drop at t)) ≡ true → AllListed s prefix suffix noted (count + 1)
  placed is k m =
      ⊎_elim
      (λ (e : k ≡ count). rw e
      (record {
        object = i;
        within = l;
        place = read_here places (2 * count) at inside small ∙ w.rows;
        before = sym w.counted;
        through = rw is at (count_next t a s h i at w.rows l prefix suffix) ∙ ap (λ (n : ℕ). n + 1) (sym w.counted);
      }))
      (λ (less : k < count).
      let old = all k less in
      record {
        object = old.object;
        within = old.within;
        place = ap from_le (read-before places (le 2 at) (2 * count) (2 * k) 2 (omega arith) (omega arith)) ∙ old.place;
        before = old.before;
        through = old.through;
      })
      (eq-or-lt_of_le (omega arith))

-- The records of the first k -----------------------------------------------------------------------------------------------

module _ (s : State) (prefix suffix : Bytes) where
  abbrev L : Map Bytes Object
  L = listed prefix suffix s.O

  abbrev pub first_records : ℕ → Bytes
  first_records k = records list_record (take k L)

  first-listed : (j k : ℕ) → length (listed prefix suffix (take j s.O)) ≡ k → take k L ≡ listed prefix suffix (take j s.O)
  unfolding listed
  first-listed j k e = keep-front (λ p x. is_listed prefix suffix p) s.O j k e

  records-fewer : (k : ℕ) → length (first_records k) ≤ length (records list_record L)
  records-fewer k =
      omega (
        arith,
        ap length (ap (records list_record) (sym (take-append-drop k L)) ∙ records-append list_record (take k L) (drop k L)),
        length-append (first_records k) (records list_record (drop k L)),
      )

-- the first k records written: the next one goes to `to`
pub record Put (s : State) (prefix suffix : Bytes) (b₀ b : List ℕ) (k to : ℕ) : Type 0 where
  pub within : k ≤ length (listed prefix suffix s.O)
  pub place : to ≡ length (first_records s prefix suffix k)
  pub front : b ≡ first_records s prefix suffix k ++ drop (length (first_records s prefix suffix k)) b₀
  pub same : length b ≡ length b₀

module _ (t a : List ℕ) (s : State) (h : Stands t a s) (prefix suffix : Bytes) (places b₀ b : List ℕ) (k to at : ℕ) (w : Put s prefix suffix b₀ b k to)
    (x : ListedAt s prefix suffix places k) (e : at ≡ row_of s x.object) where
  abbrev j : ℕ
  j = x.object

  place_inside : at + span (head_at (drop at t)) ≤ length t
  place_inside = row_inside t a s h j at e x.within

  place-pairs : sum_of (lengths_at (drop at t)) ≤ (head_at (drop at t)).size
  place-pairs = pairs-inside t a s h j at e x.within

  is-listed : is_listed prefix suffix (path_at (drop at t)) ≡ true
  is-listed = go (is_listed prefix suffix (path_at (drop at t))) (sym x.through ∙ count_next t a s h j at e x.within prefix suffix ∙ ap (λ (n : ℕ). n + cond (is_listed prefix suffix (path_at (drop at t))) 1 0) x.before)
    where
      go : (v : Bool) → k + 1 ≡ k + cond v 1 0 → v ≡ true
      go true q = refl
      go false q = absurd (omega arith)

  next-records : first_records s prefix suffix (k + 1) ≡ first_records s prefix suffix k ++ record_at (drop at t)
  unfolding listed_bytes
  next-records =
      ap (records list_record) (first-listed s prefix suffix (j + 1) (k + 1) x.through)
      ∙ bytes_next t a s h j at e x.within prefix suffix
      ∙ rw (is-listed, ← (first-listed s prefix suffix j k x.before))

  next-length : length (first_records s prefix suffix (k + 1)) ≡ to + length (record_at (drop at t))
  next-length = let p = w.place in omega (arith, ap length next-records, length-append (first_records s prefix suffix k) (record_at (drop at t)))

  put-room : length (list_bytes prefix suffix s) ≤ length b₀ → to + length (record_at (drop at t)) ≤ length b
  put-room room = let p = w.same in omega (arith, next-length, records-fewer s prefix suffix (k + 1))

  -- what the record's writing asks
  pub record-fits : length (list_bytes prefix suffix s) ≤ length b₀
      → (at + span (head_at (drop at t)) ≤ length t) × (to + length (record_at (drop at t)) ≤ length b) × (sum_of (lengths_at (drop at t)) ≤ (head_at (drop at t)).size)
  record-fits room = (place_inside, put-room room, place-pairs)

  pub put_next : (r : ℕ) (b₁ : List ℕ) → k < length (listed prefix suffix s.O)
      → (r ≡ to + length (record_at (drop at t))) × (b₁ ≡ written b to (record_at (drop at t))) → length b₁ ≡ length b → Put s prefix suffix b₀ b₁ (k + 1) r
  put_next r b₁ less told same =
      record {
        within = omega arith;
        place = told.0 ∙ sym next-length;
        front =
            front-grows b₀ b b₁ (first_records s prefix suffix k) (record_at (drop at t)) to w.place w.front told.1
            ∙ ap (λ (y : List ℕ). y ++ drop (length y) b₀) (sym next-records);
        same = same ∙ w.same;
      }
