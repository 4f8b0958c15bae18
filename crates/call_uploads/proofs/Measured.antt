-- The uploads measured one by one. Assumes nothing.
use Prim.Native.Nat.{ℕ, ◌+◌, ◌-◌, ◌*◌, ◌≤◌, ◌<◌}
use mathlib.Core.Path.{◌≡◌, refl, ap, ◌∙◌}
use mathlib.Core.Bool.{true, false}
use mathlib.Core.List.{List}
use mathlib.Core.Option.{some}
use native.Mathlib.Omega.{arith}
use lib.ListN.{length, get_or, take, drop}
use Rattle.base_order.specs.Order.{begins}
use Rattle.base_number.specs.Number.{AreBytes}
use Rattle.machine.specs.Map.{is_some, by_number, lookup}
use Rattle.machine.specs.Names.{Bytes}
use Rattle.machine.specs.State.{Upload, State}
use Rattle.machine.specs.Steps.{open_under}
use Rattle.mem_find.specs.declared.RowPlace.{RowPlace}
use Rattle.call_uploads.specs.declared.rows.OpenUpload.{OpenUpload}
use Rattle.mem_find.specs.Places.{upload_row_of}
use Rattle.mem_layout.specs.Memory.{whole, state_of, Stands}
use Rattle.mem_layout.proofs.WholeLaws.{whole-stands}
use Rattle.call_uploads.specs.Rows.{upload_row_place, number_at, RowRead}
use Rattle.call_uploads.proofs.UploadRows.{blank, Entry, row_low, row_open, row-place, entry}
use Rattle.call_uploads.proofs.Fronts.{front, front_bytes, entry_bytes, size-next, count_next, entry_length}

-- the first i uploads measured: the next row stands at `here`, and UPLOADS has so many records and bytes of them
pub record Measured (s : State) (prefix : Bytes) (i : ℕ) (here : RowPlace) (count size : ℕ) : Type 0 where
  pub within : i ≤ length s.U
  pub rows : here ≡ upload_row_place s i
  pub counted : count ≡ length (front s prefix i)
  pub sized : size ≡ length (front_bytes s prefix i)
  pub few : count ≤ i
  pub small : size ≤ 143 * i

pub measured-none : (s : State) (prefix : Bytes) (here : RowPlace) → here ≡ upload_row_place s 0 → Measured s prefix 0 here 0 0
unfolding open_under
measured-none s prefix here e = record { within = omega arith; rows = e; counted = refl; sized = refl; few = omega arith; small = omega arith }

-- the next upload, where there is one
pub record UploadHere (t : List ℕ) (s : State) (i : ℕ) (here : RowPlace) : Type 0 where
  pub more : i < length s.U
  pub few : i < 16
  pub low : here.at < 65536
  pub open_here : is_some (lookup by_number (number_at t here) s.U) ≡ true
  pub place : here ≡ upload_row_of s (number_at t here)
  pub read : (r : OpenUpload) → ((y : Upload) → lookup by_number (number_at t here) s.U ≡ some y → RowRead t s here y r) → Entry t s i r

module _ (t a : List ℕ) (b : AreBytes t) (whole_is : whole t a ≡ true) (prefix : Bytes) (i : ℕ) (here : RowPlace) (count size : ℕ) (w : Measured (state_of t a) prefix i here count size)
    (uploads : ℕ) (e : uploads ≡ length (state_of t a).U) (l : i < uploads) where
  abbrev s₀ : State
  s₀ = state_of t a

  abbrev h₀ : Stands t a s₀
  h₀ = whole-stands t a b whole_is

  pub upload-here : UploadHere t s₀ i here
  upload-here =
      let more : i < length s₀.U = omega arith in
      record {
        more = more;
        few = omega (arith, h₀.valid.opens);
        low = row_low t a s₀ h₀ i here w.rows more;
        open_here = row_open t a s₀ h₀ i here w.rows more;
        place = row-place t a s₀ h₀ i here w.rows more;
        read = entry t a s₀ h₀ i here w.rows more;
      }

  module _ (r : OpenUpload) (it : Entry t s₀ i r) where
    abbrev path : Bytes
    path = take (r.to - r.from) (drop r.from t)

    abbrev path_there : Bytes
    path_there = (get_or s₀.U i blank).1.path

    -- it has a record
    pub measured-listed : (k : ℕ) → begins prefix path ≡ true → k ≡ 15 + length path → Measured s₀ prefix (i + 1) r.next (count + 1) (size + k)
    measured-listed k is f =
        let m = upload-here.more in
        let is' : begins prefix path_there ≡ true = rw it.path at is in
        let z = it.short in
        let n : length (entry_bytes s₀ prefix i m) ≡ 15 + length path_there = entry_length s₀ prefix i m ∙ rw is' in
        record {
          within = omega arith;
          rows = it.next;
          counted = omega (arith, w.counted, rw is' at (count_next s₀ prefix i m));
          sized = omega (arith, w.sized, size-next s₀ prefix i m, n, ap length it.path);
          few = omega (arith, w.few);
          small = omega (arith, w.small, ap length it.path);
        }

    -- it has none
    pub measured-passed : begins prefix path ≡ false → Measured s₀ prefix (i + 1) r.next count size
    measured-passed is =
        let m = upload-here.more in
        let is' : begins prefix path_there ≡ false = rw it.path at is in
        let n : length (entry_bytes s₀ prefix i m) ≡ 0 = entry_length s₀ prefix i m ∙ rw is' in
        record {
          within = omega arith;
          rows = it.next;
          counted = omega (arith, w.counted, rw is' at (count_next s₀ prefix i m));
          sized = omega (arith, w.sized, size-next s₀ prefix i m, n);
          few = omega (arith, w.few);
          small = omega (arith, w.small);
        }
