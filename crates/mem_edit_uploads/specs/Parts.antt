-- A part put into an open upload. Assumes nothing.
use Rattle.std.specs.Prelude.{ℕ, ◌≡◌, true, List, length}
use Rattle.std.proofs.Math.Option.{some}
use Rattle.base_md5.specs.declared.words.Digest.{Digest}
use Rattle.base_md5.specs.Md5.{bytes_of}
use Rattle.machine.specs.Map.{by_number, lookup}
use Rattle.machine.specs.State.{Part, Upload, with_upload, with_part}
use Rattle.machine.specs.Valid.{Valid}
use Rattle.mem_layout.specs.Memory.{whole, state_of, Stands}
use Rattle.mem_find.specs.declared.Lookup.{Lookup}
use Rattle.mem_find.specs.declared.RowPlace.{RowPlace}
use Rattle.mem_find.specs.Places.{place_after, part_place}
use Rattle.mem_find.specs.Known.{rows_in, OfOpen}

abbrev pub part_with : Digest → (content : List ℕ) → Part
part_with digest content = record { content = content; digest = bytes_of digest }

-- t' and a' stand for the state that t and a stood for, its open upload u changed by f
abbrev pub UploadBecomes : (t a t' a' : List ℕ) (u : ℕ) → (Upload → Upload) → Type 0
UploadBecomes t a t' a' u f = OfOpen t a u (λ s x. Stands t' a' (with_upload s u (f x)))

-- place is what the lookup of part n of the open upload u answers, and end the end of the rows
abbrev pub PartPlaced : (t a : List ℕ) (u n : ℕ) → Lookup → RowPlace → Type 0
PartPlaced t a u n place end = OfOpen t a u (λ s x. place ≡ part_place s u x n) × (end ≡ place_after (rows_in t a))

-- upload u is open, and the state with this part keeps the rules and ceilings
pub record PartPuttable (t a : List ℕ) (u n : ℕ) (digest : Digest) (content : List ℕ) : Type 0 where
  pub is_whole : whole t a ≡ true
  pub upload : Upload
  pub is_open : lookup by_number u (state_of t a).U ≡ some upload
  pub valid : Valid (length a) (with_upload (state_of t a) u (with_part upload n (part_with digest content)))
