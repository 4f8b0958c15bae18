-- What is noted of the uploads that have a record: four bytes for each. Assumes nothing.
use Rattle.std.specs.Prelude.{ℕ, zero, suc, ◌+◌, ◌*◌, ◌≤◌, ◌<◌, ◌≡◌, List, [], ◌∷◌, ◌++◌, length, take, drop}
use Rattle.std.proofs.Math.Option.{some}
use Rattle.base_number.specs.Number.{le, from_le, replaced_at}
use Rattle.machine.specs.Map.{by_number, lookup}
use Rattle.machine.specs.Names.{Bytes}
use Rattle.machine.specs.State.{Upload, State}
use Rattle.machine.specs.Steps.{open_under}
use Rattle.mem_row.specs.Row.{head_at, span}
use Rattle.mem_find.specs.Places.{upload_row_of}
use Rattle.call_uploads.specs.Records.{record_at}

-- the notes after note k was written: where a row stands, and how many parts its upload has
abbrev pub noted : (notes : List ℕ) (k at parts : ℕ) → List ℕ
noted notes k at parts = replaced_at notes (4 * k) (le 2 at ++ le 2 parts) 4

-- what note k says: where a row stands, and how many parts its upload has
abbrev pub place_noted : (notes : List ℕ) (k : ℕ) → ℕ
place_noted notes k = from_le (take 2 (drop (4 * k) notes))

abbrev pub parts_noted : (notes : List ℕ) (k : ℕ) → ℕ
parts_noted notes k = from_le (take 2 (drop (4 * k + 2) notes))

-- note k is of the upload that has k uploads under the prefix before it: where its row stands, and how many parts it has
pub record NotedAt (s : State) (prefix : Bytes) (notes : List ℕ) (k : ℕ) : Type 0 where
  pub number : ℕ
  pub upload : Upload
  pub found : lookup by_number number s.U ≡ some upload
  pub next : take (k + 1) (open_under prefix s.U) ≡ take k (open_under prefix s.U) ++ ((number, upload) ∷ [])
  pub place : place_noted notes k ≡ (upload_row_of s number).at
  pub parts : parts_noted notes k ≡ length upload.parts

-- each of the first n notes is
abbrev pub AllNoted : (s : State) (prefix : Bytes) (notes : List ℕ) (n : ℕ) → Type 0
AllNoted s prefix notes n = (k : ℕ) → k < n → NotedAt s prefix notes k

-- the rows of the first n notes stand in t
abbrev pub RowsNoted : (t notes : List ℕ) (n : ℕ) → Type 0
RowsNoted t notes n =
    (k : ℕ) → k < n → place_noted notes k + span (head_at (drop (place_noted notes k) t)) ≤ length t

-- the records of the first n notes
unfoldable pub records_noted : (t notes : List ℕ) (n : ℕ) → Bytes
records_noted t notes zero = []
records_noted t notes (suc n) = records_noted t notes n ++ record_at t (place_noted notes n) (parts_noted notes n)
