-- What UPLOADS has of the first uploads, one upload after the other. Assumes nothing.
use Prim.Native.Nat.{ℕ, ◌+◌, ◌<◌}
use mathlib.Core.Path.{◌≡◌, refl, ap, ◌∙◌}
use mathlib.Core.Bool.{Bool, true, false, cond}
use mathlib.Core.List.{[], ◌∷◌, ◌++◌, append-nil}
use native.Mathlib.Numerals.{add-one}
use lib.ListN.{length, get_or, take, length-append}
use Rattle.base_order.specs.Order.{begins}
use Rattle.machine.specs.Map.{Map, records}
use Rattle.machine.specs.Names.{Bytes}
use Rattle.machine.specs.State.{Upload, State}
use Rattle.machine.specs.Steps.{open_under, upload_record}
use Rattle.machine.proofs.MapKeep.{keep-suc, records-append}
use Rattle.call_uploads.specs.Records.{record_of}
use Rattle.call_uploads.proofs.RecordBytes.{length-record}
use Rattle.call_uploads.proofs.UploadRows.{blank}

-- those of the first i uploads that UPLOADS has, and their records
abbrev pub front : State → Bytes → ℕ → Map ℕ Upload
front s prefix i = open_under prefix (take i s.U)

abbrev pub front_bytes : State → Bytes → ℕ → Bytes
front_bytes s prefix i = records upload_record (front s prefix i)

module _ (s : State) (prefix : Bytes) (i : ℕ) (l : i < length s.U) where
  abbrev u : ℕ
  u = (get_or s.U i blank).0

  abbrev x : Upload
  x = (get_or s.U i blank).1

  -- the upload at i, where its path begins with the prefix, and what UPLOADS writes of it
  abbrev more : Map ℕ Upload
  more = cond (begins prefix x.path) ((u, x) ∷ []) []

  abbrev pub entry_bytes : Bytes
  entry_bytes = cond (begins prefix x.path) (upload_record u x) []

  pub front-next : front s prefix (i + 1) ≡ front s prefix i ++ more
  unfolding open_under
  front-next = ap (λ (n : ℕ). front s prefix n) (add-one i) ∙ keep-suc (λ n y. begins prefix y.path) blank i s.U l

  bytes_next : front_bytes s prefix (i + 1) ≡ front_bytes s prefix i ++ entry_bytes
  bytes_next =
      ap (records upload_record) front-next
      ∙ records-append upload_record (front s prefix i) more
      ∙ ap (λ (y : Bytes). front_bytes s prefix i ++ y) (go (begins prefix x.path))
    where
      go : (b : Bool) → records upload_record (cond b ((u, x) ∷ []) []) ≡ cond b (upload_record u x) []
      go true = append-nil (upload_record u x)
      go false = refl

  pub size-next : length (front_bytes s prefix (i + 1)) ≡ length (front_bytes s prefix i) + length entry_bytes
  size-next = ap length bytes_next ∙ length-append (front_bytes s prefix i) entry_bytes

  pub count_next : length (front s prefix (i + 1)) ≡ length (front s prefix i) + cond (begins prefix x.path) 1 0
  count_next = ap length front-next ∙ length-append (front s prefix i) more ∙ ap (λ (n : ℕ). length (front s prefix i) + n) (go (begins prefix x.path))
    where
      go : (b : Bool) → length {A = ℕ × Upload} (cond b ((u, x) ∷ []) []) ≡ cond b 1 0
      go true = refl
      go false = refl

  pub entry_length : length entry_bytes ≡ cond (begins prefix x.path) (15 + length x.path) 0
  unfolding record_of upload_record
  entry_length = go (begins prefix x.path)
    where
      go : (b : Bool) → length (cond b (upload_record u x) []) ≡ cond b (15 + length x.path) 0
      go true = length-record u x.path x.started (length x.parts)
      go false = refl
