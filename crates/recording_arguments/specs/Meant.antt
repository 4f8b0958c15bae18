-- What the answers of the arguments' readers say. Assumes nothing.
use Rattle.std.specs.Prelude.{ℕ, ◌≤◌, take, Option, Some, None}
use Rattle.machine.specs.Names.{Bytes}
use Rattle.recording.specs.Read.{Read}
use Rattle.recording_read.specs.Meant.{meant}
use Rattle.recording_read.specs.declared.Field.{Field}
use Rattle.recording_arguments.specs.declared.CopyArguments.{CopyArguments}
use Rattle.recording_arguments.specs.declared.CommitArguments.{CommitArguments}
use Rattle.recording_arguments.specs.declared.ListArguments.{ListArguments}
use Rattle.recording_arguments.specs.declared.InitiateArguments.{InitiateArguments}
use Rattle.recording_arguments.specs.declared.PartArguments.{PartArguments}
use Rattle.recording_arguments.specs.declared.PutArguments.{PutArguments}

-- COPY's arguments
abbrev pub copy_meant : (s source destination : Bytes) → Option (Field CopyArguments) → Read (ℕ × (Bytes × Bytes))
copy_meant s p q = meant (λ a. (a.stamp, (take a.source p, take a.destination q))) s

abbrev pub CopyFits : Option (Field CopyArguments) → (source destination : ℕ) → Type 0
CopyFits (Some r) i j = (r.value.source ≤ i) × (r.value.destination ≤ j)
CopyFits None i j = Unit {0}

-- PUT's arguments, with the pairs in the bytes that the store takes
abbrev pub map_last : {X Y Z W U : Type 0} → (W → U) → X × (Y × (Z × W)) → X × (Y × (Z × U))
map_last f a = (a.0, (a.1.0, (a.1.1.0, f a.1.1.1)))

abbrev pub put_meant : (s path content pairs : Bytes) → Option (Field PutArguments) → Read (ℕ × (Bytes × (Bytes × Bytes)))
put_meant s p d m = meant (λ a. (a.stamp, (take a.path p, (take a.content d, take a.pairs m)))) s

abbrev pub PutFits : Option (Field PutArguments) → (path content pairs : ℕ) → Type 0
PutFits (Some r) x y z = (r.value.path ≤ x) × (r.value.content ≤ y) × (r.value.pairs ≤ z)
PutFits None x y z = Unit {0}

-- COMMIT's arguments, with the list in the bytes that the store takes
abbrev pub map_second : {X Y U : Type 0} → (Y → U) → X × Y → X × U
map_second f a = (a.0, f a.1)

abbrev pub commit_meant : (s list : Bytes) → Option (Field CommitArguments) → Read (ℕ × Bytes)
commit_meant s o = meant (λ a. (a.upload, take a.list o)) s

abbrev pub commit_length : Option (Field CommitArguments) → ℕ
commit_length (Some r) = r.value.list
commit_length None = 0

-- LIST's arguments
abbrev pub list_meant : (s prefix suffix : Bytes) → Option (Field ListArguments) → Read (Bytes × Bytes)
list_meant s p q = meant (λ a. (take a.prefix p, take a.suffix q)) s

abbrev pub ListFits : Option (Field ListArguments) → (prefix suffix : ℕ) → Type 0
ListFits (Some r) i j = (r.value.prefix ≤ i) × (r.value.suffix ≤ j)
ListFits None i j = Unit {0}

-- INITIATE's arguments, with the pairs in the bytes that the store takes
abbrev pub initiate_meant : (s path pairs : Bytes) → Option (Field InitiateArguments) → Read (ℕ × (Bytes × Bytes))
initiate_meant s p m = meant (λ a. (a.stamp, (take a.path p, take a.pairs m))) s

abbrev pub InitiateFits : Option (Field InitiateArguments) → (path pairs : ℕ) → Type 0
InitiateFits (Some r) x y = (r.value.path ≤ x) × (r.value.pairs ≤ y)
InitiateFits None x y = Unit {0}

-- PART's arguments
abbrev pub part_meant : (s content : Bytes) → Option (Field PartArguments) → Read (ℕ × (ℕ × Bytes))
part_meant s d = meant (λ a. (a.upload, (a.number, take a.content d))) s

abbrev pub part_length : Option (Field PartArguments) → ℕ
part_length (Some r) = r.value.content
part_length None = 0
