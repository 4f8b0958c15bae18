-- What document 01 says of the state that whole memory stands for: "the rules and ceilings above". Assumes nothing.
use Rattle.std.specs.Prelude.{ℕ, ◌≤◌, ◌<◌, ◌≡◌, true, length}
use Rattle.base_order.specs.Order.{by_bytes}
use Rattle.machine.specs.Map.{by_number, Ascending, Every, total}
use Rattle.machine.specs.Names.{Bytes, stored_path_ok, stamp_ok, stored_part_ok}
use Rattle.machine.specs.Pairs.{kept_ok}
use Rattle.machine.specs.Etags.{Etag, absent, plain, joined}
use Rattle.machine.specs.State.{Object, Part, Upload, State, held, parts_in}

-- "an object's etag is plain or joined, with a count of at most 256"; a digest is 16 bytes
abbrev pub EtagOk : Etag → Type 0
EtagOk absent = ⊥
EtagOk (plain d) = length d ≡ 16
EtagOk (joined d n) = (length d ≡ 16) × (n ≤ 256)

pub record ObjectOk (p : Bytes) (x : Object) : Type 0 where
  pub path : stored_path_ok p ≡ true
  pub stamp : stamp_ok x.created ≡ true
  pub etag : EtagOk x.etag
  pub pairs : kept_ok x.pairs ≡ true

pub record PartOk (n : ℕ) (x : Part) : Type 0 where
  pub number : stored_part_ok n ≡ true
  pub digest : length x.digest ≡ 16

-- "every number in U is from 1 and below N"
pub record UploadOk (N u : ℕ) (x : Upload) : Type 0 where
  pub low : 1 ≤ u
  pub high : u < N
  pub path : stored_path_ok x.path ≡ true
  pub stamp : stamp_ok x.started ≡ true
  pub pairs : kept_ok x.pairs ≡ true
  pub sorted : Ascending by_number x.parts
  pub each : Every PartOk x.parts

-- the rules of all entries, "N is at most 4,294,967,296", and the ceilings: "256 paths in O, 16 uploads in U, 256 parts over all uploads,
-- held at most A"
pub record Valid (A : ℕ) (s : State) : Type 0 where
  pub objects : Ascending by_bytes s.O
  pub object : Every ObjectOk s.O
  pub uploads : Ascending by_number s.U
  pub upload : Every (UploadOk s.N) s.U
  pub first : 1 ≤ s.N
  pub last : s.N ≤ 4294967296
  pub paths : length s.O ≤ 256
  pub opens : length s.U ≤ 16
  pub parts : total parts_in s.U ≤ 256
  pub room : held s ≤ A
