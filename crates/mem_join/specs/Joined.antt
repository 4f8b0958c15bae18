-- An upload whose parts a list names, joined into an object. Assumes nothing.
use Rattle.std.specs.Prelude.{ℕ, ◌≡◌, Bool, true, List, ◌++◌, length, take, drop}
use Rattle.std.proofs.Math.Option.{some}
use Rattle.base_md5.specs.Md5.{bytes_of}
use Rattle.machine.specs.Map.{by_number, lookup}
use Rattle.machine.specs.Names.{Bytes}
use Rattle.machine.specs.Digest.{md5}
use Rattle.machine.specs.State.{Part, Upload, State, held, with_object, without_upload}
use Rattle.machine.specs.Steps.{take_listed, contents, digests, joined_object}
use Rattle.machine.specs.Valid.{Valid}
use Rattle.pairs_stored.specs.Stored.{pair_lengths, pair_bytes}
use Rattle.mem_layout.specs.Memory.{rows_of, whole, state_of, Stands}
use Rattle.mem_find.specs.declared.Lookup.{Lookup}
use Rattle.mem_find.specs.Places.{place_after, object_place}
use Rattle.mem_find.specs.Known.{OfOpen}
use Rattle.machine.specs.PartLists.{part_list}
use Rattle.mem_join_order.specs.Region.{InOrder}
use Rattle.mem_join.specs.declared.Bounds.{Bounds}
use Rattle.mem_join.specs.declared.Taken.{Taken}
use Rattle.mem_join.specs.Bounds.{bounds_of}

-- upload u is open, and the numbers name each of its parts one time
pub record Listed (s : State) (u : ℕ) (numbers : List ℕ) : Type 0 where
  pub upload : Upload
  pub found : lookup by_number u s.U ≡ some upload
  pub listed : List Part
  pub fits : take_listed numbers upload.parts ≡ some listed

-- O at the upload's path becomes its parts joined in listed order, and the upload leaves U
abbrev pub joined_state : (s : State) (u : ℕ) (numbers : List ℕ) → Listed s u numbers → State
joined_state s u numbers k = without_upload (with_object s k.upload.path (joined_object k.upload k.listed)) u

-- t' and a' stand for the state that t and a stood for, with the parts joined
abbrev pub Joins : (t a t' a' : List ℕ) (u : ℕ) (list : Bytes) → Listed (state_of t a) u (part_list list) → Type 0
Joins t a t' a' u list k = Stands t' a' (joined_state (state_of t a) u (part_list list) k)

-- b are the bounds of the open upload u, place is what the lookup of its path answers, and InOrder holds of its parts
abbrev pub JoinPlaced : (t a : List ℕ) (u : ℕ) → Bounds → Lookup → (list : Bytes) (ascends : Bool) → Type 0
JoinPlaced t a u b place list ascends =
    OfOpen t a u (λ s x. (b ≡ bounds_of s u x) × (place ≡ object_place s x.path) × InOrder ascends list x.parts)

-- what `join` asks
pub record Joinable (t a : List ℕ) (u : ℕ) (b : Bounds) (place : Lookup) (list : Bytes) (ascends : Bool) : Type 0 where
  pub is_whole : whole t a ≡ true
  pub placed : JoinPlaced t a u b place list ascends
  pub listed : Listed (state_of t a) u (part_list list)
  pub valid : Valid (length a) (joined_state (state_of t a) u (part_list list) listed)

-- the same, where the upload's path and its start stamp are at hand
pub record JoinableAt (t a : List ℕ) (u : ℕ) (b : Bounds) (place : Lookup) (list : Bytes) (ascends : Bool) (path : Bytes) (stamp : ℕ) : Type 0 where
  pub joinable : Joinable t a u b place list ascends
  pub path-is : path ≡ joinable.listed.upload.path
  pub stamp-is : stamp ≡ joinable.listed.upload.started

-- the same, and the lengths of its pairs
pub record JoinableWith (t a : List ℕ) (u : ℕ) (b : Bounds) (place : Lookup) (list : Bytes) (ascends : Bool) (path lengths : Bytes) (stamp : ℕ) : Type 0 where
  pub at_path : JoinableAt t a u b place list ascends path stamp
  pub lengths-are : lengths ≡ pair_lengths at_path.joinable.listed.upload.pairs

-- the upload is out, the block of the object stands after the last byte held, the upload's pairs, then its parts' data in
-- listed order, and the rows that are left end at r.end
pub record TakenOut (t a : List ℕ) (u : ℕ) (list : Bytes) (k : Listed (state_of t a) u (part_list list)) (t' a' : List ℕ) (r : Taken) : Type 0 where
  pub stands : Stands t' a' (without_upload (state_of t a) u)
  pub content : take r.size (drop (held (without_upload (state_of t a) u)) a') ≡ pair_bytes k.upload.pairs ++ contents k.listed
  pub size_is : r.size ≡ length (pair_bytes k.upload.pairs ++ contents k.listed)
  pub count-is : r.count ≡ length k.listed
  pub digest-is : bytes_of r.digest ≡ md5 (digests k.listed)
  pub end_is : r.end ≡ place_after (rows_of (without_upload (state_of t a) u))
