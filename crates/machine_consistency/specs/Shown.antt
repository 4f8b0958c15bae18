-- GET, HEAD and LIST show the last writes before them, and nothing else: the claim about every list of calls. Assumes nothing.
use Rattle.std.specs.Prelude.{ℕ, ◌≡◌, ◌&&◌, cond, List, [], ◌∷◌, ◌++◌, leb, length}
use Rattle.std.proofs.Math.Option.{Option, none, some}
use Rattle.base_order.specs.Order.{by_bytes}
use Rattle.machine.specs.Map.{Map, lookup, records, Ascending}
use Rattle.machine.specs.Names.{Bytes, request_path_ok}
use Rattle.machine.specs.Pairs.{encode_pairs}
use Rattle.machine.specs.Etags.{absent}
use Rattle.machine.specs.State.{Object, fresh}
use Rattle.machine.specs.Calls.{Call, GET, HEAD, LIST, Answer, nothing, metadata, counts, Buffers, buffers, no_buffers, Reply}
use Rattle.machine.specs.Steps.{written, about, listed, list_record}
use Rattle.machine.specs.Lists.{Trace, trace, final}
use Rattle.machine_consistency.specs.LastWrites.{last_write}

-- a refusal, "alone"
abbrev pub refused_by : ℕ → (lent : Buffers) → Reply
refused_by n b = record { result = n; answer = nothing; buffers = b }

-- these bytes at the front of each buffer; 7 where one is too short for them
abbrev pub shown : Answer → (out lent : Buffers) → Reply
shown a out b =
    cond (leb (length out.answer) (length b.answer) && leb (length out.pairs) (length b.pairs))
    (record { result = 0; answer = a; buffers = written out b }) (refused_by 7 b)

-- GET where this stands: its data, its pairs and its metadata; 3 where nothing does
abbrev pub data_shown : (lent : Buffers) → Option Object → Reply
data_shown b none = refused_by 3 b
data_shown b (some x) = shown (about x) (buffers x.content (encode_pairs x.pairs)) b

-- HEAD there: its pairs and its metadata
abbrev pub metadata_shown : (lent : Buffers) → Option Object → Reply
metadata_shown b none = refused_by 3 b
metadata_shown b (some x) = shown (about x) (buffers [] (encode_pairs x.pairs)) b

-- the root has neither data nor pairs
abbrev pub root_shown : (lent : Buffers) → Reply
root_shown b = shown (metadata 0 0 absent 0 0) no_buffers b

-- GET of a path where this stands; 2 answers a path that breaks its rule
abbrev pub get_shows : (path buffer pairsBuffer : Bytes) → Option Object → Reply
get_shows [] b m x = root_shown (buffers b m)
get_shows (c ∷ p) b m x = cond (request_path_ok (c ∷ p)) (data_shown (buffers b m) x) (refused_by 2 (buffers b m))

-- HEAD of it
abbrev pub head_shows : (path pairsBuffer : Bytes) → Option Object → Reply
head_shows [] m x = root_shown (buffers [] m)
head_shows (c ∷ p) m x = cond (request_path_ok (c ∷ p)) (metadata_shown (buffers [] m) x) (refused_by 2 (buffers [] m))

-- LIST of these objects
abbrev pub list_shows : (prefix suffix buffer : Bytes) → Map Bytes Object → Reply
list_shows prefix suffix b o =
    let l = listed prefix suffix o in
    let out = records list_record l in
    shown (counts (length l) (length out)) (buffers out []) (buffers b [])

-- the objects in ascending order of their paths, at each path what its last write left there
pub record Objects (t : Trace) (o : Map Bytes Object) : Type 0 where
  pub sorted : Ascending by_bytes o
  pub each : (p : Bytes) → lookup by_bytes p o ≡ last_write p t

-- there is one such map
abbrev pub OneMap : Type 0
OneMap = (t : Trace) (o o' : Map Bytes Object) → Objects t o → Objects t o' → o ≡ o'

-- Every GET, HEAD and LIST of a trace shows the last writes before it.
pub record ReadsLastWrites (t : Trace) : Type 0 where
  pub get : (before after : Trace) (p b m : Bytes) (r : Reply) → t ≡ before ++ (GET p b m, r) ∷ after → r ≡ get_shows p b m (last_write p before)
  pub head : (before after : Trace) (p m : Bytes) (r : Reply) → t ≡ before ++ (HEAD p m, r) ∷ after → r ≡ head_shows p m (last_write p before)
  pub list : (before after : Trace) (prefix suffix b : Bytes) (r : Reply) → t ≡ before ++ (LIST prefix suffix b, r) ∷ after
      → (o : Map Bytes Object) × Objects before o × (r ≡ list_shows prefix suffix b o)

-- Of every list of calls.
pub record Consistent (A : ℕ) (cs : List Call) : Type 0 where
  -- what stands at each path in the end is what its last write left
  pub objects : Objects (trace A fresh cs) (final A fresh cs).O
  -- and nothing else is read on the way
  pub reads : ReadsLastWrites (trace A fresh cs)
