-- A line of PUT whose arguments were read in the bytes that the store takes. Assumes nothing.
use Prim.Native.Nat.{ℕ}
use mathlib.Core.Path.{◌≡◌, subst}
use mathlib.Core.List.{List}
use mathlib.Core.Option.{none}
use lib.ListN.{take}
use Rattle.std.specs.Prelude.{Option, Some, None}
use Rattle.machine.specs.Names.{Bytes}
use Rattle.machine.specs.Pairs.{Pair, pair_list}
use Rattle.machine.specs.Calls.{Reply, PUT, no_buffers}
use Rattle.call_contract.specs.Made.{Memory, Made}
use Rattle.recording.specs.Entry as entry
use Rattle.recording.specs.Entry.{Entry}
use Rattle.recording.specs.Read.{Reader, both, map_read}
use Rattle.recording.specs.Parse.{number, string, pairs, put_rest, whole}
use Rattle.recording_read.specs.Meant.{closed_meant}
use Rattle.recording_read.specs.declared.Field.{Field}
use Rattle.recording_lists.specs.Packed.{packed_pairs}
use Rattle.recording_arguments.specs.Meant.{map_last, put_meant}
use Rattle.recording_arguments.specs.declared.PutArguments.{PutArguments}
use Rattle.recording_line.proofs.ReadArguments.{no-entry, an-entry}
use Rattle.recording_line.specs.Replayed.{ReplayedAlone}
use Rattle.recording_line.proofs.Lines.{a-line}
use Rattle.recording_line.proofs.CutPairs.{put-made}

-- PUT --------------------------------------------------------------------------------------------------------------------

abbrev FourFields : Type 0
FourFields = ℕ × (Bytes × (Bytes × List Pair))

abbrev put_entry : FourFields → Entry
put_entry a = entry.put a.0 a.1.0 a.1.1.0 a.1.1.1

abbrev put_fields : Reader FourFields
put_fields = both number (both string (both string pairs))

module _ (s p d m l : Bytes) (o : Option (Field PutArguments)) (h : put_meant s p d m o ≡ map_read (map_last packed_pairs) put_fields l) where
  -- what the bytes say
  abbrev said : PutArguments → ℕ × (Bytes × (Bytes × Bytes))
  said a = (a.stamp, (take a.path p, (take a.content d, take a.pairs m)))

  pub no-put : None ≡ closed_meant s o → whole (put_rest l) ≡ none
  unfolding put_rest
  no-put q = no-entry put_entry put_fields (map_last packed_pairs) said s l o h q

  module _ (a : PutArguments) (q : Some a ≡ closed_meant s o) where
    pub a-put : {b b' : Memory} {r : Reply} → Made (PUT a.stamp (take a.path p) (take a.content d) (pair_list (take a.pairs m))) b r b' → ReplayedAlone (whole (put_rest l)) b r b'
    unfolding put_rest
    a-put {b} {b'} {r} k =
        let e = an-entry put_entry put_fields (map_last packed_pairs) said s l o h a q in
        let v = e.value in
        λ x y. a-line x y no_buffers (put_entry v) e.entry
        (put-made v.1.1.1 b r b' v.0 v.1.0 v.1.1.0
        (subst (λ (y : ℕ × (Bytes × (Bytes × Bytes))). Made (PUT y.0 y.1.0 y.1.1.0 (pair_list y.1.1.1)) b r b') e.so k))
