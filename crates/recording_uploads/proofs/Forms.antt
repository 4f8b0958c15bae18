-- Lines of INITIATE and COMMIT whose arguments were read in the bytes that the store takes. Assumes nothing.
use Prim.Native.Nat.{ℕ, ◌<◌}
use mathlib.Core.Path.{◌≡◌, subst}
use mathlib.Core.List.{List}
use mathlib.Core.Option.{none}
use lib.ListN.{take}
use Rattle.std.specs.Prelude.{Option, Some, None}
use Rattle.base_number.specs.Number.{AreBytes}
use Rattle.machine.specs.Names.{Bytes}
use Rattle.machine.specs.Pairs.{Pair, pair_list}
use Rattle.machine.specs.Calls.{Reply, INITIATE, COMMIT, no_buffers}
use Rattle.machine.specs.PartLists.{part_list}
use Rattle.call_contract.specs.Answers.{refused}
use Rattle.call_contract.specs.Made.{Memory, memory, Made}
use Rattle.recording.specs.Entry as entry
use Rattle.recording.specs.Entry.{Entry}
use Rattle.recording.specs.Read.{Reader, both, map_read}
use Rattle.recording.specs.Parse.{number, numbers, string, pairs, initiate_rest, commit_rest, whole}
use Rattle.recording_read.specs.Meant.{closed_meant}
use Rattle.recording_read.specs.declared.Field.{Field}
use Rattle.recording_lists.specs.Packed.{packed, packed_pairs}
use Rattle.recording_arguments.specs.Meant.{map_second, initiate_meant, commit_meant}
use Rattle.recording_arguments.specs.declared.InitiateArguments.{InitiateArguments}
use Rattle.recording_arguments.specs.declared.CommitArguments.{CommitArguments}
use Rattle.recording_line.proofs.ReadArguments.{Entered, no-entry, an-entry}
use Rattle.recording_line.specs.Replayed.{refusal_over, ReplayedAlone}
use Rattle.recording_line.proofs.Lines.{a-line, by_number}
use Rattle.recording_uploads.proofs.Wide.{wide-commit}
use Rattle.recording_uploads.proofs.WideLists.{commit-made}
use Rattle.recording_line.proofs.CutPairs.{initiate-made}

-- INITIATE ---------------------------------------------------------------------------------------------------------------

abbrev ThreeFields : Type 0
ThreeFields = ℕ × (Bytes × List Pair)

abbrev initiate_entry : ThreeFields → Entry
initiate_entry a = entry.initiate a.0 a.1.0 a.1.1

abbrev initiate_fields : Reader ThreeFields
initiate_fields = both number (both string pairs)

module _ (s p m l : Bytes) (o : Option (Field InitiateArguments)) (h : initiate_meant s p m o ≡ map_read (map_second (map_second packed_pairs)) initiate_fields l) where
  -- what the bytes say
  abbrev said_initiate : InitiateArguments → ℕ × (Bytes × Bytes)
  said_initiate a = (a.stamp, (take a.path p, take a.pairs m))

  pub no-initiate : None ≡ closed_meant s o → whole (initiate_rest l) ≡ none
  unfolding initiate_rest
  no-initiate q = no-entry initiate_entry initiate_fields (map_second (map_second packed_pairs)) said_initiate s l o h q

  pub a-initiate : (a : InitiateArguments) → Some a ≡ closed_meant s o → {b b' : Memory} {r : Reply}
      → Made (INITIATE a.stamp (take a.path p) (pair_list (take a.pairs m))) b r b' → ReplayedAlone (whole (initiate_rest l)) b r b'
  unfolding initiate_rest
  a-initiate a q {b} {b'} {r} k =
      let e = an-entry initiate_entry initiate_fields (map_second (map_second packed_pairs)) said_initiate s l o h a q in
      let v = e.value in
      λ x y. a-line x y no_buffers (initiate_entry v) e.entry
      (initiate-made v.1.1 b r b' v.0 v.1.0
      (subst (λ (y : ℕ × (Bytes × Bytes)). Made (INITIATE y.0 y.1.0 (pair_list y.1.1)) b r b') e.so k))

-- COMMIT -----------------------------------------------------------------------------------------------------------------

abbrev commit_entry : ℕ × List ℕ → Entry
commit_entry a = entry.commit a.0 a.1

module _ (s m l : Bytes) (o : Option (Field CommitArguments)) (h : commit_meant s m o ≡ map_read (map_second packed) (both number numbers) l) where
  -- what the bytes say
  abbrev said_commit : CommitArguments → ℕ × Bytes
  said_commit a = (a.upload, take a.list m)

  pub no-commit : None ≡ closed_meant s o → whole (commit_rest l) ≡ none
  unfolding commit_rest
  no-commit q = no-entry commit_entry (both number numbers) (map_second packed) said_commit s l o h q

  module _ (k : CommitArguments) (q : Some k ≡ closed_meant s o) (t a : List ℕ) (bytes : AreBytes t) where
    e : Entered commit_entry (both number numbers) (map_second packed) said_commit s l k
    e = an-entry commit_entry (both number numbers) (map_second packed) said_commit s l o h k q

    pub a-commit : {m' : Memory} {r : Reply} → Made (COMMIT k.upload (part_list (take k.list m))) (memory t a) r m' → ReplayedAlone (whole (commit_rest l)) (memory t a) r m'
    unfolding commit_rest e
    a-commit {m'} {r} d =
        λ b c. a-line b c no_buffers (commit_entry e.value) e.entry
        (commit-made t a bytes e.value.0 e.value.1 r m'
        (subst (λ (y : ℕ × Bytes). Made (COMMIT y.0 (part_list y.1)) (memory t a) r m') e.so d))

    pub a-wide-commit : 4294967295 < k.upload → (n : ℕ) → n ≡ refusal_over 2 (memory t a) → ReplayedAlone (whole (commit_rest l)) (memory t a) (refused n no_buffers) (memory t a)
    unfolding commit_rest e
    a-wide-commit w n i =
        λ b c. a-line b c no_buffers (commit_entry e.value) e.entry
        (by_number i (wide-commit t a bytes e.value.0 e.value.1 (subst (λ (y : ℕ × Bytes). 4294967295 < y.0) e.so w)))
