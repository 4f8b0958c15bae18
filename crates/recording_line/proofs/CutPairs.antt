-- Pairs with a key or value over 255 bytes are refused as they are with the first 255 of these. Assumes nothing.
use Prim.Native.Nat.{ℕ, ◌≤◌, ◌<◌}
use mathlib.Core.Path.{◌≡◌, refl, sym, ap, ap₂, subst, ◌∙◌}
use mathlib.Core.Bool.{true, false, ◌&&◌}
use mathlib.Core.List.{List, [], ◌∷◌, ◌++◌, map}
use native.Mathlib.Omega.{arith}
use lib.Dec.{leb}
use lib.ListN.{length}
use lib.Seq.{take_all, length-take-le}
use borrow.Author.Tests.{leb-true, leb-false, le-leb, lt-leb}
use Rattle.machine.specs.Names.{Bytes, stamp_ok, new_path_ok}
use Rattle.machine.specs.Pairs.{Pair, key_ok, value_ok, pair_ok, every, pairs_ok, pair_record, pair_list, encode_pairs}
use Rattle.machine.specs.State.{State}
use Rattle.machine.specs.Calls.{Reply, PUT, INITIATE, ◌else◌then◌}
use Rattle.machine.specs.Steps.{act}
use Rattle.machine.proofs.Options.{both}
use Rattle.machine.proofs.PairBytes.{pairs-decode}
use Rattle.call_contract.specs.Made.{Memory, Made}
use Rattle.recording.proofs.Readers.{by-test}
use Rattle.recording_lists.specs.Packed.{cut, counted, counted_pair, packed_pairs}
use Rattle.recording_line.proofs.SameCalls.{same-made}

abbrev cut_pair : Pair → Pair
cut_pair e = (cut e.0, cut e.1)

-- the bytes that the code makes say the pairs that were cut
cut-bytes : (ps : List Pair) → packed_pairs ps ≡ encode_pairs (map cut_pair ps)
unfolding packed_pairs counted_pair counted encode_pairs
cut-bytes [] = refl
cut-bytes (e ∷ ps) = ap (λ (l : Bytes). pair_record (cut e.0) (cut e.1) ++ l) (cut-bytes ps)

cut_list : (ps : List Pair) → pair_list (packed_pairs ps) ≡ map cut_pair ps
cut_list ps = ap pair_list (cut-bytes ps) ∙ pairs-decode (map cut_pair ps)

-- What is cut was out of form, and still is ----------------------------------------------------------------------------

short-or-not : {B : Type 0} (l : Bytes) → (cut l ≡ l → B) → (255 < length l → length (cut l) ≡ 255 → B) → B
short-or-not l f g =
    by-test (leb (length l) 255)
    (λ t. f (take_all 255 l (leb-true (length l) 255 t)))
    (λ t. let h : 255 < length l = leb-false (length l) 255 t in g h (length-take-le 255 l (omega arith)))

long-key : (k : Bytes) → 255 ≤ length k → key_ok k ≡ false
unfolding key_ok
long-key k h = rw (le-leb 1 (length k) (omega arith), lt-leb (length k) 32 (omega arith))

long-value : (v : Bytes) → 255 ≤ length v → value_ok v ≡ false
unfolding value_ok
long-value v h = rw (lt-leb (length v) 64 (omega arith))

same_key : (k : Bytes) → key_ok (cut k) ≡ key_ok k
same_key k = short-or-not k (λ e. ap key_ok e) (λ h l. long-key (cut k) (omega arith) ∙ sym (long-key k (omega arith)))

same-value : (v : Bytes) → value_ok (cut v) ≡ value_ok v
same-value v = short-or-not v (λ e. ap value_ok e) (λ h l. long-value (cut v) (omega arith) ∙ sym (long-value v (omega arith)))

same-form : (ps : List Pair) → every pair_ok (map cut_pair ps) ≡ every pair_ok ps
unfolding pair_ok
same-form [] = refl
same-form (e ∷ ps) = rw (same_key e.0, same-value e.1, same-form ps)

never : {B : Type 0} → false ≡ true → B
never e = let z : ◌≡◌ {A = ℕ} 0 1 = cc in absurd (omega arith)

key-whole : (k : Bytes) → key_ok k ≡ true → cut k ≡ k
key-whole k h = short-or-not k (λ e. e) (λ l m. never (sym (long-key k (omega arith)) ∙ h))

value-whole : (v : Bytes) → value_ok v ≡ true → cut v ≡ v
value-whole v h = short-or-not v (λ e. e) (λ l m. never (sym (long-value v (omega arith)) ∙ h))

nothing-cut : (ps : List Pair) → every pair_ok ps ≡ true → map cut_pair ps ≡ ps
unfolding pair_ok
nothing-cut [] h = refl
nothing-cut (e ∷ ps) h =
    let w = both (pair_ok e) (every pair_ok ps) h in
    let k = both (key_ok e.0) (value_ok e.1) w.0 in
    ap₂ (λ (x : Pair) (l : List Pair). x ∷ l) (λ i. (key-whole e.0 k.0 i, value-whole e.1 k.1 i)) (nothing-cut ps w.1)

bad-pairs : (ps : List Pair) → every pair_ok ps ≡ false → pairs_ok ps ≡ false
unfolding pairs_ok
bad-pairs ps e = rw e

-- both are in form, and the same; or neither is
module _ {B : Type 0} (ps : List Pair) where
  cut-or-bad : (map cut_pair ps ≡ ps → B) → (pairs_ok (map cut_pair ps) ≡ false → pairs_ok ps ≡ false → B) → B
  cut-or-bad f g = by-test (every pair_ok ps) (λ t. f (nothing-cut ps t)) (λ t. g (bad-pairs (map cut_pair ps) (same-form ps ∙ t)) (bad-pairs ps t))

-- The calls with pairs ---------------------------------------------------------------------------------------------------

same-put : (A : ℕ) (s : State) (t : ℕ) (p d : Bytes) (ps : List Pair) → act A s (PUT t p d (map cut_pair ps)) ≡ act A s (PUT t p d ps)
unfolding act ◌else◌then◌
same-put A s t p d ps =
    cut-or-bad ps (λ e. ap (λ (l : List Pair). act A s (PUT t p d l)) e)
    (λ f g. by-test (stamp_ok t && new_path_ok p) (λ w. rw (w, f, g)) (λ w. rw w))

same-initiate : (A : ℕ) (s : State) (t : ℕ) (p : Bytes) (ps : List Pair) → act A s (INITIATE t p (map cut_pair ps)) ≡ act A s (INITIATE t p ps)
unfolding act ◌else◌then◌
same-initiate A s t p ps =
    cut-or-bad ps (λ e. ap (λ (l : List Pair). act A s (INITIATE t p l)) e)
    (λ f g. by-test (stamp_ok t && new_path_ok p) (λ w. rw (w, f, g)) (λ w. rw w))

-- what the store promises of the bytes that the code makes, it promises of the pairs that were recorded
module _ (ps : List Pair) (m : Memory) (r : Reply) (m' : Memory) where
  pub put-made : (t : ℕ) (p d : Bytes) → Made (PUT t p d (pair_list (packed_pairs ps))) m r m' → Made (PUT t p d ps) m r m'
  put-made t p d h =
      same-made (PUT t p d (map cut_pair ps)) (PUT t p d ps) m refl (λ w. same-put _ _ t p d ps) r m'
      (subst (λ (l : List Pair). Made (PUT t p d l) m r m') (cut_list ps) h)

  pub initiate-made : (t : ℕ) (p : Bytes) → Made (INITIATE t p (pair_list (packed_pairs ps))) m r m' → Made (INITIATE t p ps) m r m'
  initiate-made t p h =
      same-made (INITIATE t p (map cut_pair ps)) (INITIATE t p ps) m refl (λ w. same-initiate _ _ t p ps) r m'
      (subst (λ (l : List Pair). Made (INITIATE t p l) m r m') (cut_list ps) h)
