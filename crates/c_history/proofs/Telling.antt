-- Every reply of 48 bytes is read back as the answer that the machine gave: over a valid state all values fit. Assumes nothing.
use Prim.Native.Nat.{ℕ, min, ◌≤◌}
use mathlib.Core.Path.{◌≡◌, refl, ap}
use mathlib.Core.List.{[], ◌∷◌}
use mathlib.Core.Option.{some}
use native.Mathlib.Nat.{min-le_right}
use native.Mathlib.Omega.{arith}
use borrow.Author.Tests.{leb-true}
use lib.Dec.{ltb}
use lib.ListN.{length}
use Rattle.base_order.specs.Order.{by_bytes}
use Rattle.base_order.proofs.OrderLaws.{bytes}
use Rattle.machine.specs.Map.{lookup, records}
use Rattle.machine.specs.Names.{Bytes, last_upload_number}
use Rattle.machine.specs.Pairs.{encode_pairs}
use Rattle.machine.specs.Digest.{md5, length-md5}
use Rattle.machine.specs.Etags.{Etag, absent, plain, joined}
use Rattle.machine.specs.State.{Object, State, object_length, held}
use Rattle.machine.specs.Calls.{Call, PUT, GET, HEAD, DELETE, COPY, LIST, INITIATE, PART, COMMIT, ABORT, UPLOADS, DELETE-OBJECTS, SWEEP, Answer, Buffers, etag, Outcome}
use Rattle.machine.specs.Steps.{about, object_at, listed, list_record, open_under, upload_record, delete_at, abort_at, due, act}
use Rattle.machine.specs.Valid.{EtagOk, ObjectOk, Valid}
use Rattle.machine.proofs.MapLaws.{every-lookup}
use Rattle.machine.proofs.MapSums.{total-share}
use Rattle.machine.proofs.PairLaws.{kept-few, kept-encoded}
use Rattle.machine.proofs.Outcome.{Then, then-accept, then-else, then-given, then-put}
use Rattle.mem_layout.proofs.TestLaws.{stamp-range}
use Rattle.mem_layout.specs.Memory.{arena_most}
use Rattle.c_reply.specs.Reply.{reply_bytes}
use Rattle.c_reply.specs.ReadBack.{answer_in, metadata_in}
use Rattle.c_reply.proofs.ReadingBack.{EtagFits, metadata-back, etag-back, number-back, counts-back, swept-back}
use Rattle.c_history.proofs.Sizes.{listed-few, listed-bytes, opens-few, opens-bytes, due-few}

-- the answer of an accepted call k is read back from its reply
abbrev pub ReadBack : Call → Answer → Buffers → State → Type 0
ReadBack k a out s = answer_in k (reply_bytes a) ≡ a

etag-fits : (e : Etag) → EtagOk e → EtagFits e
etag-fits absent h = absurd h
etag-fits (plain d) h = h
etag-fits (joined d n) h = let l = h.1 in (h.0, omega arith)

module _ (A : ℕ) (s : State) (small : A ≤ arena_most) (v : Valid A s) where
  object-back : (p : Bytes) (x : Object) → lookup by_bytes p s.O ≡ some x → metadata_in (reply_bytes (about x)) ≡ about x
  unfolding held
  object-back p x e =
      let ok = every-lookup bytes ObjectOk p x s.O v.object e in
      let l = total-share bytes object_length p x s.O e in
      let r = v.room in
      let t = (stamp-range x.created ok.stamp).below in
      let few = kept-few x.pairs ok.pairs in
      let short = kept-encoded x.pairs ok.pairs in
      metadata-back (length x.content) x.created x.etag (length x.pairs) (length (encode_pairs x.pairs)) (omega arith) (omega arith) (etag-fits x.etag ok.etag) (omega arith) (omega arith)

  -- through what GET and HEAD find, the root among it
  found_back : (Q : Answer → Buffers → State → Type 0) (p : Bytes) (k : Object → Outcome)
      → ((x : Object) → metadata_in (reply_bytes (about x)) ≡ about x → Then Q (k x)) → Then Q (object_at s p k)
  unfolding object_at encode_pairs
  found_back Q [] k h = h _ (metadata-back 0 0 absent 0 0 (omega arith) (omega arith) tt (omega arith) (omega arith))
  found_back Q (b ∷ p) k h = then-else _ _ _ _ λ _. then-given _ _ _ _ λ x e. h x (object-back (b ∷ p) x e)

  pub reads-back : (k : Call) → Then (ReadBack k) (act A s k)
  unfolding act delete_at abort_at
  reads-back (PUT t p d ps) = then-else _ _ _ _ λ _. then-put _ A s t p d _ λ _ _. refl
  reads-back (GET p b k) = found_back _ p _ λ x e. then-else _ _ _ _ λ _. then-else _ _ _ _ λ _. then-accept _ _ _ _ e
  reads-back (HEAD p k) = found_back _ p _ λ x e. then-else _ _ _ _ λ _. then-accept _ _ _ _ e
  reads-back (DELETE p) = then-else _ _ _ _ λ _. then-given _ _ _ _ λ x _. then-accept _ _ _ _ refl
  reads-back (COPY t p q) = then-else _ _ _ _ λ _. then-given _ _ _ _ λ x _. then-put _ A s t q x.content x.pairs λ _ _. refl
  reads-back (LIST prefix suffix b) =
      let n = listed-few A s v prefix suffix in
      let w = listed-bytes A s v prefix suffix in
      then-else _ _ _ _ λ _. then-accept _ _ _ _
      (counts-back (length (listed prefix suffix s.O)) (length (records list_record (listed prefix suffix s.O))) (omega arith) (omega arith))
  reads-back (INITIATE t p ps) =
      then-else _ _ _ _ λ _.
      then-else _ _ _ _ λ _.
      then-else _ _ _ _ λ _.
      then-else _ _ _ _ λ l.
      then-accept _ _ _ _ (let n = leb-true s.N last_upload_number l in number-back s.N (omega arith))
  reads-back (PART u n d) =
      then-else _ _ _ _ λ _.
      then-given _ _ _ _ λ x _.
      then-else _ _ _ _ λ _.
      then-else _ _ _ _ λ _.
      then-accept _ _ _ _ (ap etag (etag-back (plain (md5 d)) (length-md5 d)))
  reads-back (COMMIT u ns) = then-given _ _ _ _ λ x _. then-given _ _ _ _ λ xs _. then-else _ _ _ _ λ _. then-accept _ _ _ _ refl
  reads-back (ABORT u) = then-given _ _ _ _ λ x _. then-accept _ _ _ _ refl
  reads-back (UPLOADS prefix b) =
      let n = opens-few A s v prefix in
      let w = opens-bytes A s v prefix in
      then-else _ _ _ _ λ _. then-accept _ _ _ _
      (counts-back (length (open_under prefix s.U)) (length (records upload_record (open_under prefix s.U))) (omega arith) (omega arith))
  reads-back (DELETE-OBJECTS names ps left_over b) = then-else _ _ _ _ λ _. then-else _ _ _ _ λ _. then-else _ _ _ _ λ _. then-accept _ _ _ _ refl
  reads-back (SWEEP t n) =
      let d = length (due t s.U) in
      let few = due-few A s v t in
      then-else _ _ _ _ λ _. then-accept _ _ _ _ (swept-back (min n d) (ltb n d) (omega (arith, min-le_right n d)))
