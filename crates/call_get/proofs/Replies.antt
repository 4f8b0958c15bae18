-- GET's and HEAD's replies: about an object, and over whole memory, by what the path names. Assumes nothing.
use Prim.Native.Nat.{ℕ, ◌≤◌, ◌<◌}
use mathlib.Core.Path.{◌≡◌, refl, sym, ap, ◌∙◌}
use mathlib.Core.Bool.{Bool, true, false}
use mathlib.Core.List.{List, []}
use native.Mathlib.Omega.{arith}
use borrow.Author.Tests.{le-leb, lt-leb, leb-true}
use lib.Dec.{leb}
use lib.ListN.{length}
use Rattle.base_number.specs.Number.{AreBytes}
use Rattle.call_types.specs.declared.Metadata.{Metadata}
use Rattle.call_types.specs.declared.Refusal.{Refusal}
use Rattle.call_types.specs.declared.Refusal.TheVariants.{BufferShort}
use Rattle.std.specs.Prelude.{Result, Ok, Err}
use Rattle.machine.specs.Names.{Bytes}
use Rattle.machine.specs.Pairs.{encode_pairs}
use Rattle.machine.specs.Etags.{absent}
use Rattle.machine.specs.State.{Object, State}
use Rattle.machine.specs.Calls.{GET, HEAD, Answer, metadata, buffers, Reply, Outcome, accept, bufferShort, ◌else◌then◌}
use Rattle.machine.specs.Steps.{act, object_at, over, about, reply_of, after}
use Rattle.mem_layout.specs.Memory.{whole, state_of}
use Rattle.mem_layout.proofs.WholeLaws.{whole-stands}
use Rattle.call_contract.specs.Answers.{metadata_of, get_reply, success}
use Rattle.call_contract.specs.Made.{memory, outcome, Made}
use Rattle.call_contract.proofs.Reading.{reads}
use Rattle.call_get.specs.declared.Named.{Named}
use Rattle.call_get.specs.declared.Named.TheVariants as named
use Rattle.call_get.specs.Named.{named_in, stored_at, Holds, get_step, head_step}
use Rattle.call_get.proofs.Lookups.{Here, named-refused, named-root, object-keeps, named-object, here-holds, here-stored}

-- About an object, with the answer buffers b and c --------------------------------------------------------------------------

module _ (x : Object) (s : State) (b c : Bytes) where
  -- one of the two buffers is short
  pub get-short : (length x.content ≤ length b → length (encode_pairs x.pairs) ≤ length c → ⊥) → get_reply (Err BufferShort) (buffers b c) ≡ reply_of (buffers b c) (get_step s b c x)
  unfolding ◌else◌then◌
  get-short not = go (leb (length x.content) (length b)) refl (leb (length (encode_pairs x.pairs)) (length c)) refl
    where
      go : (h : Bool) → leb (length x.content) (length b) ≡ h → (l : Bool) → leb (length (encode_pairs x.pairs)) (length c) ≡ l → get_reply (Err BufferShort) (buffers b c) ≡ reply_of (buffers b c) (get_step s b c x)
      go true e true f = absurd (not (leb-true _ _ e) (leb-true _ _ f))
      go true e false f = rw (e, f)
      go false e l f = rw e

  pub head-short : length c < length (encode_pairs x.pairs) → get_reply (Err BufferShort) (buffers [] c) ≡ reply_of (buffers [] c) (head_step s c x)
  unfolding ◌else◌then◌
  head-short l = sym (rw (lt-leb (length (encode_pairs x.pairs)) (length c) l))

  module _ (m : Metadata) (told : metadata_of m ≡ about x) (l : length (encode_pairs x.pairs) ≤ length c) (c' : Bytes) (e : c' ≡ over (encode_pairs x.pairs) c) where
    pub get-done : length x.content ≤ length b → (b' : Bytes) → b' ≡ over x.content b → get_reply (Ok m) (buffers b' c') ≡ reply_of (buffers b c) (get_step s b c x)
    unfolding ◌else◌then◌
    get-done h b' q =
        (λ i. success (told i) (buffers (q i) (e i)))
        ∙ sym (rw (le-leb (length x.content) (length b) h, le-leb (length (encode_pairs x.pairs)) (length c) l))

    pub head_done : get_reply (Ok m) (buffers [] c') ≡ reply_of (buffers [] c) (head_step s c x)
    unfolding ◌else◌then◌
    head_done = (λ i. success (told i) (buffers [] (e i))) ∙ sym (rw (le-leb (length (encode_pairs x.pairs)) (length c) l))

  -- the state stays
  pub head-keeps : after s (head_step s c x) ≡ s
  unfolding ◌else◌then◌
  head-keeps = go (leb (length (encode_pairs x.pairs)) (length c))
    where
      go : (fits : Bool) → after s (fits else bufferShort then accept (about x) (buffers [] (encode_pairs x.pairs)) s) ≡ s
      go true = refl
      go false = refl

  pub get_keeps : after s (get_step s b c x) ≡ s
  unfolding ◌else◌then◌
  get_keeps = go (leb (length x.content) (length b)) (leb (length (encode_pairs x.pairs)) (length c))
    where
      go : (fits fit : Bool) → after s (fits else bufferShort then fit else bufferShort then accept (about x) (buffers x.content (encode_pairs x.pairs)) s) ≡ s
      go true true = refl
      go true false = refl
      go false fit = refl

-- Over whole memory ---------------------------------------------------------------------------------------------------------

module _ (t a : List ℕ) (p : Bytes) (r : Result Named Refusal) (told : r ≡ named_in (state_of t a) p) where
  abbrev s : State
  s = state_of t a

  pub get_refused : (b c : Bytes) (x : Refusal) → r ≡ Err x → get_reply (Err x) (buffers b c) ≡ reply_of (buffers b c) (outcome (GET p b c) (memory t a))
  unfolding outcome act
  get_refused b c x e = named-refused s p x (buffers b c) (get_step s b c) (sym told ∙ e)

  pub head-refused : (c : Bytes) (x : Refusal) → r ≡ Err x → get_reply (Err x) (buffers [] c) ≡ reply_of (buffers [] c) (outcome (HEAD p c) (memory t a))
  unfolding outcome act
  head-refused c x e = named-refused s p x (buffers [] c) (head_step s c) (sym told ∙ e)

  module _ (m : Metadata) (about-root : metadata_of m ≡ metadata 0 0 absent 0 0) (e : r ≡ Ok named.Root) where
    pub get-root : (b c : Bytes) → get_reply (Ok m) (buffers b c) ≡ reply_of (buffers b c) (outcome (GET p b c) (memory t a))
    unfolding outcome act ◌else◌then◌ encode_pairs
    get-root b c =
        ap (λ (x : Answer). success x (buffers b c)) about-root
        ∙ sym (ap (reply_of (buffers b c)) (named-root s p (get_step s b c) (sym told ∙ e)) ∙ rw (le-leb 0 (length b) (omega arith), le-leb 0 (length c) (omega arith)))

    pub head-root : (c : Bytes) → get_reply (Ok m) (buffers [] c) ≡ reply_of (buffers [] c) (outcome (HEAD p c) (memory t a))
    unfolding outcome act ◌else◌then◌ encode_pairs
    head-root c =
        ap (λ (x : Answer). success x (buffers [] c)) about-root
        ∙ sym (ap (reply_of (buffers [] c)) (named-root s p (head_step s c) (sym told ∙ e)) ∙ rw (le-leb 0 (length c) (omega arith)))

  -- an object, whose row stands at `at`, with its block at `base`
  module _ (bytes : AreBytes t) (w : whole t a ≡ true) (at base : ℕ) (e : r ≡ Ok (named.Object at base)) where
    here : Here s p at base
    here = named-object s p at base (sym told ∙ e)

    pub holds : Holds t a at base
    holds = here-holds t a bytes w p at base here

    -- what is done of the object that is stored there is done of the one that the path names
    found : (k : Object → Outcome) → object_at s p k ≡ k (stored_at t a at base)
    found k = here.follows k ∙ ap k (sym (here-stored t a bytes w p at base here))

    pub get-found : (b c : Bytes) (x : Reply) → x ≡ reply_of (buffers b c) (get_step s b c (stored_at t a at base)) → x ≡ reply_of (buffers b c) (outcome (GET p b c) (memory t a))
    unfolding outcome act
    get-found b c x q = q ∙ sym (ap (reply_of (buffers b c)) (found (get_step s b c)))

    pub head-found : (c : Bytes) (x : Reply) → x ≡ reply_of (buffers [] c) (head_step s c (stored_at t a at base)) → x ≡ reply_of (buffers [] c) (outcome (HEAD p c) (memory t a))
    unfolding outcome act
    head-found c x q = q ∙ sym (ap (reply_of (buffers [] c)) (found (head_step s c)))

-- the contracts
module _ (t a : List ℕ) (bytes : AreBytes t) (w : whole t a ≡ true) (p : Bytes) where
  pub made-get : (b c : Bytes) (r : Reply) → r ≡ reply_of (buffers b c) (outcome (GET p b c) (memory t a)) → Made (GET p b c) (memory t a) r (memory t a)
  unfolding outcome act
  made-get b c r e = reads (GET p b c) (memory t a) r w (whole-stands t a bytes w) (object-keeps (state_of t a) p (get_step (state_of t a) b c) (λ x. get_keeps x (state_of t a) b c)) e

  pub made-head : (c : Bytes) (r : Reply) → r ≡ reply_of (buffers [] c) (outcome (HEAD p c) (memory t a)) → Made (HEAD p c) (memory t a) r (memory t a)
  unfolding outcome act
  made-head c r e = reads (HEAD p c) (memory t a) r w (whole-stands t a bytes w) (object-keeps (state_of t a) p (head_step (state_of t a) c) (λ x. head-keeps x (state_of t a) [] c)) e
