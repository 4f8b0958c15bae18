-- PUT: what its judge and its step meet. Assumes nothing.
use Prim.Native.Nat.{ℕ}
use mathlib.Core.Path.{◌≡◌, sym, ap, ◌∙◌, subst}
use mathlib.Core.Bool.{true, false, ◌&&◌}
use mathlib.Core.List.{List}
use lib.ListN.{length}
use Rattle.base_number.specs.Number.{AreBytes}
use Rattle.base_md5.specs.declared.words.Digest.{Digest}
use Rattle.base_md5.specs.Md5.{md5}
use Rattle.machine.specs.Names.{Bytes, stamp_ok, new_path_ok}
use Rattle.machine.specs.Pairs.{Pair, pairs_ok, pair_map}
use Rattle.machine.specs.State.{Object, State, with_object}
use Rattle.machine.specs.Calls.{PUT, nothing, no_buffers, accept, badRequest}
use Rattle.machine.specs.Steps.{plain_object, put_at, act, after}
use Rattle.machine.specs.Valid.{Valid}
use Rattle.machine.proofs.Options.{both}
use Rattle.machine.proofs.KeepsValid.{next-valid}
use Rattle.mem_layout.specs.Memory.{whole, state_of, Stands}
use Rattle.mem_layout.proofs.WholeLaws.{whole-stands}
use Rattle.mem_edit.specs.Objects.{plain_with}
use Rattle.mem_edit.proofs.PlainObjects.{plain-is}
use Rattle.call_room.proofs.PutAt.{put-at-accepted}
use Rattle.call_contract.specs.Made.{Memory, memory, state_in, outcome, result_of}
use Rattle.call_contract.proofs.Judging.{result-pass, result-stop, passed}

-- PUT over the memory m
module _ (m : Memory) (t : ℕ) (p d : Bytes) (ps : List Pair) where
  abbrev A : ℕ
  A = length m.arena

  abbrev after-put : State
  after-put = with_object (state_in m) p (plain_object t d (pair_map ps))

  pub put-bad : (stamp_ok t && new_path_ok p && pairs_ok ps) ≡ false → 2 ≡ result_of (outcome (PUT t p d ps) m)
  unfolding outcome act
  put-bad e = sym (result-stop (stamp_ok t && new_path_ok p && pairs_ok ps) badRequest (put_at A (state_in m) t p d (pair_map ps)) e)

  pub put-judged : stamp_ok t ≡ true → new_path_ok p ≡ true → pairs_ok ps ≡ true → (r : ℕ) → r ≡ result_of (put_at A (state_in m) t p d (pair_map ps)) → r ≡ result_of (outcome (PUT t p d ps) m)
  unfolding outcome act
  put-judged e f g r is = is ∙ sym (result-pass (stamp_ok t && new_path_ok p && pairs_ok ps) badRequest (put_at A (state_in m) t p d (pair_map ps)) (rw (e, f, g)))

  -- result 0
  pub put-accepted : result_of (outcome (PUT t p d ps) m) ≡ 0 → outcome (PUT t p d ps) m ≡ accept nothing no_buffers after-put
  unfolding outcome act
  put-accepted e =
      let one = passed (stamp_ok t && new_path_ok p && pairs_ok ps) badRequest (put_at A (state_in m) t p d (pair_map ps)) e in
      one.1 ∙ put-at-accepted A (state_in m) t p d (pair_map ps) (sym (ap result_of one.1) ∙ e)

  put-valid : Valid A (state_in m) → result_of (outcome (PUT t p d ps) m) ≡ 0 → Valid A after-put
  unfolding outcome
  put-valid v e = subst (Valid A) (ap (after (state_in m)) (put-accepted e)) (next-valid A (state_in m) (PUT t p d ps) v)

-- the object that is put, by the digest of its data
module _ (t : ℕ) (p d : Bytes) (ps : List Pair) (digest : Digest) (e : digest ≡ md5 d) where
  pub put-ready : (tables arena : List ℕ) → AreBytes tables → whole tables arena ≡ true → result_of (outcome (PUT t p d ps) (memory tables arena)) ≡ 0
      → Valid (length arena) (with_object (state_of tables arena) p (plain_with t digest d (pair_map ps)))
  put-ready tables arena b w j =
      subst (λ (y : Object). Valid (length arena) (with_object (state_of tables arena) p y)) (sym (plain-is t d (pair_map ps) digest e)) (put-valid (memory tables arena) t p d ps (whole-stands tables arena b w).valid j)

  -- the pairs passed their test
  pub pairs-taken : (tables arena : List ℕ) → result_of (outcome (PUT t p d ps) (memory tables arena)) ≡ 0 → pairs_ok ps ≡ true
  unfolding outcome act
  pairs-taken tables arena j =
      let one = (passed (stamp_ok t && new_path_ok p && pairs_ok ps) badRequest (put_at (length arena) (state_of tables arena) t p d (pair_map ps)) j).0 in
      (both (stamp_ok t && new_path_ok p) (pairs_ok ps) one).1

  pub put-stands : (s : State) (tables arena : List ℕ) → Stands tables arena (with_object s p (plain_with t digest d (pair_map ps))) → Stands tables arena (with_object s p (plain_object t d (pair_map ps)))
  put-stands s tables arena h = subst (λ (y : Object). Stands tables arena (with_object s p y)) (plain-is t d (pair_map ps) digest e) h
