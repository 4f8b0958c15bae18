-- INITIATE: its refusals in checking order, and what it leaves. Assumes nothing.
use Prim.Native.Nat.{ℕ, ◌+◌, ◌≤◌, ◌<◌}
use mathlib.Core.Path.{◌≡◌, refl, sym, ap, ◌∙◌, subst}
use mathlib.Core.Bool.{Bool, true, false, ◌&&◌, cond}
use mathlib.Core.List.{List}
use native.Mathlib.Omega.{arith}
use borrow.Author.Tests.{le-leb, lt-leb, leb-true}
use lib.Dec.{leb}
use lib.ListN.{length}
use Rattle.base_number.specs.Number.{AreBytes}
use Rattle.base_order.proofs.OrderLaws.{numbers}
use Rattle.machine.specs.Map.{Map, by_number, insert}
use Rattle.machine.specs.Names.{Bytes, new_path_ok, stamp_ok, last_upload_number}
use Rattle.machine.specs.Pairs.{Pair, pairs_ok, pair_map, pairs_held, kept}
use Rattle.machine.specs.State.{State, held, counted}
use Rattle.machine.specs.Valid.{Valid}
use Rattle.machine.specs.Calls.{INITIATE, number, no_buffers, badRequest, tableFull, arenaFull, numbersUsedUp, Outcome, accept, ◌else◌then◌}
use Rattle.machine.specs.Steps.{new_upload, act, after}
use Rattle.machine.proofs.Counts.{no-upload, held-open, initiate-counted}
use Rattle.machine.proofs.KeepsValid.{next-valid}
use Rattle.machine.proofs.MapSums.{length-insert}
use Rattle.machine.proofs.Options.{both}
use Rattle.mem_layout.specs.declared.Header.{Header}
use Rattle.mem_layout.specs.Memory.{whole, state_of, Stands}
use Rattle.mem_layout.proofs.WholeLaws.{whole-stands}
use Rattle.mem_layout.proofs.StandsLaws.{header-back}
use Rattle.mem_layout.specs.Header.{header_at, header_length}
use Rattle.mem_layout.proofs.RowCounts.{length-contents}
use Rattle.mem_find.specs.declared.RowPlace.{RowPlace}
use Rattle.mem_find.specs.Places.{place_after}
use Rattle.mem_find.specs.Known.{rows_in}
use Rattle.machine.proofs.PairLaws as pairs
use Rattle.call_contract.specs.Made.{Memory, state_in, outcome, result_of}
use Rattle.call_contract.proofs.Judging.{pass, result-pass, result-stop, passed}
use Rattle.call_initiate.specs.Initiate.{with_new, open_at, OpenResult}

-- a judge's number says whether its test is passed
test-passed : (b : Bool) (n r : ℕ) → r ≡ cond b 0 n → (n ≡ 0 → ⊥) → r ≡ 0 → b ≡ true
test-passed true n r e not z = refl
test-passed false n r e not z = absurd (not (sym e ∙ z))

test-failed : (b : Bool) (n r : ℕ) → r ≡ cond b 0 n → (r ≡ 0 → ⊥) → (b ≡ false) × (r ≡ n)
test-failed true n r e not = absurd (not e)
test-failed false n r e not = (refl, e)

-- The ceilings and the number ------------------------------------------------------------------------------------------------

module _ (t a : List ℕ) (b : AreBytes t) (w : whole t a ≡ true) where
  abbrev s : State
  s = state_of t a

  abbrev stands : Stands t a s
  stands = whole-stands t a b w

  pub next-is : (header : Header) → header ≡ header_at t → header.next ≡ s.N
  next-is header read = ap (λ (h : Header). h.next) (read ∙ header-back t a s stands)

  pub header-inside : header_length ≤ length t
  header-inside = let z = stands.size in omega arith

  -- the rows end after the bytes held
  held-end : (end : RowPlace) → end ≡ place_after (rows_in t a) → end.base ≡ held s
  held-end end e = ap (λ (x : RowPlace). x.base) e ∙ length-contents s

  pub held-inside : (end : RowPlace) → end ≡ place_after (rows_in t a) → end.base ≤ length a
  held-inside end e = let r = stands.valid.room in omega (arith, held-end end e)

  module _ (ps : List Pair) (taken-ok : pairs_ok ps ≡ true) where
    abbrev m : Map Bytes Bytes
    m = pair_map ps

    -- the checks that are left after each
    module _ (stamp : ℕ) (p : Bytes) where
      abbrev s' : State
      s' = with_new s stamp p m

      abbrev numbering : Outcome
      numbering = leb s.N last_upload_number else numbersUsedUp then accept (number s.N) no_buffers s'

      abbrev holding : Outcome
      holding = leb (held s') (length a) else arenaFull then numbering

      opens : length (insert by_number s.N (new_upload stamp p m) s.U) ≡ length s.U + 1
      opens = let l = length-insert numbers s.N (new_upload stamp p m) s.U in omega (arith, rw (no-upload s.N s.U stands.valid.upload) at l)

      counted_is : counted s' ≡ leb (length s.U + 1) 16
      counted_is = initiate-counted (length a) s stands.valid s.N stamp p m ∙ ap (λ (n : ℕ). leb n 16) opens

      held-is : held s' ≡ held s + pairs_held m
      held-is = sym (held-open s stamp p m stands.valid.upload)

    module _ (uploads : ℕ) (uploads-are : uploads ≡ length (state_of t a).U) where
      pub full : 16 ≤ uploads → OpenResult t a (pair_map ps) 4
      unfolding open_at
      full l stamp p = sym (result-stop (counted (s' stamp p)) tableFull (holding stamp p) (counted_is stamp p ∙ lt-leb (length s.U + 1) 16 (omega (arith, uploads-are))))

      module _ (l : uploads < 16) (end : RowPlace) (end-is : end ≡ place_after (rows_in t a)) (n r : ℕ) (n-is : n ≡ pairs_held (kept ps)) (r-is : r ≡ cond (leb (end.base + n) (length a)) 0 5) where
        counts-pass : (stamp : ℕ) (p : Bytes) → open_at (length a) s stamp p m ≡ holding stamp p
        unfolding open_at
        counts-pass stamp p = pass (counted (s' stamp p)) tableFull (holding stamp p) (counted_is stamp p ∙ le-leb (length s.U + 1) 16 (omega (arith, uploads-are)))

        held-tested : (stamp : ℕ) (p : Bytes) → leb (held (s' stamp p)) (length a) ≡ leb (end.base + n) (length a)
        held-tested stamp p = let e : held (s' stamp p) ≡ end.base + n = omega (arith, held-is stamp p, held-end end end-is, n-is, pairs.held-is ps taken-ok) in ap (λ (k : ℕ). leb k (length a)) e

        pub no_room : (r ≡ 0 → ⊥) → OpenResult t a (pair_map ps) r
        no_room not stamp p =
            let f = test-failed (leb (end.base + n) (length a)) 5 r r-is not in
            sym (ap result_of (counts-pass stamp p) ∙ result-stop (leb (held (s' stamp p)) (length a)) arenaFull (numbering stamp p) (held-tested stamp p ∙ f.0) ∙ sym f.1)

        module _ (z : r ≡ 0) (header : Header) (read : header ≡ header_at t) where
          room-pass : (stamp : ℕ) (p : Bytes) → open_at (length a) s stamp p m ≡ numbering stamp p
          room-pass stamp p =
              counts-pass stamp p
              ∙ pass (leb (held (s' stamp p)) (length a)) arenaFull (numbering stamp p) (held-tested stamp p ∙ test-passed (leb (end.base + n) (length a)) 5 r r-is (λ e. omega arith) z)

          pub used-up : 4294967295 < header.next → OpenResult t a (pair_map ps) 6
          used-up k stamp p =
              sym (ap result_of (room-pass stamp p)
              ∙ result-stop (leb s.N last_upload_number) numbersUsedUp (accept (number s.N) no_buffers (s' stamp p)) (lt-leb s.N last_upload_number (omega (arith, next-is header read))))

          pub opened : header.next ≤ 4294967295 → OpenResult t a (pair_map ps) 0
          opened k stamp p =
              sym (ap result_of (room-pass stamp p)
              ∙ result-pass (leb s.N last_upload_number) numbersUsedUp (accept (number s.N) no_buffers (s' stamp p)) (le-leb s.N last_upload_number (omega (arith, next-is header read))))

-- The request, and what is left ----------------------------------------------------------------------------------------------

module _ (m : Memory) (stamp : ℕ) (p : Bytes) (ps : List Pair) where
  abbrev A : ℕ
  A = length m.arena

  abbrev taken : Bool
  taken = stamp_ok stamp && new_path_ok p && pairs_ok ps

  abbrev s₁ : State
  s₁ = with_new (state_in m) stamp p (pair_map ps)

  abbrev step : Outcome
  step = open_at A (state_in m) stamp p (pair_map ps)

  pub bad : taken ≡ false → 2 ≡ result_of (outcome (INITIATE stamp p ps) m)
  unfolding outcome act open_at
  bad e = sym (result-stop taken badRequest step e)

  pub initiate-judged : stamp_ok stamp ≡ true → new_path_ok p ≡ true → pairs_ok ps ≡ true → (r : ℕ) → r ≡ result_of step → r ≡ result_of (outcome (INITIATE stamp p ps) m)
  unfolding outcome act open_at
  initiate-judged e f g r is = is ∙ sym (result-pass taken badRequest step (rw (e, f, g)))

  -- result 0: all checks were passed
  module _ (zero-result : result_of (outcome (INITIATE stamp p ps) m) ≡ 0) where
    request-passed : (taken ≡ true) × (outcome (INITIATE stamp p ps) m ≡ step)
    unfolding outcome act open_at
    request-passed = passed taken badRequest step zero-result

    pub pairs-taken : pairs_ok ps ≡ true
    pairs-taken = (both (stamp_ok stamp && new_path_ok p) (pairs_ok ps) request-passed.0).1

    -- the last test, and the outcome
    numbered : (leb (state_in m).N last_upload_number ≡ true) × (step ≡ accept (number (state_in m).N) no_buffers s₁)
    unfolding open_at
    numbered =
        let last = leb (state_in m).N last_upload_number else numbersUsedUp then accept (number (state_in m).N) no_buffers s₁ in
        let z : result_of step ≡ 0 = sym (ap result_of request-passed.1) ∙ zero-result in
        let two = passed (counted s₁) tableFull (leb (held s₁) A else arenaFull then last) z in
        let three = passed (leb (held s₁) A) arenaFull last (sym (ap result_of two.1) ∙ z) in
        let four = passed (leb (state_in m).N last_upload_number) numbersUsedUp (accept (number (state_in m).N) no_buffers s₁) (sym (ap result_of (two.1 ∙ three.1)) ∙ z) in
        (four.0, two.1 ∙ three.1 ∙ four.1)

    pub initiate-accepted : outcome (INITIATE stamp p ps) m ≡ accept (number (state_in m).N) no_buffers s₁
    initiate-accepted = request-passed.1 ∙ numbered.1

    pub last-number : (state_in m).N ≤ 4294967295
    last-number = leb-true (state_in m).N last_upload_number numbered.0

    pub target-valid : Valid A (state_in m) → Valid A s₁
    unfolding outcome
    target-valid v = subst (Valid A) (ap (after (state_in m)) initiate-accepted) (next-valid A (state_in m) (INITIATE stamp p ps) v)
