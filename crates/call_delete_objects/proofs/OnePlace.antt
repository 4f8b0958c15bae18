-- The DELETE of a place, by the DELETE of the path that stands there. Assumes nothing.
use Prim.Native.Nat.{ℕ, ◌+◌, ◌-◌, ◌<◌, ◌≤◌}
use mathlib.Core.Path.{◌≡◌, sym, ap, ◌∙◌}
use mathlib.Core.Bool.{true}
use native.Mathlib.Omega.{arith}
use borrow.Author.Tests.{le-leb, lt-leb}
use lib.Dec.{leb}
use lib.ListN.{length, take, drop}
use Rattle.base_number.specs.Number.{AreBytes}
use Rattle.machine.specs.Names.{Bytes}
use Rattle.machine.specs.Calls.{DELETE, NamePlace, Reply, badRequest}
use Rattle.machine.specs.Steps.{delete_at, delete_place, act}
use Rattle.mem_layout.proofs.WholeLaws.{whole-stands}
use Rattle.call_contract.specs.Made.{Memory, whole_memory, state_in, outcome, MadeWhole}
use Rattle.call_contract.proofs.Judging.{pass, stop}
use Rattle.call_contract.proofs.MadeLaws.{stands_after}
use Rattle.call_delete_objects.specs.PlaceDone.{PlaceDone}

-- the place p of the names, over whole memory m
module _ (m : Memory) (b : AreBytes m.tables) (w : whole_memory m ≡ true) (names : Bytes) (p : NamePlace) where
  abbrev path : Bytes
  path = take p.length (drop p.start names)

  pub outside : length names < p.start + p.length → PlaceDone names p m 2 m
  unfolding delete_place
  outside h =
      let e = stop (leb (p.start + p.length) (length names)) badRequest (delete_at (state_in m) path) (lt-leb _ _ h) in
      record { result = rw e; stands = rw e (whole-stands m.tables m.arena b w) }

  is-delete : p.start + p.length ≤ length names → delete_place (state_in m) names p ≡ outcome (DELETE path) m
  unfolding delete_place outcome act
  is-delete h = pass (leb (p.start + p.length) (length names)) badRequest (delete_at (state_in m) path) (le-leb _ _ h)

  pub inside : (to : ℕ) → to ≡ p.start + p.length → to ≤ length names → {m' : Memory} (r : Reply)
      → MadeWhole (DELETE (take (to - p.start) (drop p.start names))) m r m' → (n : ℕ) → n ≡ r.result → PlaceDone names p m n m'
  inside to is h {m'} r d n n-is =
      let l : to - p.start ≡ p.length = omega arith in
      let k : MadeWhole (DELETE path) m r m' = rw l at d in
      let e = is-delete (omega arith) in
      record { result = n-is ∙ ap (λ (y : Reply). y.result) k.answers ∙ sym (rw e); stands = rw e (stands_after w k (whole-stands m.tables m.arena b w)) }
