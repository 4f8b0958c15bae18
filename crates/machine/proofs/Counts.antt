-- What a proof about code meets: each ceiling by the one count that a call can pass, and what a call does to the bytes held.
-- Assumes nothing.
use Prim.Native.Nat.{ℕ, ◌+◌, ◌≤◌}
use mathlib.Core.Path.{◌≡◌, refl, ◌∙◌}
use mathlib.Core.List.{List, [], ◌∷◌}
use mathlib.Core.Option.{none, some}
use native.Mathlib.Omega.{arith}
use borrow.Author.Tests.{le-leb}
use lib.Dec.{leb}
use lib.ListN.{length}
use Rattle.base_order.specs.Order.{by_bytes}
use Rattle.base_order.proofs.OrderLaws.{numbers, bytes, compare-above}
use Rattle.machine.specs.Map.{Map, by_number, lookup, insert, remove, Every, total, owed}
use Rattle.machine.specs.Names.{Bytes}
use Rattle.machine.specs.Pairs.{pairs_held}
use Rattle.machine.specs.State.{Object, Part, Upload, State, with_object, without_object, with_upload, without_upload, with_next, with_part, object_length, part_length, upload_length, parts_in, held, counted}
use Rattle.machine.specs.Steps.{take_listed, new_upload, joined_object}
use Rattle.machine.specs.Valid.{Valid, UploadOk}
use Rattle.machine.proofs.Options.{and-true}
use Rattle.machine.proofs.MapSums.{total-insert, total-remove, length-insert, length-remove}
use Rattle.machine.proofs.ListFits.{fit-contents}

-- PUT, COPY and COMMIT can pass the count of paths alone, INITIATE that of uploads, PART that of parts
module _ (A : ℕ) (s : State) (v : Valid A s) where
  pub put-counted : (p : Bytes) (y : Object) → counted (with_object s p y) ≡ leb (length (insert by_bytes p y s.O)) 256
  unfolding counted
  put-counted p y = rw (le-leb _ _ v.opens, le-leb _ _ v.parts) (and-true _ ∙ and-true _)

  pub commit-counted : (u : ℕ) (p : Bytes) (y : Object) → counted (without_upload (with_object s p y) u) ≡ leb (length (insert by_bytes p y s.O)) 256
  unfolding counted
  commit-counted u p y =
      let a : length (remove by_number u s.U) ≤ 16 = omega (arith, v.opens, length-remove numbers u s.U) in
      let b : total parts_in (remove by_number u s.U) ≤ 256 = omega (arith, v.parts, total-remove numbers parts_in u s.U) in
      rw (le-leb _ _ a, le-leb _ _ b) (and-true _ ∙ and-true _)

  pub initiate-counted : (u t : ℕ) (p : Bytes) (m : Map Bytes Bytes) → counted (with_next (with_upload s u (new_upload t p m))) ≡ leb (length (insert by_number u (new_upload t p m) s.U)) 16
  unfolding counted
  initiate-counted u t p m =
      let b : total parts_in (insert by_number u (new_upload t p m) s.U) ≤ 256 = omega (arith, v.parts, total-insert numbers parts_in u (new_upload t p m) s.U) in
      rw (le-leb _ _ v.paths, le-leb _ _ b) (and-true _)

  pub part-counted : (u : ℕ) (x y : Upload) → lookup by_number u s.U ≡ some x → counted (with_upload s u y) ≡ leb (total parts_in (insert by_number u y s.U)) 256
  unfolding counted
  part-counted u x y e =
      let a : length (insert by_number u y s.U) ≤ 16 = omega (arith, v.opens, rw e at (length-insert numbers u y s.U)) in
      rw (le-leb _ _ v.paths, le-leb _ _ a)

-- no upload has the next number
pub no-upload : (N : ℕ) (us : Map ℕ Upload) → Every (UploadOk N) us → lookup by_number N us ≡ none
no-upload N [] v = refl
no-upload N (e ∷ us) v = rw (compare-above N e.0 v.0.high) (no-upload N us v.1)

-- the bytes held, and the parts: what was there is taken off, and what comes is added
module _ (s : State) where
  pub held-put : (p : Bytes) (y : Object) → held (with_object s p y) + owed object_length (lookup by_bytes p s.O) ≡ held s + object_length y
  unfolding held
  held-put p y = omega (arith, total-insert bytes object_length p y s.O)

  pub held-delete : (p : Bytes) → held (without_object s p) + owed object_length (lookup by_bytes p s.O) ≡ held s
  unfolding held
  held-delete p = omega (arith, total-remove bytes object_length p s.O)

  -- an upload opened adds the bytes of its pairs
  pub held-open : (stamp : ℕ) (p : Bytes) (m : Map Bytes Bytes) → Every (UploadOk s.N) s.U → held s + pairs_held m ≡ held (with_next (with_upload s s.N (new_upload stamp p m)))
  unfolding held
  held-open stamp p m v = omega (arith, rw (no-upload s.N s.U v) at (total-insert numbers upload_length s.N (new_upload stamp p m) s.U))

  pub held-abort : (u : ℕ) → held (without_upload s u) + owed upload_length (lookup by_number u s.U) ≡ held s
  unfolding held
  held-abort u = omega (arith, total-remove numbers upload_length u s.U)

  pub held-part : (u n : ℕ) (x : Upload) (y : Part) → lookup by_number u s.U ≡ some x →
      held (with_upload s u (with_part x n y)) + owed part_length (lookup by_number n x.parts) ≡ held s + part_length y
  unfolding held
  held-part u n x y e =
      omega (arith, rw e at (total-insert numbers upload_length u (with_part x n y) s.U), total-insert numbers part_length n y x.parts)

  pub parts-part : (u n : ℕ) (x : Upload) (y : Part) → lookup by_number u s.U ≡ some x →
      total parts_in (insert by_number u (with_part x n y) s.U) + owed (λ (z : Part). 1) (lookup by_number n x.parts) ≡ total parts_in s.U + 1
  parts-part u n x y e =
      omega (arith, rw e at (total-insert numbers parts_in u (with_part x n y) s.U), length-insert numbers n y x.parts)

  pub held-commit : (u : ℕ) (x : Upload) (ns : List ℕ) (xs : List Part) (p : Bytes) → lookup by_number u s.U ≡ some x → take_listed ns x.parts ≡ some xs →
      held (without_upload (with_object s p (joined_object x xs)) u) + owed object_length (lookup by_bytes p s.O) ≡ held s
  unfolding held
  held-commit u x ns xs p e f =
      omega (arith, total-insert bytes object_length p (joined_object x xs) s.O, rw e at (total-remove numbers upload_length u s.U), fit-contents ns x.parts xs f)
