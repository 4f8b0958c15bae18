-- `mem_join::join_with` meets its contract: the upload taken out, the object moved to its place. Assumes nothing.
use Prim.Native.Nat.{ℕ}
use mathlib.Core.Path.{◌≡◌, subst}
use mathlib.Core.List.{List}
use native.Mathlib.Omega.{arith}
use lib.ListN.{length}
use Rattle.machine.specs.State.{State}
use Rattle.mem_layout.specs.Memory.{state_of, Stands}
use Rattle.mem_layout.proofs.WholeLaws.{whole-stands}
use Rattle.mem_join.proofs.Joining.{moved-place, movable, state-is}
use Rattle.mem_join.proofs.join_with.Goals as goal

pub take_upload-taken-requires : goal.take_upload-taken-requires
take_upload-taken-requires c =
    let j = c.requires.at_path.joinable in
    (j.is_whole, j.listed, λ x f. let p = j.placed x f in (p.0, p.2))

pub move_object-requires : goal.move_object-requires
move_object-requires c =
    let t : List ℕ = c.args.tables.now in
    let a : List ℕ = c.args.arena.now in
    let t₁ : List ℕ = c.take_upload-taken.new.tables in
    let a₁ : List ℕ = c.take_upload-taken.new.arena in
    let stands : Stands t a (state_of t a) = whole-stands t a (λ j. (c.slice_known-1.given j).fits) c.requires.at_path.joinable.is_whole in
    let j = c.requires in
    let out = c.take_upload-taken.ensures j.at_path.joinable.listed in
    let kept : length (a₁) ≡ length (a) = omega (arith, c.take_upload-taken.auto.tables) in
    (moved-place _ _ _ _ _ _ _ _ _ _ j (stands) (t₁) (a₁) _ out, movable _ _ _ _ _ _ _ _ _ _ j (stands) (t₁) (a₁) _ out kept)

pub returns : goal.returns
returns c =
    let t : List ℕ = c.args.tables.now in
    let a : List ℕ = c.args.arena.now in
    let t₁ : List ℕ = c.take_upload-taken.new.tables in
    let a₁ : List ℕ = c.take_upload-taken.new.arena in
    let stands : Stands t a (state_of t a) = whole-stands t a (λ j. (c.slice_known-1.given j).fits) c.requires.at_path.joinable.is_whole in
    λ j. subst (λ (z : State). Stands c.move_object.new.tables c.move_object.new.arena z)
    (state-is _ _ _ _ _ _ _ _ _ _ j (stands) (t₁) (a₁) _ (c.take_upload-taken.ensures j.at_path.joinable.listed))
    c.move_object.ensures
